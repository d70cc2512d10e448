use Rattle.std.proofs.Common.{sym, ◌∙◌, ap, arith}
use Rattle.script_rings.specs.Walks.{walked}
use Rattle.script_rings.proofs.Walking.{walked-long, walked-more}
use Rattle.script_rings.proofs.blocks.push_item.Goals as goal

pub returns-then-len-left-clause-refused : goal.returns-then-len-left-clause-refused
returns-then-len-left-clause-refused c = λ n rest some behind.
    walked-long c.args.bytes.now n c.args.blocks.now.items c.args.item.now rest c.text-name.result.now c.text-name.ensures
    (sym c.is_component.ensures ∙ c.if-is_component.false) c.args.left some c.in-Some.block (sym c.in-Some.is ∙ c.in_ok-block.ensures)
    (omega (arith, c.if-len-left.true, c.covered-len.ensures))

pub returns-clause-goes_on : goal.returns-clause-goes_on
returns-clause-goes_on c = λ n rest some behind.
    walked-more c.args.bytes.now n c.args.blocks.now.items c.args.item.now rest c.text-name.result.now c.text-name.ensures
    (sym c.is_component.ensures ∙ c.if-is_component.false) c.args.left some c.in-Some.block (sym c.in-Some.is ∙ c.in_ok-block.ensures)
    ∙ ap (λ bs. walked c.args.bytes.now n bs rest) (sym c.in_ok-push_block.ensures)
