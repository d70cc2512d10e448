use Rattle.std.proofs.Common.{◌∙◌, sym, arith}
use Rattle.std.proofs.lemmas.Result.{err_from_is_err_and}
use Rattle.plural_syntax.specs.declared.word.Word.TheVariants as w
use Rattle.plural_syntax.specs.Words.{is, lexemes}
use Rattle.plural_syntax.proofs.PartRules.{item_after_starts, rule_item_after}
use Rattle.plural_syntax.proofs.Loops.{repeats_end, repeats_fail, repeats_go}
use Rattle.plural_syntax.proofs.parts.items_after.Goals as goal

pub returns-clause-value : goal.returns-clause-value
returns-clause-value c = repeats_end (is w.Comma) item_after_starts (rule_item_after 0) c.loop-alloc.found _ (lexemes c.args.bytes.now c.loop-alloc.rest.now) c.loop-alloc.invariant.value (sym c.next_is.ensures ∙ c.loop-alloc-test.false)

pub returns-in_err-one-clause-value : goal.returns-in_err-one-clause-value
returns-in_err-one-clause-value c =
    let p = err_from_is_err_and c.from_residual.result c.from_residual.ensures.1 in
    rw (p.1, p.2) (repeats_fail (is w.Comma) item_after_starts (rule_item_after 0) c.loop-alloc.found _ (lexemes c.args.bytes.now c.loop-alloc.rest.now) c.loop-alloc.invariant.value (sym c.next_is.ensures ∙ c.loop-alloc-test.true) c.args.bytes.now c.in_err-one.field-0.0 c.in_err-one.ensures.value)

pub loop-alloc-preserved : goal.loop-alloc-preserved
loop-alloc-preserved c =
    let go = repeats_go (is w.Comma) item_after_starts (rule_item_after 0) c.loop-alloc.found _ (lexemes c.args.bytes.now c.loop-alloc.rest.now) c.loop-alloc.invariant.value (sym c.next_is.ensures ∙ c.loop-alloc-test.true) c.in_ok-one.one _ c.in_ok-one.ensures.value in
    record { shorter = omega (arith, c.in_ok-one.ensures.shorter); value = rw c.in_ok-push.ensures.ok go }
