use Rattle.std.proofs.Common.{◌≡◌, ◌+◌, sym, subst, ◌∙◌, ap, arith}
use Rattle.std.proofs.lemmas.Result.{err_from_is_err_and}
use Rattle.script_values.specs.Gives.{Stops}
use Rattle.script_rings.specs.Walks.{ordered, covered_by, walked}
use Rattle.script_model.specs.Orders.{items_of}
use Rattle.script_rings.proofs.Walking.{walked-start}
use Rattle.script_rings.proofs.blocks.blocks_of.Goals as goal

pub returns-clause-blocks : goal.returns-clause-blocks
returns-clause-blocks c =
    let bytes = c.args.bytes.now in
    let none : covered_by c.new-blocks.result.items + c.args.n ≡ c.args.n = omega (arith, ap covered_by c.new-blocks.ensures.items) in
    walked-start bytes c.args.n c.args.order.now ∙ ap (λ bs. walked bytes c.args.n bs (items_of c.args.order.now)) (sym c.new-blocks.ensures.items)
    ∙ c.in_ok-push_order.ensures.goes_on c.args.n none

pub returns-in_err-push_order-clause-refused : goal.returns-in_err-push_order-clause-refused
returns-in_err-push_order-clause-refused c =
    let bytes = c.args.bytes.now in
    let none : covered_by c.new-blocks.result.items + c.args.n ≡ c.args.n = omega (arith, ap covered_by c.new-blocks.ensures.items) in
    let p = err_from_is_err_and c.from_residual.result c.from_residual.ensures.1 in
    rw (p.1, p.2)
    (subst (λ o. Stops c.in_err-push_order.field-0.0 (ordered o))
    (ap (λ bs. walked bytes c.args.n bs (items_of c.args.order.now)) c.new-blocks.ensures.items ∙ sym (walked-start bytes c.args.n c.args.order.now))
    (c.in_err-push_order.ensures.refused c.args.n none))
