use Rattle.std.proofs.Common.{rules, ◌≡◌, ◌∙◌, ap, arith, IfOk}
use Rattle.std.proofs.lemmas.Result.{IfOk-weaker}
use Rattle.monomials.specs.Orders.{order_cmp}
use Rattle.monomials.specs.Polynomials.{poly_sub, coefficient_at}
use Rattle.gpoly.proofs.Multiples.{coefficient_of_difference}
use Rattle.gpoly.proofs.GPoly.sub.Goals as goal

pub returns-clause-map : goal.returns-clause-map
returns-clause-map c =
    let value : IfOk c.add_multiple.result (λ r. r ≡ poly_sub (order_cmp c.args.order.now.rows) c.args.field c.args.self.now c.args.other.now) = search rules in
    IfOk-weaker c.add_multiple.result _ _
    (λ r e m. ap (coefficient_at m) e ∙ coefficient_of_difference c.args.field c.args.order.now (omega (arith, c.p-minus_one.ensures.prime.above_one)) m c.args.self.now c.args.other.now c.requires.self_sorted c.requires.other_sorted)
    value
