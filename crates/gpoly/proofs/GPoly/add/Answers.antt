use Rattle.std.proofs.Common.{◌∙◌, ap}
use Rattle.std.proofs.lemmas.Result.{IfOk-weaker}
use Rattle.monomials.specs.Orders.{order_cmp}
use Rattle.monomials.specs.Polynomials.{poly_add}
use Rattle.gpoly.proofs.Multiples.{poly_scale-one}
use Rattle.gpoly.proofs.GPoly.add.Goals as goal

pub returns-clause-value : goal.returns-clause-value
returns-clause-value c =
    IfOk-weaker c.add_multiple.result _ _
    (λ r e. e ∙ ap (poly_add (order_cmp c.args.order.now.rows) c.args.field c.args.self.now) (poly_scale-one (order_cmp c.args.order.now.rows) c.args.field c.args.other.now c.requires.other_sorted.canonical))
    c.add_multiple.ensures.value
