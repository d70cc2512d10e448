use Rattle.std.proofs.Common.{◌≡◌, sym, ap, ◌∙◌, subst, subst₂}
use Rattle.monomials.specs.Orders.{RowOrder}
use Rattle.monomials.specs.Polynomials.{HasNumbers, IsPolynomial}
use Rattle.monomials.proofs.Operations.{HasNumbers-polynomial}
use Rattle.word_model.specs.Words.{Algebra}
use Rattle.two_sided.proofs.subtracting.add_step.Goals as goal

pub into_multiple-negative-requires-clause-numbers : goal.into_multiple-negative-requires-clause-numbers
into_multiple-negative-requires-clause-numbers g c =
    let p_is : c.field-field.result ≡ c.args.seat.now.algebra.p = c.field-field.ensures ∙ ap (λ (a : Algebra). a.p) c.algebra-alg.ensures in
    subst (λ p. HasNumbers p c.in_ok-product.product) (sym p_is) (HasNumbers-polynomial _ _ c.in_ok-product.product c.in_ok-product.ensures.sorted)

pub add-requires-clause-f_sorted : goal.add-requires-clause-f_sorted
add-requires-clause-f_sorted g c =
    let p_is : c.field-field.result ≡ c.args.seat.now.algebra.p = c.field-field.ensures ∙ ap (λ (a : Algebra). a.p) c.algebra-alg.ensures in
    let order_is : c.order.result.now ≡ c.args.seat.now.algebra.order = c.order.ensures ∙ ap (λ (a : Algebra). a.order) c.algebra-alg.ensures in
    c.into_multiple-negative.ensures.sorted c.order.result.now
    (subst₂ (λ p (o : RowOrder). IsPolynomial p o c.in_ok-product.product) (sym p_is) (sym order_is) c.in_ok-product.ensures.sorted)
