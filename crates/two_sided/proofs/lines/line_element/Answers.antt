use Rattle.std.proofs.Common.{◌≡◌, IfSome, sym, ap, ◌∙◌, subst}
use Rattle.monomials.specs.Polynomials.{HasNumbers, IsPolynomial}
use Rattle.monomials.proofs.Operations.{HasNumbers-polynomial}
use Rattle.word_model.specs.Words.{Algebra}
use Rattle.two_sided.proofs.LineTests.{monic_element}
use Rattle.two_sided.proofs.lines.line_element.Goals as goal

pub scale-requires-clause-numbers : goal.scale-requires-clause-numbers
scale-requires-clause-numbers g c =
    let A = c.args.seat.now.algebra in
    let p_is : c.field.result ≡ c.args.seat.now.algebra.p = c.field.ensures ∙ ap (λ (a : Algebra). a.p) (c.algebra.ensures ∙ c.start_left.ensures.algebra) in
    let left_is : IsPolynomial A.p A.order c.in-Some.left = subst (λ o. IfSome o (IsPolynomial A.p A.order)) c.in-Some.is c.in_ok-left.ensures.sorted in
    subst (λ p. HasNumbers p c.in-Some.left) (sym p_is) (HasNumbers-polynomial _ _ c.in-Some.left left_is)

pub returns-clause-element : goal.returns-clause-element
returns-clause-element g c =
    let A = c.args.seat.now.algebra in
    let p_is : c.field.result ≡ c.args.seat.now.algebra.p = c.field.ensures ∙ ap (λ (a : Algebra). a.p) (c.algebra.ensures ∙ c.start_left.ensures.algebra) in
    let left_is : IsPolynomial A.p A.order c.in-Some.left = subst (λ o. IfSome o (IsPolynomial A.p A.order)) c.in-Some.is c.in_ok-left.ensures.sorted in
    let element_is : IsPolynomial A.p A.order c.in_ok-element.element =
    subst (λ p. IsPolynomial p A.order c.in_ok-element.element) p_is
    (c.in_ok-element.ensures.sorted A.order (subst (λ p. IsPolynomial p A.order c.in-Some.left) (sym p_is) left_is)) in
    monic_element A c.in_ok-element.element c.only_monic.result element_is c.only_monic.ensures
