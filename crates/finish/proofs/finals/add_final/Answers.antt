use Rattle.std.proofs.Common.{◌≡◌, ◌≢◌, [], sym, ap, subst, arith}
use Rattle.monomials.specs.Polynomials.{IsPolynomial}
use Rattle.word_model.specs.Words.{Algebra}
use Rattle.word_model.specs.Conditions.{IsGAlgebra}
use Rattle.word_model.specs.Reduction.{Reduced}
use Rattle.word_model.specs.Machine.{IsElement}
use Rattle.word_model.proofs.LeastNumbers.{Each-element}
use Rattle.finish.proofs.Tails.{reduce_tail-element}
use Rattle.finish.proofs.finals.add_final.Goals as goal

pub insert_final-requires-clause-x : goal.insert_final-requires-clause-x
insert_final-requires-clause-x g c =
    let A = c.args.seat.now.algebra in
    let K = g.E.Elements.elements c.args.elements.now in
    let same : c.algebra-algebra.result.now ≡ A = c.algebra-algebra.ensures in
    let accepted : IsGAlgebra A = subst IsGAlgebra same c.n-n.ensures.accepted in
    let is : IsPolynomial A.p A.order c.at-element.result.now =
    subst (IsPolynomial A.p A.order) (sym c.at-element.ensures) (Each-element (IsPolynomial A.p A.order) K c.args.number c.requires.sorted c.requires.first c.requires.last) in
    let nonzero : c.at-element.result.now ≢ [] = λ none. (grind (arith, c.is_zero.ensures, c.if-is_zero.false, none)) in
    let x = reduce_tail-element A accepted K c.requires.sorted c.at-element.result.now nonzero is in
    subst (λ (A : Algebra). IsElement A c.in_ok-polynomial.polynomial) (sym same) (subst (IsElement A) (ap (λ (r : Reduced). r.rest) c.in_ok-polynomial.ensures.value) x)
