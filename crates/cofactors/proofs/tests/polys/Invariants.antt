use Rattle.monomials.specs.Polynomials.{Each, IsPolynomial}
use Rattle.cofactors.proofs.tests.polys.Given as goal

-- all so far are polynomials of the algebra
abbrev pub invariant-loop-piece : goal.invariant-loop-piece
invariant-loop-piece l = Each (IsPolynomial l.algebra.p l.algebra.order) l.polys.items
