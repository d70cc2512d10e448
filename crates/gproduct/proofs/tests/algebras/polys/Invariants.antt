use Rattle.monomials.specs.Polynomials.{Each, IsPolynomial}
use Rattle.gproduct.proofs.tests.algebras.polys.Given as goal

-- the polynomials so far are sorted
abbrev pub invariant-loop-piece : goal.invariant-loop-piece
invariant-loop-piece l = Each (IsPolynomial l.field l.order) l.polys.items
