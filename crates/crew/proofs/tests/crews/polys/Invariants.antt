use Rattle.monomials.specs.Polynomials.{Each, IsPolynomial}
use Rattle.crew.proofs.tests.crews.polys.Given as goal

abbrev pub invariant-loop-piece : goal.invariant-loop-piece
invariant-loop-piece l = Each (IsPolynomial l.field l.order) l.polys.items
