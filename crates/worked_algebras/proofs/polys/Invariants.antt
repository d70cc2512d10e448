use Rattle.monomials.specs.Polynomials.{Each, IsPolynomial}
use Rattle.worked_algebras.proofs.polys.Given as goal

abbrev pub invariant-loop-piece : goal.invariant-loop-piece
invariant-loop-piece l = Each (IsPolynomial l.alg.p l.alg.order) l.polys.items
