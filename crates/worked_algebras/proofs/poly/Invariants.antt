use Rattle.monomials.specs.Polynomials.{IsPolynomial}
use Rattle.worked_algebras.proofs.poly.Given as goal

-- the sum so far is sorted
abbrev pub invariant-loop-piece : goal.invariant-loop-piece
invariant-loop-piece l = IsPolynomial l.field l.order l.sum
