use Rattle.monomials.specs.Polynomials.{Each}
use Rattle.two_sided.specs.Checks.{IsTerm}
use Rattle.two_sided.proofs.tests.trace.Given as goal

abbrev pub invariant-loop-piece : goal.invariant-loop-piece
invariant-loop-piece l = Each (IsTerm l.alg) l.trace
