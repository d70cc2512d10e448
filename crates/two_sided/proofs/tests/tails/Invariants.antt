use Rattle.monomials.specs.Polynomials.{Each}
use Rattle.two_sided.specs.Checks.{IsTerm}
use Rattle.two_sided.proofs.tests.tails.Given as goal

abbrev pub invariant-loop-piece : goal.invariant-loop-piece
invariant-loop-piece l = Each (Each (IsTerm l.alg)) l.tails.items
