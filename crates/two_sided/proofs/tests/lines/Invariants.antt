use Rattle.monomials.specs.Polynomials.{Each}
use Rattle.two_sided.specs.Checks.{IsLine}
use Rattle.two_sided.proofs.tests.lines.Given as goal

abbrev pub invariant-loop-piece : goal.invariant-loop-piece
invariant-loop-piece l = Each (IsLine l.alg) l.lines.items
