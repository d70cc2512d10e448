use Rattle.monomials.specs.Polynomials.{Each}
use Rattle.script_values.specs.Values.{IsValueOf}
use Rattle.script_functions.proofs.tests.values.Given as goal

abbrev pub invariant-loop-piece : goal.invariant-loop-piece
invariant-loop-piece l = Each (IsValueOf l.ring.algebra) l.values
