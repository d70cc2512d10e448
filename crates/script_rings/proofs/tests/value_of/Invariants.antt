use Rattle.monomials.specs.Polynomials.{Each}
use Rattle.script_values.specs.Values.{ArePolynomials}
use Rattle.script_rings.proofs.tests.value_of.Given as goal

abbrev pub invariant-loop-piece : goal.invariant-loop-piece
invariant-loop-piece l = Each (ArePolynomials l.ring.algebra) l.rows
