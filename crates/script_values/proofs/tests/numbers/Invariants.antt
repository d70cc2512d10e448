use Rattle.script_values.specs.Values.{ArePolynomials}
use Rattle.script_values.proofs.tests.numbers.Given as goal

abbrev pub invariant-loop-number : goal.invariant-loop-number
invariant-loop-number l = ArePolynomials l.algebra l.polys
