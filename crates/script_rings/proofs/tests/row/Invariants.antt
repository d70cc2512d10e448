use Rattle.script_values.specs.Values.{ArePolynomials}
use Rattle.script_rings.proofs.tests.row.Given as goal

abbrev pub invariant-loop-piece : goal.invariant-loop-piece
invariant-loop-piece l = ArePolynomials l.ring.algebra l.entries.items
