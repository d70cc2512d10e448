use Rattle.std.proofs.Common.{◌≡◌, ◌++◌, length, drop}
use Rattle.script_model.specs.Functions.{sorted_in}
use Rattle.script_values.specs.Values.{ArePolynomials}
use Rattle.script_functions.proofs.eliminations.sorted_in.Given as goal

abbrev pub invariant-loop-poly : goal.invariant-loop-poly
invariant-loop-poly l = record {
  value : sorted_in l.algebra l.polys ≡ l.sorted ++ sorted_in l.algebra (drop l.poly-index l.polys);
  polynomials : ArePolynomials l.algebra l.sorted;
  one_each : length l.sorted ≡ l.poly-index;
}
