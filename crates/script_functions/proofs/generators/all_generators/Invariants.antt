use Rattle.std.proofs.Common.{◌≡◌, drop}
use Rattle.script_model.specs.Functions.{all_generators}
use Rattle.script_values.specs.Prepended.{prepended}
use Rattle.script_values.specs.Values.{ArePolynomials}
use Rattle.script_functions.proofs.generators.all_generators.Given as goal

abbrev pub invariant-loop-argument : goal.invariant-loop-argument
invariant-loop-argument l = record {
  value : all_generators l.arguments ≡ prepended l.found (all_generators (drop l.argument-index l.arguments));
  of_ring : ArePolynomials l.fn.scope.ring.algebra l.found;
}
