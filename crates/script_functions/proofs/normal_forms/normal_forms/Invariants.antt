use Rattle.std.proofs.Common.{◌≡◌, drop, length}
use Rattle.gproduct.specs.Seats.{Keeps}
use Rattle.script_model.specs.Functions.{normal_forms}
use Rattle.script_values.specs.Prepended.{prepended}
use Rattle.script_values.specs.Values.{ArePolynomials}
use Rattle.script_functions.proofs.normal_forms.normal_forms.Given as goal

abbrev pub invariant-loop-f : goal.invariant-loop-f
invariant-loop-f g l = record {
  value : normal_forms l.fn.seat.algebra l.reducers.polys.now l.polys ≡ prepended l.forms (normal_forms l.fn.seat.algebra l.reducers.polys.now (drop l.f-index l.polys));
  polynomials : ArePolynomials l.fn.seat.algebra l.forms;
  one_each : length l.forms ≡ l.f-index;
  seat : l.seat.algebra ≡ l.fn.seat.algebra;
  kept : Keeps l.fn.seat l.seat;
}
