use Rattle.std.proofs.Common.{◌≡◌, drop}
use Rattle.two_sided.specs.Checks.{names_elements}
use Rattle.two_sided.proofs.naming.names_elements.Given as goal

abbrev pub invariant-loop-step : goal.invariant-loop-step
invariant-loop-step l = record {
  value : names_elements l.elements l.trace ≡ names_elements l.elements (drop l.step-index l.trace);
}
