-- Products that are at fault.
use Rattle.std.specs.Prelude.{◌≡◌}
use Rattle.algebra.specs.declared.ProductFault.{ProductFault}
use Rattle.algebra.specs.declared.ProductFault.TheVariants as fault
use Rattle.script_model.specs.declared.values.Refusal.TheVariants as refused
use Rattle.script_values.specs.declared.stop.Stop.{Stop}
use Rattle.script_values.specs.declared.stop.Stop.TheVariants as stop

-- why there is no value
abbrev pub IsStopOf : ProductFault → Stop → Type 0
IsStopOf fault.DegreeOver s = s ≡ stop.Refused refused.DegreeOver
IsStopOf fault.Memory s = s ≡ stop.Memory
