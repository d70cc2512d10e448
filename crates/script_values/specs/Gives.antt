-- What an evaluation answers.
use Rattle.std.specs.Prelude.{◌≡◌, Result, Ok, Err}
use Rattle.script_model.specs.Refusals.{Outcome}
use Rattle.script_values.specs.declared.stop.Stop.{Stop}
use Rattle.script_values.specs.declared.stop.Stop.TheVariants as stop

-- the refusal, unless memory is wanting
abbrev pub Stops : {A : Type 0} → Stop → Outcome A → Type 0
Stops (stop.Refused r) o = o ≡ Err r
Stops stop.Memory o = Unit {0}

-- the value, or the refusal, unless memory is wanting
abbrev pub Gives : {A : Type 0} → Result A Stop → Outcome A → Type 0
Gives (Ok a) o = o ≡ Ok a
Gives (Err e) o = Stops e o
