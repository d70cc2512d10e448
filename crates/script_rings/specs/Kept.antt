-- What a list is answered with that the program keeps as a vector.
use Rattle.std.specs.Prelude.{◌≡◌, List, Result, Ok, Err}
use Rattle.std.specs.Global.{Vec}
use Rattle.script_model.specs.Refusals.{Outcome}
use Rattle.script_values.specs.declared.stop.Stop.{Stop}
use Rattle.script_values.specs.Gives.{Stops}

-- the list, or the refusal, unless memory is wanting
abbrev pub GivesList : {A : Type 0} → Result (Vec A) Stop → Outcome (List A) → Type 0
GivesList (Ok v) o = o ≡ Ok v.items
GivesList (Err e) o = Stops e o
