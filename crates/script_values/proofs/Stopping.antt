-- A refusal is handed on.
use Rattle.std.proofs.Common.{◌≡◌, Err, ap}
use Rattle.script_model.specs.declared.values.Refusal.{Refusal}
use Rattle.script_model.specs.Refusals.{Outcome, ◌>>=◌}
use Rattle.script_values.specs.declared.stop.Stop.{Stop}
use Rattle.script_values.specs.declared.stop.Stop.TheVariants as stop
use Rattle.script_values.specs.Gives.{Stops}

pub stops_through : {A B : Type 0} (e : Stop) (o : Outcome A) (q : Outcome B) → ((r : Refusal) → o ≡ Err r → q ≡ Err r) → Stops e o → Stops e q
stops_through (stop.Refused r) o q f h = f r h
stops_through stop.Memory o q f h = tt

-- what follows a refusal is refused by it
pub stops_before : {A B : Type 0} (e : Stop) (o : Outcome A) (k : A → Outcome B) → Stops e o → Stops e (o >>= k)
stops_before e o k h = stops_through e o (o >>= k) (λ r s. ap (λ x. x >>= k) s) h
