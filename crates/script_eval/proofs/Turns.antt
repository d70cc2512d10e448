-- Steps that are made in turn.
use Rattle.std.proofs.Common.{◌≡◌, ℕ, ◌+◌, ◌<◌, ◌≤◌, List, [], ◌∷◌, length, drop, get_or, Ok, Err, ap, ◌∙◌}
use Rattle.std.proofs.lemmas.List.{drop_more, drop_all}
use Rattle.script_model.specs.declared.values.Refusal.{Refusal}
use Rattle.script_model.specs.Refusals.{Outcome, ◌>>=◌, in_turn}
use Rattle.script_values.specs.declared.stop.Stop.{Stop}
use Rattle.script_values.specs.Gives.{Stops}
use Rattle.script_values.proofs.Stopping.{stops_through}

module _ {V X : Type 0} (step : V → X → Outcome V) (xs : List X) (all : Outcome V) (v : V) (i : ℕ) (so_far : all ≡ in_turn step v (drop i xs)) where
  pub turns_end : length xs ≤ i → all ≡ Ok v
  turns_end h = so_far ∙ ap (in_turn step v) (drop_all i xs h)

  turns_step : (x : X) → i < length xs → get_or xs i x ≡ x → all ≡ (step v x >>= λ w. in_turn step w (drop (i + 1) xs))
  turns_step x h e = so_far ∙ ap (in_turn step v) (drop_more xs i x h) ∙ ap (λ y. in_turn step v (y ∷ drop (i + 1) xs)) e

  pub turns_go : (x : X) (w : V) → i < length xs → get_or xs i x ≡ x → step v x ≡ Ok w → all ≡ in_turn step w (drop (i + 1) xs)
  turns_go x w h e s = turns_step x h e ∙ ap (λ o. o >>= λ w. in_turn step w (drop (i + 1) xs)) s

  pub turns_fail : (x : X) (e : Stop) → i < length xs → get_or xs i x ≡ x → Stops e (step v x) → Stops e all
  turns_fail x e h is s = stops_through e (step v x) all (λ r t. turns_step x h is ∙ ap (λ o. o >>= λ w. in_turn step w (drop (i + 1) xs)) t) s
