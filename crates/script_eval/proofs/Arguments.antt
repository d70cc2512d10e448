-- The values of arguments, one after another.
use Rattle.std.proofs.Common.{◌≡◌, ℕ, ◌+◌, ◌<◌, ◌≤◌, List, [], ◌∷◌, ◌++◌, map, length, drop, get_or, Ok, Err, refl, sym, ap, ◌∙◌, append_assoc, append-nil}
use Rattle.std.proofs.lemmas.List.{drop_more, drop_all}
use Rattle.plural_syntax.specs.declared.tree.Expr.{Expr}
use Rattle.script_model.specs.declared.values.Value.{Value}
use Rattle.script_model.specs.declared.values.Refusal.{Refusal}
use Rattle.script_model.specs.Refusals.{Outcome, ◌>>=◌}
use Rattle.script_model.specs.Expressions.{all_values}
use Rattle.script_values.specs.declared.stop.Stop.{Stop}
use Rattle.script_values.specs.Gives.{Stops}
use Rattle.script_values.specs.Prepended.{prepended}
use Rattle.script_values.proofs.Stopping.{stops_through}

prepended-append : (vs : List Value) (v : Value) (o : Outcome (List Value)) → prepended vs (prepended (v ∷ []) o) ≡ prepended (vs ++ v ∷ []) o
prepended-append vs v (Ok ws) = ap Ok (sym (append_assoc vs (v ∷ []) ws))
prepended-append vs v (Err r) = refl

module _ (inner : Expr → Outcome Value) where
  pub values_first : (e : Expr) (es : List Expr) (v : Value) → inner e ≡ Ok v → all_values inner (e ∷ es) ≡ prepended (v ∷ []) (all_values inner es)
  values_first e es v h = ap (λ o. o >>= λ w. all_values inner es >>= λ vs. Ok (w ∷ vs)) h

  pub values_refused : (x : Stop) (e : Expr) (es : List Expr) → Stops x (inner e) → Stops x (all_values inner (e ∷ es))
  values_refused x e es h = stops_through x (inner e) (all_values inner (e ∷ es)) (λ r s. ap (λ o. o >>= λ w. all_values inner es >>= λ vs. Ok (w ∷ vs)) s) h

  module _ {X : Type 0} (f : X → Expr) (xs : List X) (all : Outcome (List Value)) (vs : List Value) (i : ℕ) (so_far : all ≡ prepended vs (all_values inner (map f (drop i xs)))) where
    pub values_end : length xs ≤ i → all ≡ Ok vs
    values_end h = so_far ∙ ap (λ ys. prepended vs (all_values inner (map f ys))) (drop_all i xs h) ∙ ap Ok (append-nil vs)

    values_step : (x : X) → i < length xs → get_or xs i x ≡ x → all ≡ prepended vs (all_values inner (f x ∷ map f (drop (i + 1) xs)))
    values_step x h e =
        so_far ∙ ap (λ ys. prepended vs (all_values inner (map f ys))) (drop_more xs i x h)
        ∙ ap (λ y. prepended vs (all_values inner (f y ∷ map f (drop (i + 1) xs)))) e

    pub values_go : (x : X) (v : Value) → i < length xs → get_or xs i x ≡ x → inner (f x) ≡ Ok v → all ≡ prepended (vs ++ v ∷ []) (all_values inner (map f (drop (i + 1) xs)))
    values_go x v h e s =
        values_step x h e ∙ ap (prepended vs) (values_first (f x) (map f (drop (i + 1) xs)) v s) ∙ prepended-append vs v (all_values inner (map f (drop (i + 1) xs)))

    pub values_fail : (x : X) (e : Stop) → i < length xs → get_or xs i x ≡ x → Stops e (inner (f x)) → Stops e all
    values_fail x e h is s =
        stops_through e (inner (f x)) all (λ r t. values_step x h is ∙ ap (λ o. prepended vs (o >>= λ w. all_values inner (map f (drop (i + 1) xs)) >>= λ us. Ok (w ∷ us))) t) s
