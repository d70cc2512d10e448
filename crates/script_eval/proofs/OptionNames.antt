-- Names of options, one after another.
use Rattle.std.proofs.Common.{◌≡◌, ℕ, ◌+◌, ◌<◌, ◌≤◌, List, [], ◌∷◌, map, length, drop, get_or, Ok, Err, refl, sym, ap, subst, ◌∙◌}
use Rattle.std.proofs.lemmas.List.{drop_more, drop_all}
use Rattle.plural_lexer.specs.declared.token.Token.{Token}
use Rattle.plural_syntax.specs.declared.tree.TokenAfter.{TokenAfter}
use Rattle.script_model.specs.Environment.{Environment, Text}
use Rattle.script_model.specs.Refusals.{Outcome}
use Rattle.script_model.specs.Statements.{Done, Goes, options}
use Rattle.script_values.specs.declared.stop.Stop.{Stop}
use Rattle.script_values.specs.Gives.{Stops}

module _ (B : Text) (b : ℕ) (E : Environment) (xs : List TokenAfter) (ts : List Token) (i : ℕ) (so_far : options B b E ts ≡ options B b E (map (λ (a : TokenAfter). a.token) (drop i xs))) where
  pub options_end : length xs ≤ i → options B b E ts ≡ Ok (Goes E [])
  options_end h = so_far ∙ ap (λ ys. options B b E (map (λ (a : TokenAfter). a.token) ys)) (drop_all i xs h)

  options_step : (x : TokenAfter) → i < length xs → get_or xs i x ≡ x → options B b E ts ≡ options B b E (x.token ∷ map (λ (a : TokenAfter). a.token) (drop (i + 1) xs))
  options_step x h e =
      so_far ∙ ap (λ ys. options B b E (map (λ (a : TokenAfter). a.token) ys)) (drop_more xs i x h)
      ∙ ap (λ (y : TokenAfter). options B b E (y.token ∷ map (λ (a : TokenAfter). a.token) (drop (i + 1) xs))) e

  pub options_go : (x : TokenAfter) → i < length xs → get_or xs i x ≡ x
      → ((more : List Token) → options B b E (x.token ∷ more) ≡ options B b E more)
      → options B b E ts ≡ options B b E (map (λ (a : TokenAfter). a.token) (drop (i + 1) xs))
  options_go x h e passed = options_step x h e ∙ passed (map (λ (a : TokenAfter). a.token) (drop (i + 1) xs))

  pub options_stop : (x : TokenAfter) (s : Stop) → i < length xs → get_or xs i x ≡ x
      → ((more : List Token) → Stops s (options B b E (x.token ∷ more)))
      → Stops s (options B b E ts)
  options_stop x s h e stops = subst (Stops s) (sym (options_step x h e)) (stops (map (λ (a : TokenAfter). a.token) (drop (i + 1) xs)))
