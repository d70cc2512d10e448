-- The first name that stands again behind itself.
use Rattle.std.proofs.Common.{◌≡◌, ◌≢◌, ◌∙◌, ◌⊎◌, inl, inr, ℕ, Bool, true, false, ◌||◌, List, [], ◌∷◌, map, bytes_eq, Some, None, refl, sym, ap}
use Rattle.std.specs.List.{list_any}
use Rattle.std.proofs.lemmas.Bool.{cases_Bool, false≢true}
use Rattle.std.proofs.lemmas.Slice.Eq.{bytes_eq-Decides}
use Rattle.monomials.specs.Polynomials.{Each}
use Rattle.plural_text.specs.Names.{AreDifferent}
use Rattle.script_model.specs.Statements.{repeated}

any-map : {X : Type 0} (test : List ℕ → Bool) (f : X → List ℕ) (xs : List X) → list_any test (map f xs) ≡ list_any (λ x. test (f x)) xs
any-map test f [] = refl
any-map test f (x ∷ xs) = ap (λ b. test (f x) || b) (any-map test f xs)

module _ {X : Type 0} (f : X → List ℕ) (x : X) (xs : List X) where
  pub repeated-here : list_any (λ y. bytes_eq (f x) (f y)) xs ≡ true → repeated (map f (x ∷ xs)) ≡ Some (f x)
  repeated-here h = let test : list_any (bytes_eq (f x)) (map f xs) ≡ true = any-map (bytes_eq (f x)) f xs ∙ h in rw test refl

  pub repeated-behind : list_any (λ y. bytes_eq (f x) (f y)) xs ≡ false → repeated (map f (x ∷ xs)) ≡ repeated (map f xs)
  repeated-behind h = let test : list_any (bytes_eq (f x)) (map f xs) ≡ false = any-map (bytes_eq (f x)) f xs ∙ h in rw test refl

others : (name : List ℕ) (names : List (List ℕ)) → list_any (bytes_eq name) names ≡ false → Each (λ other. name ≢ other) names
others name [] h = tt
others name (x ∷ names) h = by (others name names) (cases_Bool (bytes_eq name x))
  where
    by : (list_any (bytes_eq name) names ≡ false → Each (λ other. name ≢ other) names) → (bytes_eq name x ≡ true) ⊎ (bytes_eq name x ≡ false)
        → Each (λ other. name ≢ other) (x ∷ names)
    by behind (inl is) = absurd (false≢true (sym h ∙ ap (λ b. b || list_any (bytes_eq name) names) is))
    by behind (inr isnt) = (
      λ same. false≢true (sym isnt ∙ (bytes_eq-Decides name x).1 same),
      behind (sym (ap (λ b. b || list_any (bytes_eq name) names) isnt) ∙ h),
    )

-- names of which none stands again are different
pub none_repeated : (names : List (List ℕ)) → repeated names ≡ None → AreDifferent names
none_repeated [] h = tt
none_repeated (name ∷ names) h = by (none_repeated names) (cases_Bool (list_any (bytes_eq name) names))
  where
    by : (repeated names ≡ None → AreDifferent names) → (list_any (bytes_eq name) names ≡ true) ⊎ (list_any (bytes_eq name) names ≡ false)
        → AreDifferent (name ∷ names)
    by behind (inl test) = let here : repeated (name ∷ names) ≡ Some name = rw test refl in absurd (cc (sym here ∙ h))
    by behind (inr test) = let same : repeated (name ∷ names) ≡ repeated names = rw test refl in (others name names test, behind (sym same ∙ h))
