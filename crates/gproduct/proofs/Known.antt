-- Lists of what is known at places.
use Rattle.std.proofs.Common.{◌≡◌, Option, Some, None, List, [], ◌∷◌, map, slice_index_or, slice_set, length, ◌<◌, ℕ, zero, suc, refl, arith, rules, ap, ◌∙◌, sym}

module _ {T X : Type 0} (f : T → Option X) (none : T) (is : f none ≡ None) where
  -- where nothing is seen, nothing is known
  pub none_known : (xs : List T) → ((k : ℕ) → slice_index_or xs k none ≡ none) → (i : ℕ) → slice_index_or (map f xs) i None ≡ None
  none_known [] all i = refl
  none_known (x ∷ xs) all zero = ap f (all 0) ∙ is
  none_known (x ∷ xs) all (suc i) = none_known xs (λ k. all (suc k)) i

  -- what was known stays so where a free item is set
  pub still_known : (xs : List T) (i : ℕ) (x : T) (k : ℕ) (known : X) → slice_index_or xs i none ≡ none
      → slice_index_or (map f xs) k None ≡ Some known → slice_index_or (map f (slice_set xs i x)) k None ≡ Some known
  still_known [] i x k known free had = had
  still_known (y ∷ ys) zero x zero known free had = absurd (let e : None ≡ Some known = sym (ap f free ∙ is) ∙ had in search rules)
  still_known (y ∷ ys) zero x (suc k) known free had = had
  still_known (y ∷ ys) (suc i) x zero known free had = had
  still_known (y ∷ ys) (suc i) x (suc k) known free had = still_known ys i x k known free had

  -- what is set is known
  pub now_known : (xs : List T) (i : ℕ) (x : T) → i < length xs → slice_index_or (map f (slice_set xs i x)) i None ≡ f x
  now_known [] i x inside = absurd (omega arith)
  now_known (y ∷ ys) zero x inside = refl
  now_known (y ∷ ys) (suc i) x inside = now_known ys i x (omega arith)
