-- Lists, by their places.
use Rattle.std.proofs.Common.{◌≡◌, ℕ, zero, suc, ◌<◌, List, [], ◌∷◌, ◌++◌, map, length, drop, slice_index_or, sym, ap, ◌∙◌, subst, arith, append_assoc}
use Rattle.std.proofs.Math.Seq.{drop-cons}
use Rattle.monomials.specs.Polynomials.{Each}

-- what holds of each item holds of that at a place
Each-item : {X : Type 0} (P : X → Type 0) (xs : List X) (k : ℕ) (d : X) → Each P xs → k < length xs → P (slice_index_or xs k d)
Each-item P [] k d h below = absurd (omega arith)
Each-item P (x ∷ xs) zero d h below = h.0
Each-item P (x ∷ xs) (suc k) d h below = Each-item P xs k d h.1 (omega arith)

-- what holds of each item holds of the one that a loop is at
pub Each-here : {X : Type 0} (P : X → Type 0) (xs : List X) (k : ℕ) (x : X) → Each P xs → k < length xs → slice_index_or xs k x ≡ x → P x
Each-here P xs k x h below is = subst P is (Each-item P xs k x h below)

-- one more item is mapped
pub map-step : {X Y : Type 0} (f : X → Y) (xs : List X) (done : List Y) (k j : ℕ) (x : X) (y : Y) → k < length xs → j ≡ suc k → slice_index_or xs k x ≡ x → y ≡ f x
    → (done ++ y ∷ []) ++ map f (drop j xs) ≡ done ++ map f (drop k xs)
map-step f xs done k j x y below next x_is y_is =
    append_assoc done (y ∷ []) (map f (drop j xs)) ∙ ap (λ j. done ++ y ∷ map f (drop j xs)) next ∙ ap (λ y. done ++ y ∷ map f (drop (suc k) xs)) y_is
    ∙ ap (λ xs. done ++ map f xs) (ap (λ x. x ∷ drop (suc k) xs) (sym x_is) ∙ sym (drop-cons xs k x below))
