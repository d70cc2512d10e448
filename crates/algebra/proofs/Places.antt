-- Places in words at which two letters descend.
use Rattle.std.proofs.Common.{◌≡◌, ℕ, zero, suc, ◌<◌, ◌≤◌, [], ◌∷◌, length, set, get_or, Some, None, refl, ap, ◌∙◌, arith}
use Rattle.std.specs.List.{swap}
use Rattle.word_model.specs.Words.{Word, behind_letter, leftmost_descent}
use Rattle.word_model.proofs.Descents.{descent_here, descent_behind}
use Rattle.algebra.specs.Inside.Places.{descent_at, with_swapped}

-- the first place at which a letter stands before a smaller one is the leftmost descent
pub first_descent : (w : Word) (k : ℕ) → suc k < length w → ((q : ℕ) → q < k → get_or w q 0 ≤ get_or w (suc q) 0) → get_or w (suc k) 0 < get_or w k 0
    → leftmost_descent w ≡ Some (descent_at k w)
first_descent [] k short rises falls = absurd (omega arith)
first_descent (x ∷ []) k short rises falls = absurd (omega arith)
first_descent (x ∷ (y ∷ w)) zero short rises falls = descent_here x y w falls
first_descent (x ∷ (y ∷ w)) (suc k) short rises falls =
    descent_behind x y w (rises 0 (omega arith))
    ∙ ap (behind_letter x) (first_descent (y ∷ w) k (omega arith) (λ q h. rises (suc q) (omega arith)) falls)

-- there is none where no letter stands before a smaller one
pub no_descent : (w : Word) → ((q : ℕ) → suc q < length w → get_or w q 0 ≤ get_or w (suc q) 0) → leftmost_descent w ≡ None
no_descent [] rises = refl
no_descent (x ∷ []) rises = refl
no_descent (x ∷ (y ∷ w)) rises =
    descent_behind x y w (rises 0 (omega arith)) ∙ ap (behind_letter x) (no_descent (y ∷ w) (λ q h. rises (suc q) (omega arith)))

-- to swap two letters that stand side by side
pub swap-side_by_side : (w : Word) (k : ℕ) → suc k < length w → swap w k (suc k) ≡ with_swapped (descent_at k w)
swap-side_by_side [] k h = absurd (omega arith)
swap-side_by_side (x ∷ w) k h = go (x ∷ w) k x h
  where
    go : (w : Word) (k d : ℕ) → suc k < length w → set (set w k (get_or w (suc k) d)) (suc k) (get_or w k d) ≡ with_swapped (descent_at k w)
    go [] k d h = absurd (omega arith)
    go (x ∷ []) k d h = absurd (omega arith)
    go (x ∷ (y ∷ w)) zero d h = refl
    go (x ∷ (y ∷ w)) (suc k) d h = ap (λ v. x ∷ v) (go (y ∷ w) k d (omega arith))
