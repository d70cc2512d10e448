-- Where the leftmost descent of a word stands beside another descent of it.
use Rattle.std.proofs.Common.{◌≡◌, ℕ, ◌<◌, ◌≤◌, ◌⊎◌, inl, inr, [], ◌∷◌, ◌++◌, Some, refl, ap, ◌∙◌}
use Rattle.word_model.specs.Words.{Word, behind_letter, leftmost_descent}
use Rattle.word_model.proofs.Descents.{descent, descent_here, descent_behind, lt_or_le}

-- The leftmost descent of the word u j i v is j i itself, or the last letter of u and j, or it stands in u.
pub data Place (u : Word) (j i : ℕ) (v : Word) : Type 0 where
  Here : leftmost_descent (u ++ j ∷ i ∷ v) ≡ Some (descent u j i v) → Place u j i v
  Touching : (a : Word) (k : ℕ) → u ≡ a ++ k ∷ [] → j < k
      → leftmost_descent (u ++ j ∷ i ∷ v) ≡ Some (descent a k j (i ∷ v)) → Place u j i v
  Apart : (a : Word) (h g : ℕ) (b : Word) → u ≡ a ++ h ∷ g ∷ b → g < h
      → leftmost_descent (u ++ j ∷ i ∷ v) ≡ Some (descent a h g (b ++ j ∷ i ∷ v)) → Place u j i v

-- a letter in front that makes no descent keeps the place
behind : (x : ℕ) (u : Word) (j i : ℕ) (v : Word) → leftmost_descent (x ∷ u ++ j ∷ i ∷ v) ≡ behind_letter x (leftmost_descent (u ++ j ∷ i ∷ v))
    → Place u j i v → Place (x ∷ u) j i v
behind x u j i v is (Here e) = Here (is ∙ ap (behind_letter x) e)
behind x u j i v is (Touching a k e lt f) = Touching (x ∷ a) k (ap (λ w. x ∷ w) e) lt (is ∙ ap (behind_letter x) f)
behind x u j i v is (Apart a h g b e lt f) = Apart (x ∷ a) h g b (ap (λ w. x ∷ w) e) lt (is ∙ ap (behind_letter x) f)

-- it stands at one of the three places
pub place : (u : Word) (j i : ℕ) (v : Word) → i < j → Place u j i v
place [] j i v h = Here (descent_here j i v h)
place (x ∷ []) j i v h = by (lt_or_le x j)
  where
    by : (j < x) ⊎ (x ≤ j) → Place (x ∷ []) j i v
    by (inl lt) = Touching [] x refl lt (descent_here x j (i ∷ v) lt)
    by (inr le) = behind x [] j i v (descent_behind x j (i ∷ v) le) (Here (descent_here j i v h))
place (x ∷ (y ∷ u)) j i v h = by (place (y ∷ u) j i v h) (lt_or_le x y)
  where
    by : Place (y ∷ u) j i v → (y < x) ⊎ (x ≤ y) → Place (x ∷ y ∷ u) j i v
    by there (inl lt) = Apart [] x y u refl lt (descent_here x y (u ++ j ∷ i ∷ v) lt)
    by there (inr le) = behind x (y ∷ u) j i v (descent_behind x y (u ++ j ∷ i ∷ v) le) there
