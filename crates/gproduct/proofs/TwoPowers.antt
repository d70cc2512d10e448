-- The monomial of two powers, by its exponents and by its word.
use Rattle.std.proofs.Common.{◌≡◌, ◌≢◌, ℕ, zero, suc, ◌+◌, ◌-◌, ◌<◌, ◌≤◌, ◌⊎◌, inl, inr, List, ◌++◌, length, take, set, get_or, replicate, refl, sym, ap, ◌∙◌, arith, get_or-set_same, get_or-set_other, length-append}
use Rattle.std.proofs.Math.ListN.{length-set, length-replicate}
use Rattle.monomials.specs.Monomials.{degree}
use Rattle.monomials.proofs.Keys.{Each-append}
use Rattle.word_model.specs.Words.{Word, IsWord, count_of, monomial_of, sorted_word}
use Rattle.word_model.proofs.Letters.{count_of-append, count_of-replicate, count_of-other, degree-monomial_of}
use Rattle.algebra.proofs.Counting.{counts_all}
use Rattle.word_model.proofs.Sorted.{sorted_word-monomial_of}
use Rattle.closed_forms.proofs.Passing.{power_is_word, sorted_xy}

same_or_other : (a b : ℕ) → (a ≡ b) ⊎ (a ≢ b)
same_or_other a b = grind arith

-- ---- letters

-- a power has no other letter than its own
count_of-other_power : (v x e : ℕ) → v ≢ x → count_of v (replicate e x) ≡ 0
count_of-other_power v x zero other = refl
count_of-other_power v x (suc e) other = count_of-other v x (replicate e x) other ∙ count_of-other_power v x e other

-- ---- exponents

get_or-zeros : (n v : ℕ) → get_or (replicate {A = ℕ} n 0) v 0 ≡ 0
get_or-zeros zero v = refl
get_or-zeros (suc n) zero = refl
get_or-zeros (suc n) (suc v) = get_or-zeros n v

module _ (i j x y : ℕ) (low : 1 ≤ i) (ij : i < j) where
  -- the word of the two powers
  abbrev both : Word
  both = replicate x i ++ replicate y j

  -- exponents that are zero, but for the two
  abbrev exponents : ℕ → List ℕ
  exponents n = set (set (replicate n 0) (i - 1) x) (j - 1) y

  exponent_is : (n v : ℕ) → j ≤ n → get_or (exponents n) v 0 ≡ count_of (suc v) both
  exponent_is n v high = by (same_or_other v (j - 1)) (same_or_other v (i - 1))
    where
      long : length (set (replicate {A = ℕ} n 0) (i - 1) x) ≡ n
      long = length-set (replicate {A = ℕ} n 0) (i - 1) x ∙ length-replicate {A = ℕ} n 0

      parts : count_of (suc v) both ≡ count_of (suc v) (replicate x i) + count_of (suc v) (replicate y j)
      parts = count_of-append (suc v) (replicate x i) (replicate y j)

      by : (v ≡ j - 1) ⊎ (v ≢ j - 1) → (v ≡ i - 1) ⊎ (v ≢ i - 1) → get_or (exponents n) v 0 ≡ count_of (suc v) both
      by (inl is) other =
          let letter : suc v ≡ j = omega arith in
          let set_is : get_or (exponents n) v 0 ≡ y =
          ap (λ k. get_or (exponents n) k 0) is ∙ get_or-set_same (set (replicate {A = ℕ} n 0) (i - 1) x) (j - 1) y 0 (omega (arith, long)) in
          let here : count_of (suc v) (replicate y j) ≡ y = ap (λ k. count_of (suc v) (replicate y k)) (sym letter) ∙ count_of-replicate (suc v) y in
          omega (arith, set_is, parts, here, count_of-other_power (suc v) i x (omega arith))
      by (inr far) (inl is) =
          let letter : suc v ≡ i = omega arith in
          let set_is : get_or (exponents n) v 0 ≡ x =
          get_or-set_other (set (replicate {A = ℕ} n 0) (i - 1) x) (j - 1) v y 0 far
          ∙ ap (λ k. get_or (set (replicate {A = ℕ} n 0) (i - 1) x) k 0) is
          ∙ get_or-set_same (replicate {A = ℕ} n 0) (i - 1) x 0 (omega (arith, length-replicate {A = ℕ} n 0)) in
          let here : count_of (suc v) (replicate x i) ≡ x = ap (λ k. count_of (suc v) (replicate x k)) (sym letter) ∙ count_of-replicate (suc v) x in
          omega (arith, set_is, parts, here, count_of-other_power (suc v) j y (omega arith))
      by (inr far) (inr other) =
          let set_is : get_or (exponents n) v 0 ≡ 0 =
          get_or-set_other (set (replicate {A = ℕ} n 0) (i - 1) x) (j - 1) v y 0 far
          ∙ get_or-set_other (replicate {A = ℕ} n 0) (i - 1) v x 0 other
          ∙ get_or-zeros n v in
          omega (arith, set_is, parts, count_of-other_power (suc v) i x (omega arith), count_of-other_power (suc v) j y (omega arith))

  -- the first n exponents are those of the word's monomial
  pub exponents_are : (m n : ℕ) → j ≤ n → n ≤ m → take n (exponents m) ≡ monomial_of n both
  exponents_are m n high few =
      let long : length (exponents m) ≡ m =
      length-set (set (replicate {A = ℕ} m 0) (i - 1) x) (j - 1) y ∙ length-set (replicate {A = ℕ} m 0) (i - 1) x ∙ length-replicate {A = ℕ} m 0 in
      counts_all n 1 (exponents m) both (omega (arith, long))
      (λ v less. let next : suc v ≡ 1 + v = omega arith in exponent_is m v (omega arith) ∙ ap (λ k. count_of k both) next)

  pub IsWord-powers : (n : ℕ) → j ≤ n → IsWord n both
  IsWord-powers n high =
      Each-append _ (replicate x i) (replicate y j) (power_is_word n i low (omega arith) x) (power_is_word n j (omega arith) high y)

  -- its degree is the sum of the exponents
  pub degree-powers : (n : ℕ) → j ≤ n → degree (monomial_of n both) ≡ x + y
  degree-powers n high =
      degree-monomial_of n both (IsWord-powers n high)
      ∙ length-append (replicate x i) (replicate y j)
      ∙ (λ k. length-replicate x i k + length-replicate y j k)

  -- the sorted word of the monomial is the word itself
  pub sorted_word-powers : (n : ℕ) → j ≤ n → sorted_word (monomial_of n both) ≡ both
  sorted_word-powers n high = sorted_word-monomial_of n both (IsWord-powers n high) (sorted_xy i j ij x y)
