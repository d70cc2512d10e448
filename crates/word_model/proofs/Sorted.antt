-- A word without descents is the sorted word of its monomial.
use Rattle.std.proofs.Common.{◌≡◌, ℕ, zero, suc, ◌+◌, ◌<◌, ◌≤◌, ◌⊎◌, inl, inr, [], ◌∷◌, ◌++◌, replicate, None, sym, ap, ◌∙◌, refl, arith, le_trans}
use Rattle.monomials.specs.Polynomials.{Each}
use Rattle.monomials.proofs.Keys.{Each-weaker}
use Rattle.word_model.specs.Words.{Word, IsWord, count_of, counts_from, monomial_of, word_from, sorted_word, leftmost_descent}
use Rattle.word_model.proofs.Letters.{Each-both, count_of-same, count_of-other, counts_from-lower}
use Rattle.word_model.proofs.Descents.{rising}
use Rattle.word_model.proofs.LeastNumbers.{here_or_later}

-- all letters are among the n variables from number i on
abbrev pub IsBetween : ℕ → ℕ → Word → Type 0
IsBetween i n w = Each (λ y. (i ≤ y) × (y < i + n)) w

count_of-absent : (i : ℕ) (w : Word) → Each (λ y. suc i ≤ y) w → count_of i w ≡ 0
count_of-absent i [] h = refl
count_of-absent i (x ∷ w) h = count_of-other i x w (omega (arith, h.0)) ∙ count_of-absent i w h.1

module _ (i n : ℕ) (later : (w : Word) → IsBetween (suc i) n w → leftmost_descent w ≡ None → word_from (suc i) (counts_from (suc i) n w) ≡ w) where
  -- where it holds of the later variables, it holds with variable i before them
  with_variable : (w : Word) → IsBetween i (suc n) w → leftmost_descent w ≡ None → word_from i (counts_from i (suc n) w) ≡ w
  with_variable [] h e = later [] tt refl
  with_variable (x ∷ w) h e = by (with_variable w) (here_or_later i x h.0.0)
    where
      by : (IsBetween i (suc n) w → leftmost_descent w ≡ None → word_from i (counts_from i (suc n) w) ≡ w) → (i ≡ x) ⊎ (suc i ≤ x)
          → word_from i (counts_from i (suc n) (x ∷ w)) ≡ x ∷ w
      by ih (inl same) =
          let count : count_of i (x ∷ w) ≡ suc (count_of i w) = ap (λ x. count_of i (x ∷ w)) (sym same) ∙ count_of-same i w in
          let counts : counts_from (suc i) n (x ∷ w) ≡ counts_from (suc i) n w =
          ap (λ x. counts_from (suc i) n (x ∷ w)) (sym same) ∙ counts_from-lower (suc i) n i w (omega arith) in
          (λ k. replicate (count k) i ++ word_from (suc i) (counts k)) ∙ (λ k. same k ∷ ih h.1 (rising x w e).1 k)
      by ih (inr above) =
          let rest : Each (λ y. suc i ≤ y) w = Each-weaker _ _ (λ y le. le_trans above le) w (rising x w e).0 in
          let all : IsBetween (suc i) n (x ∷ w) =
          ((above, omega (arith, h.0.1)), Each-both _ _ _ (λ y above below. (above, below)) w rest (Each-weaker _ _ (λ y lt. omega (arith, lt.1)) w h.1)) in
          ap (λ c. replicate c i ++ word_from (suc i) (counts_from (suc i) n (x ∷ w))) (count_of-absent i (x ∷ w) (above, rest)) ∙ later (x ∷ w) all e

word_from-counts_from : (i n : ℕ) (w : Word) → IsBetween i n w → leftmost_descent w ≡ None → word_from i (counts_from i n w) ≡ w
word_from-counts_from i zero [] h e = refl
word_from-counts_from i zero (x ∷ w) h e = absurd (omega (arith, h.0.0, h.0.1))
word_from-counts_from i (suc n) w h e = with_variable i n (word_from-counts_from (suc i) n) w h e

-- a word without descents is the sorted word of its monomial
pub sorted_word-monomial_of : (n : ℕ) (w : Word) → IsWord n w → leftmost_descent w ≡ None → sorted_word (monomial_of n w) ≡ w
sorted_word-monomial_of n w h e = word_from-counts_from 1 n w (Each-weaker _ _ (λ y k. (k.0, omega (arith, k.1))) w h) e
