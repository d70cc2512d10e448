-- Induction over words: from those that a word is rewritten to, to the word.
use Rattle.std.proofs.Common.{◌≡◌, ℕ, zero, suc, ◌<◌, ◌≤◌, ◌∷◌, ◌++◌, length, Option, Some, None, refl, sym, subst, arith}
use Rattle.monomials.specs.Polynomials.{Each}
use Rattle.monomials.proofs.Keys.{Each-second, Each-weaker}
use Rattle.word_model.specs.Words.{Algebra, Word, IsWord, sorted_word, Descent, leftmost_descent, d_of, RewritesDown}
use Rattle.word_model.proofs.Descents.{word_of, descent, found_descent}
use Rattle.word_model.proofs.Termination.{IsLess, measure, swapped_less, replaced_less}

-- the letters of a pair are variables
pub pair_bounds : (n : ℕ) (u : Word) (j i : ℕ) (v : Word) → IsWord n (u ++ j ∷ i ∷ v) → (1 ≤ i) × (j ≤ n)
pair_bounds n u j i v word =
    let back : IsWord n (j ∷ i ∷ v) = Each-second _ u (j ∷ i ∷ v) word in (back.1.0.0, back.0.1)

-- a word is less with two letters of it swapped that stand in descending order
pub less_swapped : (A : Algebra) (l : ℕ) (u : Word) (j i : ℕ) (v : Word) → IsWord A.order.vars (u ++ j ∷ i ∷ v) → length (u ++ j ∷ i ∷ v) ≤ l → i < j
    → IsLess A l (u ++ j ∷ i ∷ v) (u ++ i ∷ j ∷ v)
less_swapped A l u j i v word short falls = swapped_less A l (descent u j i v) word falls short

-- so it is with a term of their relation in their place
pub less_replaced : (A : Algebra) → RewritesDown A → (l : ℕ) (u : Word) (j i : ℕ) (v : Word) → IsWord A.order.vars (u ++ j ∷ i ∷ v) → length (u ++ j ∷ i ∷ v) ≤ l → i < j
    → Each (λ t. IsLess A l (u ++ j ∷ i ∷ v) (u ++ (sorted_word t.1 ++ v))) (d_of A i j)
less_replaced A downward l u j i v word short falls =
    let bounds : (1 ≤ i) × (j ≤ A.order.vars) = pair_bounds A.order.vars u j i v word in
    Each-weaker _ _ (λ t small. replaced_less A l (descent u j i v) word falls short t small) (d_of A i j) (downward.small i j bounds.0 falls bounds.1)

module _ (A : Algebra) (downward : RewritesDown A) (l : ℕ) (P : Word → Type 0)
    (sorted : (w : Word) → IsWord A.order.vars w → length w ≤ l → leftmost_descent w ≡ None → P w)
    (step : (u : Word) (j i : ℕ) (v : Word) → IsWord A.order.vars (u ++ j ∷ i ∷ v) → length (u ++ j ∷ i ∷ v) ≤ l → i < j
    → leftmost_descent (u ++ j ∷ i ∷ v) ≡ Some (descent u j i v)
    → P (u ++ i ∷ j ∷ v) → Each (λ t. P (u ++ (sorted_word t.1 ++ v))) (d_of A i j) → P (u ++ j ∷ i ∷ v)) where
  -- what holds of all lesser words holds of w
  abbrev FromLess : Word → Type 0
  FromLess w = IsWord A.order.vars w → length w ≤ l → ((v : Word) → IsLess A l w v → P v) → P w

  from_descent : (u : Word) (j i : ℕ) (v : Word) → i < j → leftmost_descent (u ++ j ∷ i ∷ v) ≡ Some (descent u j i v) → FromLess (u ++ j ∷ i ∷ v)
  from_descent u j i v falls e word short lesser =
      step u j i v word short falls e
      (lesser (u ++ i ∷ j ∷ v) (less_swapped A l u j i v word short falls))
      (Each-weaker _ _ (λ t less. lesser (u ++ (sorted_word t.1 ++ v)) less) (d_of A i j) (less_replaced A downward l u j i v word short falls))

  from_less : (w : Word) → FromLess w
  from_less w = by (leftmost_descent w) refl
    where
      by : (r : Option Descent) → leftmost_descent w ≡ r → FromLess w
      by None e = λ word short lesser. sorted w word short e
      by (Some s) e =
          let found : (w ≡ word_of s) × (s.low < s.high) = found_descent w s e in
          subst (λ w. leftmost_descent w ≡ Some s → FromLess w) (sym found.0) (from_descent s.before s.high s.low s.after found.1) e

  below : (q : ℕ) (w : Word) → IsWord A.order.vars w → length w ≤ l → measure A l w < q → P w
  below zero w word short small = absurd (omega arith)
  below (suc q) w word short small = from_less w word short (λ v less. below q v less.0 less.1 (omega (arith, less.2)))

  -- what holds of a word as soon as it holds of those that it is rewritten to holds of all words
  pub word_induction : (w : Word) → IsWord A.order.vars w → length w ≤ l → P w
  word_induction w word short = below (suc (measure A l w)) w word short (omega arith)
