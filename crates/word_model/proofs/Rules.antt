-- What a word weighs by the rule of two of its letters that stand in descending order.
use Rattle.std.proofs.Common.{◌≡◌, ℕ, ◌+◌, ◌*◌, ◌<◌, ◌≤◌, ◌∷◌, ◌++◌, length, Some, ap, ◌∙◌, arith}
use Rattle.monomials.specs.Monomials.{Monomial}
use Rattle.monomials.specs.Polynomials.{Each}
use Rattle.monomials.proofs.Modulo.{Same, same_refl, same_lin}
use Rattle.monomials.proofs.Weights.{weigh, weigh-map_key, weigh_alike_on}
use Rattle.word_model.specs.Words.{Algebra, Word, IsWord, sorted_word, leftmost_descent, rewritten, c_of, d_of, RewritesDown}
use Rattle.word_model.proofs.Descents.{descent}
use Rattle.word_model.proofs.Termination.{IsLess, measure}
use Rattle.word_model.proofs.NormalForms.{word_weight, word_weight-descent}

-- the weight of what the letters j i between u and v are rewritten to
abbrev pub rule_of : Algebra → (Word → ℕ) → Word → ℕ → ℕ → Word → ℕ
rule_of A ψ u j i v = c_of A i j * ψ (u ++ i ∷ j ∷ v) + weigh (λ m. ψ (u ++ (sorted_word m ++ v))) (d_of A i j)

module _ (A : Algebra) where
  -- the words that a word is rewritten to weigh what the rule says
  pub weigh-rewritten : (ψ : Word → ℕ) (u : Word) (j i : ℕ) (v : Word) → weigh ψ (rewritten A (descent u j i v)) ≡ rule_of A ψ u j i v
  weigh-rewritten ψ u j i v =
      ap (λ x. c_of A i j * ψ (u ++ i ∷ j ∷ v) + x) (weigh-map_key ψ (λ m. u ++ (sorted_word m ++ v)) (d_of A i j))

  -- at the leftmost descent of a word its normal form weighs what the rule says
  pub by_descent : RewritesDown A → (φ : Monomial → ℕ) (u : Word) (j i : ℕ) (v : Word) → IsWord A.order.vars (u ++ j ∷ i ∷ v)
      → leftmost_descent (u ++ j ∷ i ∷ v) ≡ Some (descent u j i v)
      → Same A.p (word_weight A φ (u ++ j ∷ i ∷ v)) (rule_of A (word_weight A φ) u j i v)
  by_descent downward φ u j i v word e =
      word_weight-descent A φ downward (u ++ j ∷ i ∷ v) (descent u j i v) word e
      ∙ same_refl A.p _ _ (weigh-rewritten (word_weight A φ) u j i v)

  -- weights that are the same at the words of the rule
  pub rule_alike : (ψ χ : Word → ℕ) (u : Word) (j i : ℕ) (v : Word) → Same A.p (ψ (u ++ i ∷ j ∷ v)) (χ (u ++ i ∷ j ∷ v))
      → Each (λ t. Same A.p (ψ (u ++ (sorted_word t.1 ++ v))) (χ (u ++ (sorted_word t.1 ++ v)))) (d_of A i j)
      → Same A.p (rule_of A ψ u j i v) (rule_of A χ u j i v)
  rule_alike ψ χ u j i v e h =
      same_lin A.p (c_of A i j) _ _ _ _ e
      (weigh_alike_on A.p (λ m. ψ (u ++ (sorted_word m ++ v))) (λ m. χ (u ++ (sorted_word m ++ v))) (d_of A i j) h)

  -- in words of measure below k any two letters in descending order may be rewritten first
  abbrev pub AnyPair : ℕ → ℕ → Type 0
  AnyPair l k =
      (u : Word) (j i : ℕ) (v : Word) → IsWord A.order.vars (u ++ j ∷ i ∷ v) → length (u ++ j ∷ i ∷ v) ≤ l → i < j → measure A l (u ++ j ∷ i ∷ v) < k
      → (φ : Monomial → ℕ) → Same A.p (word_weight A φ (u ++ j ∷ i ∷ v)) (rule_of A (word_weight A φ) u j i v)

  -- so they may in a word that is less than one of measure at most k
  pub any_at_less : (l k : ℕ) → AnyPair l k → (w : Word) → measure A l w ≤ k → (u : Word) (j i : ℕ) (v : Word) → IsLess A l w (u ++ j ∷ i ∷ v) → i < j
      → (φ : Monomial → ℕ) → Same A.p (word_weight A φ (u ++ j ∷ i ∷ v)) (rule_of A (word_weight A φ) u j i v)
  any_at_less l k any w h u j i v less falls φ = any u j i v less.0 less.1 falls (omega (arith, less.2)) φ
