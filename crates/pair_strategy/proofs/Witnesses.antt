-- The least witness, as a search from the first element on finds it.
use Rattle.std.proofs.Common.{◌≡◌, ℕ, ◌<◌, ◌≤◌, ◌⊎◌, inl, inr, true, false, List, length, Some, None, sym, ap, ◌∙◌, arith}
use Rattle.std.proofs.Math.Nat.{eq-or-lt_of_le}
use Rattle.monomials.specs.Polynomials.{Polynomial}
use Rattle.word_model.specs.Jobs.{is_witness, chain_witness}
use Rattle.word_model.specs.declared.records.Job.{Job}
use Rattle.word_model.specs.declared.records.Job.TheVariants.{Pair}
use Rattle.word_model.proofs.LeastNumbers.{least_number-is, least_number-absent}

module _ (G : List Polynomial) (jobs : List Job) (i j k : ℕ) (before : (x : ℕ) → 1 ≤ x → x < k → is_witness G jobs i j x ≡ false) where
  -- none before k is a witness, and k is
  pub witness-found : 1 ≤ k → k ≤ length G → is_witness G jobs i j k ≡ true → Some k ≡ chain_witness G jobs (Pair i j)
  unfolding chain_witness
  witness-found low high here =
      sym (least_number-is (is_witness G jobs i j) 1 (length G) k (record { low = low; high = omega arith; meets = here; before = before }))

  -- none before k is, nor is k, which is the last
  pub witness-absent : length G ≤ k → is_witness G jobs i j k ≡ false → None ≡ chain_witness G jobs (Pair i j)
  unfolding chain_witness
  witness-absent last here =
      sym (least_number-absent (is_witness G jobs i j) 1 (length G) (λ x low high. let le : x ≤ k = omega arith in by x low (eq-or-lt_of_le le)))
    where
      by : (x : ℕ) → 1 ≤ x → (x ≡ k) ⊎ (x < k) → is_witness G jobs i j x ≡ false
      by x low (inl same) = ap (is_witness G jobs i j) same ∙ here
      by x low (inr less) = before x low less
