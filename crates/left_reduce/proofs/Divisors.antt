-- A first divisor, as a search from the first element on finds it.
use Rattle.std.proofs.Common.{◌≡◌, ℕ, ◌<◌, ◌≤◌, ◌⊎◌, inl, inr, true, false, List, length, Some, None, sym, ap, ◌∙◌, arith}
use Rattle.std.proofs.Math.Nat.{eq-or-lt_of_le}
use Rattle.monomials.specs.Monomials.{Monomial}
use Rattle.monomials.specs.Polynomials.{Polynomial}
use Rattle.word_model.specs.Reduction.{element, lead_divides, first_divisor}
use Rattle.word_model.proofs.LeastNumbers.{least_number-is, least_number-absent}

module _ (G : List Polynomial) (m : Monomial) (k : ℕ) (before : (x : ℕ) → 1 ≤ x → x < k → lead_divides (element G x) m ≡ false) where
  -- none divides before k, and k does
  pub divisor-found : 1 ≤ k → k ≤ length G → lead_divides (element G k) m ≡ true → Some k ≡ first_divisor G m
  divisor-found low high here =
      sym (least_number-is (λ i. lead_divides (element G i) m) 1 (length G) k (record { low = low; high = omega arith; meets = here; before = before }))

  -- none divides before k, nor does k, which is the last
  pub divisor-absent : length G ≤ k → lead_divides (element G k) m ≡ false → None ≡ first_divisor G m
  divisor-absent last here =
      sym (least_number-absent (λ i. lead_divides (element G i) m) 1 (length G) (λ x low high. let le : x ≤ k = omega arith in by x low (eq-or-lt_of_le le)))
    where
      by : (x : ℕ) → 1 ≤ x → (x ≡ k) ⊎ (x < k) → lead_divides (element G x) m ≡ false
      by x low (inl same) = ap (λ x. lead_divides (element G x) m) same ∙ here
      by x low (inr less) = before x low less
