-- What goes from one bucket into the next.
use Rattle.std.specs.Prelude.{◌≡◌, ℕ, ◌+◌, ◌^◌, ◌≤◌, List, [], length, get_or}
use Rattle.monomials.specs.Polynomials.{Polynomial}

-- bucket k takes n terms
abbrev pub Fits : ℕ → ℕ → Type 0
Fits k n = k ≤ 12 → n ≤ 4 ^ (k + 1)

-- bucket number top takes what goes into it beside its own: where it is number k n terms, and else those of the bucket before it
pub record Takes (k n : ℕ) (fs : List Polynomial) (top : ℕ) : Type 0 where
  pub first : top ≡ k → Fits k (length (get_or fs k []) + n)
  pub later : (j : ℕ) → k ≤ j → top ≡ j + 1 → Fits top (length (get_or fs j []) + length (get_or fs top []))
