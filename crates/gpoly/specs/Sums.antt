-- Sums of lists of polynomials.
use Rattle.std.specs.Prelude.{ℕ, ◌+◌, ◌^◌, ◌≤◌, List, [], ◌∷◌, length, get_or}
use Rattle.std.specs.declared.cmp.Ordering.{Ordering}
use Rattle.monomials.specs.Monomials.{Monomial}
use Rattle.monomials.specs.Orders.{RowOrder}
use Rattle.monomials.specs.Polynomials.{Polynomial, Each, IsPolynomial, poly_add}

-- the sum of polynomials
abbrev pub poly_sum : (Monomial → Monomial → Ordering) → ℕ → List Polynomial → Polynomial
poly_sum cmp p [] = []
poly_sum cmp p (f ∷ fs) = poly_add cmp p f (poly_sum cmp p fs)

-- each of them is a polynomial over the field with p elements, sorted by the order
abbrev pub AreSorted : ℕ → RowOrder → List Polynomial → Type 0
AreSorted p order fs = Each (IsPolynomial p order) fs

-- what buckets have: there are at most 14, of which number k, counted from 0, has at most 4^(k+1) terms, up to number 12
pub record HasRoom (fs : List Polynomial) : Type 0 where
  pub few : length fs ≤ 14
  pub short : (k : ℕ) → k ≤ 12 → length (get_or fs k []) ≤ 4 ^ (k + 1)
