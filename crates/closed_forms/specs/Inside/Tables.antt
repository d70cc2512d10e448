-- Numbers of the formulas modulo p.
use Rattle.std.specs.Prelude.{◌≡◌, ◌≢◌, ℕ, zero, suc, ◌%◌, ◌<◌, ◌≤◌, ◌⊎◌, List, [], ◌∷◌, ◌++◌}
use Rattle.closed_forms.specs.Binomials.{q_number}

-- the numbers c(k) modulo p, of the k below n
abbrev pub table : ℕ → (ℕ → ℕ) → ℕ → List ℕ
table p c zero = []
table p c (suc n) = table p c n ++ (c n % p) ∷ []

-- none of [1]_q, .., [m-1]_q is zero modulo p
abbrev pub IsFree : ℕ → ℕ → ℕ → Type 0
IsFree p q m = (t : ℕ) → 1 ≤ t → t < m → q_number q t % p ≢ 0

-- The base by which n is split: the least number whose q-number is zero modulo p, or any greater than n
-- where none of the numbers up to n is such.
pub record IsBase (p q m n : ℕ) : Type 0 where
  pub positive : 1 ≤ m
  pub free : IsFree p q m
  pub zero_there : (n < m) ⊎ (q_number q m % p ≡ 0)
