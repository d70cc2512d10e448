-- The prime fields of the table, and the integers that stand for their elements in print.
use Rattle.std.specs.Prelude.{◌≢◌, ℕ, zero, suc, ◌*◌, ◌/◌, ◌%◌, ◌<◌, ◌==◌, nat_le, Bool, List, [], ◌∷◌, ℤ, pos, ◌-ℤ◌, if◌then◌else◌}
use Rattle.std.specs.List.{list_any}

-- the characteristics: every prime up to 101, and the primes 251, 32003 and 65521
abbrev pub characteristics : List ℕ
characteristics =
    2 ∷ 3 ∷ 5 ∷ 7 ∷ 11 ∷ 13 ∷ 17 ∷ 19 ∷ 23 ∷ 29 ∷ 31 ∷ 37 ∷ 41 ∷ 43 ∷ 47 ∷ 53 ∷ 59 ∷ 61 ∷ 67 ∷ 71 ∷ 73 ∷ 79 ∷ 83 ∷ 89 ∷ 97
    ∷ 101 ∷ 251 ∷ 32003 ∷ 65521 ∷ []

-- whether p is one of the characteristics
abbrev pub in_table : ℕ → Bool
in_table p = list_any (λ q. q == p) characteristics

-- p is a prime below 65536: at least 2, and no number strictly between 1 and p divides it
pub record IsPrime (p : ℕ) : Type 0 where
  pub above_one : 1 < p
  pub small : p < 65536
  pub no_divisor : (d : ℕ) → 1 < d → d < p → p % d ≢ 0

-- for a below p, the integer congruent to a modulo p of least absolute value, the positive one where p is 2
abbrev pub symmetric : ℕ → ℕ → ℤ
symmetric p a = if nat_le a (p / 2) then pos a else (pos a -ℤ pos p)

-- the first of the k numbers from b on whose product with a is 1 modulo p, and 0 where there is none
abbrev pub inverse_from : ℕ → ℕ → ℕ → ℕ → ℕ
inverse_from p a b zero = 0
inverse_from p a b (suc k) = if (a * b) % p == 1 then b else inverse_from p a (suc b) k

-- the inverse modulo p: the number below p whose product with a is 1
unfoldable pub inverse : ℕ → ℕ → ℕ
inverse p a = inverse_from p a 0 p

-- the number a / b
abbrev pub quotient : ℕ → ℕ → ℕ → ℕ
quotient p a b = (a * inverse p b) % p
