-- Masks: four bits for each exponent, by which most of what does not divide is told at once.
use Rattle.std.specs.Prelude.{ℕ, ◌+◌, ◌*◌, ◌/◌, min, [], ◌∷◌}
use Rattle.monomials.specs.Monomials.{Monomial}

-- 1 where the exponent is at least n, and else 0
abbrev pub reached : ℕ → ℕ → ℕ
reached n x = min 1 (x / n)

-- four bits, from the lowest on: whether the exponent is at least 1, 2, 4 and 8
abbrev pub nibble : ℕ → ℕ
nibble x = reached 8 x * 8 + (reached 4 x * 4 + (reached 2 x * 2 + reached 1 x))

-- the first variable's bits are the lowest
abbrev pub mask : Monomial → ℕ
mask [] = 0
mask (x ∷ m) = mask m * 16 + nibble x
