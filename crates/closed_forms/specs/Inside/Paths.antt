-- Where the terms of a formula stand.
use Rattle.std.specs.Prelude.{ℕ, ◌-◌, min}
use Rattle.closed_forms.specs.declared.terms.Path.{Path}
use Rattle.closed_forms.specs.declared.terms.Path.TheVariants.{X, Y, Both}
use Rattle.closed_forms.specs.Forms.{Powers}

-- the exponents of term k, from x and y on
abbrev pub place : Path → ℕ → ℕ → ℕ → Powers
place X x y k = (x - k, y)
place Y x y k = (x, y - k)
place Both x y k = (x - k, y - k)

-- the greatest k that no exponent is less than
abbrev pub last_place : Path → ℕ → ℕ → ℕ
last_place X x y = x
last_place Y x y = y
last_place Both x y = min x y
