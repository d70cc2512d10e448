-- Leading data of polynomials.
use Rattle.std.specs.Prelude.{ℕ, Bool, false, [], ◌∷◌}
use Rattle.monomials.specs.Monomials.{Monomial, divides}
use Rattle.monomials.specs.Polynomials.{Polynomial}

-- the greatest monomial of a nonzero polynomial
abbrev pub leading_monomial : Polynomial → Monomial
leading_monomial [] = []
leading_monomial (t ∷ f) = t.1

-- its number
abbrev pub leading_coefficient : Polynomial → ℕ
leading_coefficient [] = 0
leading_coefficient (t ∷ f) = t.0

-- whether g is nonzero, and its leading monomial divides m
abbrev pub lead_divides : Polynomial → Monomial → Bool
lead_divides [] m = false
lead_divides (t ∷ g) m = divides t.1 m
