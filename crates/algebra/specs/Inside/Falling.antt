-- Keys that fall.
use Rattle.std.specs.Prelude.{ℕ, List, [], ◌∷◌}
use Rattle.std.specs.declared.cmp.Ordering.{Ordering}
use Rattle.monomials.specs.Polynomials.{IsAbove}

-- each key is above the next
abbrev pub IsStrictlyFalling : {K : Type 0} → (K → K → Ordering) → List (ℕ × K) → Type 0
IsStrictlyFalling cmp [] = Unit {0}
IsStrictlyFalling cmp (t ∷ f) = IsAbove cmp t.1 f × IsStrictlyFalling cmp f
