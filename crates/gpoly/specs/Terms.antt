-- The terms of the program, as a polynomial.
use Rattle.std.specs.Prelude.{ℕ, ◌<◌, ◌≤◌, List, map}
use Rattle.monomials.specs.Monomials.{Monomial, degree}
use Rattle.monomials.specs.Polynomials.{Polynomial, Each, IsApart}
use Rattle.gpoly.specs.declared.Term.{Term}

-- a term, as its number and its monomial
abbrev pub pair_of : Term → ℕ × Monomial
pair_of t = (t.coef, t.mono)

-- terms, as a polynomial
abbrev pub pairs_of : List Term → Polynomial
pairs_of ts = map pair_of ts

-- what the terms of a polynomial are in any order: not zero, of degree at most 4095, with pairwise different monomials
pub record IsTermList (f : Polynomial) : Type 0 where
  pub nonzero : Each (λ t. 0 < t.0) f
  pub small : Each (λ t. degree t.1 ≤ 4095) f
  pub apart : IsApart f
