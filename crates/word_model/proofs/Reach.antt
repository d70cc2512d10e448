-- The limit of degrees, of steps and of products.
use Rattle.std.proofs.Common.{◌≡◌, ◌≢◌, ℕ, ◌+◌, ◌≤◌, nat_le, true, [], ◌∷◌, refl, sym, ap, ◌∙◌, arith}
use Rattle.std.proofs.lemmas.Bool.{le-leb, leb-true}
use Rattle.monomials.specs.Monomials.{Monomial, degree}
use Rattle.monomials.specs.Polynomials.{Polynomial, poly_degree}
use Rattle.word_model.specs.Products.{degree_limit, in_reach}
use Rattle.word_model.specs.Reduction.{is_within}

-- the number of the term does not count
pub is_within-in_reach : (c : ℕ) (m : Monomial) (g : Polynomial) → is_within m g ≡ in_reach ((c, m) ∷ []) g
is_within-in_reach c m [] = refl
is_within-in_reach c m (t ∷ g) = refl

-- the test is on degrees, but for zero
pub is_within-degrees : (m : Monomial) (g : Polynomial) → g ≢ [] → is_within m g ≡ nat_le (degree m + poly_degree g) degree_limit
is_within-degrees m [] nonzero = absurd (nonzero refl)
is_within-degrees m (t ∷ g) nonzero =
    let alone : poly_degree ((1, m) ∷ []) ≡ degree m = omega arith in
    ap (λ d. nat_le (d + poly_degree (t ∷ g)) degree_limit) alone

pub within-degrees : (m : Monomial) (g : Polynomial) → g ≢ [] → is_within m g ≡ true → degree m + poly_degree g ≤ degree_limit
within-degrees m g nonzero within = leb-true (degree m + poly_degree g) degree_limit (sym (is_within-degrees m g nonzero) ∙ within)

-- degrees that add up to no more than the limit are enough
pub degrees-within : (m : Monomial) (g : Polynomial) → degree m + poly_degree g ≤ degree_limit → is_within m g ≡ true
degrees-within m [] low = refl
degrees-within m (t ∷ g) low = is_within-degrees m (t ∷ g) (λ e. cc) ∙ le-leb (degree m + poly_degree (t ∷ g)) degree_limit low
