-- How many exponents the monomials of an S-polynomial have.
use Rattle.std.proofs.Common.{◌≡◌, ◌≢◌, ℕ, true, [], ◌∷◌, length, refl, sym, ◌∙◌}
use Rattle.monomials.specs.Monomials.{lcm, divides}
use Rattle.monomials.specs.Leading.{leading_monomial}
use Rattle.monomials.specs.Polynomials.{Polynomial, HasVars}
use Rattle.word_model.specs.Jobs.{first_cofactor, second_cofactor}
use Rattle.word_model.proofs.CommonMultiples.{length-lcm, divides-lcm, divides-lcm_second}
use Rattle.word_model.proofs.Divisions.{length-minus}

-- a leading monomial has an exponent for each variable
pub length-leading_monomial : (n : ℕ) (f : Polynomial) → HasVars n f → f ≢ [] → length (leading_monomial f) ≡ n
length-leading_monomial n [] vars nonzero = absurd (nonzero refl)
length-leading_monomial n (t ∷ f) vars nonzero = vars.0

-- what is known of the leading monomials of two polynomials, of their least common multiple, and of the quotients
pub record Reaches (n : ℕ) (f g : Polynomial) : Type 0 where
  pub f_vars : length (leading_monomial f) ≡ n
  pub g_vars : length (leading_monomial g) ≡ n
  pub lcm_vars : length (lcm (leading_monomial f) (leading_monomial g)) ≡ n
  pub f_divides : divides (leading_monomial f) (lcm (leading_monomial f) (leading_monomial g)) ≡ true
  pub g_divides : divides (leading_monomial g) (lcm (leading_monomial f) (leading_monomial g)) ≡ true
  pub first_vars : length (first_cofactor f g) ≡ n
  pub second_vars : length (second_cofactor f g) ≡ n

pub reaches : (n : ℕ) (f g : Polynomial) → HasVars n f → HasVars n g → f ≢ [] → g ≢ [] → Reaches n f g
reaches n f g f_has g_has f_nonzero g_nonzero =
    let la : length (leading_monomial f) ≡ n = length-leading_monomial n f f_has f_nonzero in
    let lb : length (leading_monomial g) ≡ n = length-leading_monomial n g g_has g_nonzero in
    let ll : length (lcm (leading_monomial f) (leading_monomial g)) ≡ n = length-lcm (leading_monomial f) (leading_monomial g) (la ∙ sym lb) ∙ la in
    record {
      f_vars = la;
      g_vars = lb;
      lcm_vars = ll;
      f_divides = divides-lcm (leading_monomial f) (leading_monomial g) (la ∙ sym lb);
      g_divides = divides-lcm_second (leading_monomial f) (leading_monomial g) (la ∙ sym lb);
      first_vars = length-minus (lcm (leading_monomial f) (leading_monomial g)) (leading_monomial f) (ll ∙ sym la) ∙ ll;
      second_vars = length-minus (lcm (leading_monomial f) (leading_monomial g)) (leading_monomial g) (ll ∙ sym lb) ∙ ll;
    }
