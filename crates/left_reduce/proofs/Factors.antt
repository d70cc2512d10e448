-- Leading terms and multiples, as the program makes them.
use Rattle.std.proofs.Common.{◌≡◌, ◌≢◌, ℕ, ◌-◌, ◌<◌, ◌≤◌, true, List, [], ◌∷◌, length, Some, refl, sym, ◌∙◌}
use Rattle.std.specs.declared.cmp.Ordering.{Ordering}
use Rattle.monomials.specs.Monomials.{Monomial, minus, divides}
use Rattle.monomials.specs.Orders.{RowOrder}
use Rattle.monomials.specs.Polynomials.{Polynomial, Each, IsCanonical, IsPolynomial}
use Rattle.monomials.specs.Leading.{leading_monomial, leading_coefficient}
use Rattle.monomials.proofs.Exponents.{length-zip_with}
use Rattle.word_model.specs.Words.{Algebra}
use Rattle.word_model.specs.Conditions.{IsGAlgebra}
use Rattle.word_model.specs.Reduction.{element, first_divisor, multiple}
use Rattle.word_model.proofs.LeastNumbers.{Each-element, IsFirstDivisor, first_divisor-found}
use Rattle.word_model.proofs.PairCofactors.{length-leading_monomial}
use Rattle.word_model.proofs.Reductions.{multiple-leading}

-- ---- leading terms

pub leading-below : (cmp : Monomial → Monomial → Ordering) (p : ℕ) (f : Polynomial) → IsCanonical cmp p f → f ≢ [] → leading_coefficient f < p
leading-below cmp p [] h nonzero = absurd (nonzero refl)
leading-below cmp p (t ∷ f) h nonzero = h.1

-- ---- multiples

module _ (A : Algebra) (ok : IsGAlgebra A) where
  -- a multiple is not zero
  pub multiple-nonzero : (m : Monomial) (g r : Polynomial) → length m ≡ A.order.vars → IsPolynomial A.p A.order g → g ≢ []
      → r ≡ multiple A 1 m g → r ≢ []
  multiple-nonzero m g r vars g_is nonzero is = λ e. (multiple-leading A ok m g vars g_is nonzero).0 (sym is ∙ e)

-- ---- divisors

-- what is known of the element of number i, the first whose leading monomial divides m
pub record HasDivisor (p : ℕ) (order : RowOrder) (G : List Polynomial) (m : Monomial) (i : ℕ) : Type 0 where
  pub low : 1 ≤ i
  pub high : i ≤ length G
  pub is : IsPolynomial p order (element G i)
  pub nonzero : element G i ≢ []
  pub vars : length (leading_monomial (element G i)) ≡ order.vars
  pub divides_it : divides (leading_monomial (element G i)) m ≡ true
  pub quotient_vars : length (minus m (leading_monomial (element G i))) ≡ order.vars

pub has_divisor : (A : Algebra) (G : List Polynomial) (m : Monomial) (i : ℕ) → Each (IsPolynomial A.p A.order) G → length m ≡ A.order.vars
    → first_divisor G m ≡ Some i → HasDivisor A.p A.order G m i
has_divisor A G m i sorted m_vars found =
    let d : IsFirstDivisor G m i = first_divisor-found G m i found in
    let g_is : IsPolynomial A.p A.order (element G i) = Each-element (IsPolynomial A.p A.order) G i sorted d.low d.high in
    let g_vars : length (leading_monomial (element G i)) ≡ A.order.vars = length-leading_monomial A.order.vars (element G i) g_is.vars d.nonzero in
    record {
      low = d.low;
      high = d.high;
      is = g_is;
      nonzero = d.nonzero;
      vars = g_vars;
      divides_it = d.divides_it;
      quotient_vars = length-zip_with (λ x y. x - y) m (leading_monomial (element G i)) (m_vars ∙ sym g_vars) ∙ m_vars;
    }
