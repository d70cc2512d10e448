-- Sums of multiples of the elements of any list, with no bound: values of left combinations.
use Rattle.std.proofs.Common.{◌≡◌, ℕ, ◌+◌, ◌-◌, ◌*◌, List, [], ◌∷◌, ◌++◌, length, sym}
use Rattle.monomials.specs.Monomials.{Monomial, one}
use Rattle.monomials.specs.Orders.{order_cmp}
use Rattle.monomials.specs.Polynomials.{Polynomial, Each, HasVars, poly_scale}
use Rattle.monomials.proofs.Weights.{weigh, weigh-poly_add, weigh-poly_scale}
use Rattle.monomials.proofs.OrderLaws.{order_cmp_tied}
use Rattle.monomials.proofs.Keys.{Each-weaker}
use Rattle.word_model.specs.Words.{Algebra, sorted_word, normal_form}
use Rattle.word_model.specs.Products.{product}
use Rattle.word_model.specs.Conditions.{IsGAlgebra}
use Rattle.word_model.specs.Reduction.{element, multiple}
use Rattle.word_model.specs.Cofactors.{Row, row_value}
use Rattle.word_model.proofs.NormalForms.{row_weight, weigh-product, normal_form_is_polynomial}
use Rattle.word_model.proofs.LeastNumbers.{Each-element}
use Rattle.word_model.proofs.Settled.{IsNumber}
use Rattle.word_model.proofs.Sums.{IsSum, sum_zero, sum_same, sum_add, sum_scale, sum_one, sum_all}
use Rattle.word_model.proofs.MultipleWeights.{Multiple, behind, multiple_shift, multiple_weight}
use Rattle.word_model.proofs.Differences.{sub, weigh-sub}
use Rattle.word_model.proofs.Monic.{length-one, row_weight-one}

-- a multiple of one of the elements, zero or not
abbrev pub IsMultiple : Algebra → List Polynomial → Multiple → Type 0
IsMultiple A G k = (length k.0 ≡ A.order.vars) × IsNumber G k.1

-- a value that is a sum of multiples of the elements of G
abbrev pub IsSpanned : Algebra → List Polynomial → ((Monomial → ℕ) → ℕ) → Type 0
IsSpanned A G F = IsSum A.p (multiple_weight A G) (IsMultiple A G) F

-- a polynomial with such a value
abbrev pub InSpan : Algebra → List Polynomial → Polynomial → Type 0
InSpan A G f = IsSpanned A G (λ φ. weigh φ f)

module _ (A : Algebra) (ok : IsGAlgebra A) (G : List Polynomial) (vars : Each (HasVars A.order.vars) G) where
  -- an element itself
  pub span_element : (i : ℕ) → IsNumber G i → InSpan A G (element G i)
  span_element i h =
      sum_same A.p (multiple_weight A G) (IsMultiple A G) (λ φ. multiple_weight A G φ (one A.order.vars, i)) (λ φ. weigh φ (element G i))
      (λ φ. sym (row_weight-one A φ (element G i) (Each-element (HasVars A.order.vars) G i vars h.0 h.1)))
      (sum_one A.p (multiple_weight A G) (IsMultiple A G) (one A.order.vars, i) (length-one A.order.vars, h))

  pub span_sub : (f g : Polynomial) → InSpan A G f → InSpan A G g → InSpan A G (sub A ok f g)
  span_sub f g hf hg =
      sum_same A.p (multiple_weight A G) (IsMultiple A G) (λ φ. weigh φ f + (A.p - 1) * weigh φ g) (λ φ. weigh φ (sub A ok f g)) (λ φ. weigh-sub A ok φ f g)
      (sum_add A.p (multiple_weight A G) (IsMultiple A G) (λ φ. weigh φ f) (λ φ. (A.p - 1) * weigh φ g) hf
      (sum_scale A.p (multiple_weight A G) (IsMultiple A G) (A.p - 1) (λ φ. weigh φ g) hg))

  pub span_scale : (c : ℕ) (f : Polynomial) → InSpan A G f → InSpan A G (poly_scale A.p c f)
  span_scale c f h =
      sum_same A.p (multiple_weight A G) (IsMultiple A G) (λ φ. c * weigh φ f) (λ φ. weigh φ (poly_scale A.p c f)) (λ φ. weigh-poly_scale A.p φ c f)
      (sum_scale A.p (multiple_weight A G) (IsMultiple A G) c (λ φ. weigh φ f) h)

  -- u times a multiple of an element
  one_behind : (u : Monomial) → length u ≡ A.order.vars → (k : Multiple) → IsMultiple A G k → IsSpanned A G (λ φ. multiple_weight A G (behind A u φ) k)
  one_behind u hu k h =
      sum_same A.p (multiple_weight A G) (IsMultiple A G) (λ φ. weigh (λ m. multiple_weight A G φ (m, k.1)) (normal_form A (sorted_word u ++ sorted_word k.0)))
      (λ φ. multiple_weight A G (behind A u φ) k)
      (λ φ. multiple_shift A ok u k.0 hu h.0 (element G k.1) (Each-element (HasVars A.order.vars) G k.1 vars h.1.0 h.1.1) φ)
      (sum_all A.p (multiple_weight A G) (IsMultiple A G) (λ m φ. multiple_weight A G φ (m, k.1)) (normal_form A (sorted_word u ++ sorted_word k.0))
      (Each-weaker _ _ (λ e len. sum_one A.p (multiple_weight A G) (IsMultiple A G) (e.1, k.1) (len, h.1)) (normal_form A (sorted_word u ++ sorted_word k.0))
      (normal_form_is_polynomial A ok.field.more (sorted_word u ++ sorted_word k.0)).vars))

  -- u times a sum of multiples
  pub span_behind : (u : Monomial) → length u ≡ A.order.vars → (F : (Monomial → ℕ) → ℕ) → IsSpanned A G F → IsSpanned A G (λ φ. F (behind A u φ))
  span_behind u hu F s =
      sum_same A.p (multiple_weight A G) (IsMultiple A G) (λ φ. weigh (λ k. multiple_weight A G (behind A u φ) k) s.terms) (λ φ. F (behind A u φ)) (λ φ. s.value (behind A u φ))
      (sum_all A.p (multiple_weight A G) (IsMultiple A G) (λ k φ. multiple_weight A G (behind A u φ) k) s.terms
      (Each-weaker _ _ (λ e h. one_behind u hu e.1 h) s.terms s.each))

  -- q times a polynomial in the span
  pub span_row : (f q : Polynomial) → HasVars A.order.vars q → InSpan A G f → IsSpanned A G (λ φ. weigh (row_weight A φ f) q)
  span_row f q hq h =
      sum_all A.p (multiple_weight A G) (IsMultiple A G) (λ u φ. row_weight A φ f u) q
      (Each-weaker _ _ (λ e len. span_behind e.1 len (λ φ. weigh φ f) h) q hq)

  pub span_product : (q f : Polynomial) → HasVars A.order.vars q → InSpan A G f → InSpan A G (product A q f)
  span_product q f hq h =
      sum_same A.p (multiple_weight A G) (IsMultiple A G) (λ φ. weigh (row_weight A φ f) q) (λ φ. weigh φ (product A q f)) (λ φ. weigh-product A φ q f) (span_row f q hq h)

  pub span_multiple : (c : ℕ) (m : Monomial) (f : Polynomial) → length m ≡ A.order.vars → InSpan A G f → InSpan A G (multiple A c m f)
  span_multiple c m f hm h = span_product ((c, m) ∷ []) f (hm, tt) h

  -- the value of a left combination of polynomials in the span
  pub span_combination : (q : Row) (H : List Polynomial) → Each (HasVars A.order.vars) q → Each (InSpan A G) H → InSpan A G (row_value A q H)
  span_combination [] H hq h = sum_zero A.p (multiple_weight A G) (IsMultiple A G)
  span_combination (f ∷ q) [] hq h = sum_zero A.p (multiple_weight A G) (IsMultiple A G)
  span_combination (f ∷ q) (g ∷ H) hq h =
      sum_same A.p (multiple_weight A G) (IsMultiple A G) (λ φ. weigh φ (product A f g) + weigh φ (row_value A q H)) (λ φ. weigh φ (row_value A (f ∷ q) (g ∷ H)))
      (λ φ. weigh-poly_add (order_cmp A.order.rows) (order_cmp_tied A.order.rows) A.p φ (product A f g) (row_value A q H))
      (sum_add A.p (multiple_weight A G) (IsMultiple A G) (λ φ. weigh φ (product A f g)) (λ φ. weigh φ (row_value A q H))
      (span_product f g hq.0 h.0) (span_combination q H hq.1 h.1))

  -- a sum of multiples of polynomials in the span
  pub span_through : (H : List Polynomial) → ((i : ℕ) → IsNumber H i → InSpan A G (element H i)) → (F : (Monomial → ℕ) → ℕ) → IsSpanned A H F → IsSpanned A G F
  span_through H inside F s =
      sum_same A.p (multiple_weight A G) (IsMultiple A G) (λ φ. weigh (λ k. multiple_weight A H φ k) s.terms) F s.value
      (sum_all A.p (multiple_weight A G) (IsMultiple A G) (λ k φ. multiple_weight A H φ k) s.terms
      (Each-weaker _ _ (λ e h. span_behind e.1.0 h.0 (λ φ. weigh φ (element H e.1.1)) (inside e.1.1 h.1)) s.terms s.each))
