-- A sum of multiples as a left combination: one polynomial for each element.
use Rattle.std.proofs.Common.{◌≡◌, ◌≢◌, ℕ, suc, ◌+◌, ◌-◌, ◌*◌, ◌<◌, ◌≤◌, ◌==◌, cond, Bool, true, false, List, [], ◌∷◌, length, slice_index_or, refl, sym, ap, ◌∙◌, subst, arith}
use Rattle.std.proofs.lemmas.Bool.Decides.{nat_tests}
use Rattle.monomials.specs.Monomials.{Monomial, plus}
use Rattle.monomials.specs.Orders.{order_cmp}
use Rattle.monomials.specs.Leading.{leading_monomial}
use Rattle.monomials.specs.Polynomials.{Polynomial, Each, HasVars, IsPolynomial, from_terms}
use Rattle.monomials.proofs.Modulo.{Same, same_refl, same_add}
use Rattle.monomials.proofs.Weights.{weigh, weigh-poly_add, weigh-from_terms}
use Rattle.monomials.proofs.OrderLaws.{order_cmp_tied}
use Rattle.monomials.proofs.Keys.{Each-weaker, EachKey, EachKey-from_terms}
use Rattle.monomials.proofs.Operations.{IsPolynomial-poly_add, IsPolynomial-from_terms}
use Rattle.word_model.specs.Words.{Algebra}
use Rattle.word_model.specs.Products.{product}
use Rattle.word_model.specs.Conditions.{IsGAlgebra}
use Rattle.word_model.specs.Reduction.{element}
use Rattle.word_model.specs.Cofactors.{Row, row_value}
use Rattle.word_model.specs.Ideals.{InLeftIdeal, EachLeading}
use Rattle.word_model.proofs.NormalForms.{row_weight, weigh-product, product_is_polynomial, same_weights}
use Rattle.word_model.proofs.LeadingMonomials.{order}
use Rattle.word_model.proofs.Sums.{IsSum}
use Rattle.word_model.proofs.MultipleWeights.{Multiple, multiple_weight, top}
use Rattle.word_model.proofs.Connections.{positive}
use Rattle.word_model.proofs.Spans.{IsMultiple, InSpan, span_combination}

-- the terms of a sum that are multiples of the element of number i
pub chosen : ℕ → List (ℕ × Multiple) → List (ℕ × Monomial)
chosen i [] = []
chosen i (e ∷ r) = cond (e.1.1 == i) ((e.0, e.1.0) ∷ chosen i r) (chosen i r)

module _ (A : Algebra) (ok : IsGAlgebra A) where
  pub collected : ℕ → List (ℕ × Multiple) → List Polynomial → Row
  collected i r [] = []
  collected i r (g ∷ H) = from_terms (order_cmp A.order.rows) A.p (chosen i r) ∷ collected (suc i) r H

  -- what the chosen terms weigh, for each element from number i on
  weights : (Monomial → ℕ) → ℕ → List (ℕ × Multiple) → List Polynomial → ℕ
  weights φ i r [] = 0
  weights φ i r (g ∷ H) = weigh (row_weight A φ g) (chosen i r) + weights φ (suc i) r H

  weigh-collected : (φ : Monomial → ℕ) (i : ℕ) (r : List (ℕ × Multiple)) (H : List Polynomial) → Same A.p (weigh φ (row_value A (collected i r H) H)) (weights φ i r H)
  unfolding weights collected
  weigh-collected φ i r [] = refl
  weigh-collected φ i r (g ∷ H) =
      weigh-poly_add (order A) (order_cmp_tied A.order.rows) A.p φ (product A (from_terms (order A) A.p (chosen i r)) g) (row_value A (collected (suc i) r H) H)
      ∙ same_add A.p _ _ _ _
      (weigh-product A φ (from_terms (order A) A.p (chosen i r)) g ∙ weigh-from_terms (order A) (order_cmp_tied A.order.rows) A.p (row_weight A φ g) (chosen i r))
      (weigh-collected φ (suc i) r H)

  weights-before : (φ : Monomial → ℕ) (i : ℕ) (e : ℕ × Multiple) (r : List (ℕ × Multiple)) (H : List Polynomial) → e.1.1 < i → weights φ i (e ∷ r) H ≡ weights φ i r H
  unfolding weights chosen
  weights-before φ i e r [] h = refl
  weights-before φ i e r (g ∷ H) h =
      let other : (e.1.1 == i) ≡ false = grind (arith, nat_tests, h) in
      λ k. weigh (row_weight A φ g) (cond (other k) ((e.0, e.1.0) ∷ chosen i r) (chosen i r)) + weights-before φ (suc i) e r H (omega arith) k

  -- one term more
  weights-more : (φ : Monomial → ℕ) (i : ℕ) (e : ℕ × Multiple) (r : List (ℕ × Multiple)) (H : List Polynomial) → i ≤ e.1.1 → e.1.1 < i + length H
      → weights φ i (e ∷ r) H ≡ e.0 * row_weight A φ (slice_index_or H (e.1.1 - i) []) e.1.0 + weights φ i r H
  unfolding weights chosen
  weights-more φ i e r [] a b = absurd (omega arith)
  weights-more φ i e r (g ∷ H) a b = by (e.1.1 == i) refl (weights-more φ (suc i) e r H)
    where
      by : (t : Bool) → (e.1.1 == i) ≡ t
          → (suc i ≤ e.1.1 → e.1.1 < suc i + length H → weights φ (suc i) (e ∷ r) H ≡ e.0 * row_weight A φ (slice_index_or H (e.1.1 - suc i) []) e.1.0 + weights φ (suc i) r H)
          → weigh (row_weight A φ g) (cond t ((e.0, e.1.0) ∷ chosen i r) (chosen i r)) + weights φ (suc i) (e ∷ r) H
          ≡ e.0 * row_weight A φ (slice_index_or (g ∷ H) (e.1.1 - i) []) e.1.0 + (weigh (row_weight A φ g) (chosen i r) + weights φ (suc i) r H)
      by true t more =
          let here : e.1.1 ≡ i = grind (arith, nat_tests, t) in
          let z : e.1.1 - i ≡ 0 = omega (arith, here) in
          let none : weights φ (suc i) (e ∷ r) H ≡ weights φ (suc i) r H = weights-before φ (suc i) e r H (omega (arith, here)) in
          omega (arith, none, ap (λ n. e.0 * row_weight A φ (slice_index_or (g ∷ H) n []) e.1.0) z)
      by false t more =
          let later : suc i ≤ e.1.1 = grind (arith, nat_tests, t, a) in
          let n : e.1.1 - i ≡ suc (e.1.1 - suc i) = omega arith in
          omega (arith, more later (omega arith), ap (λ n. e.0 * row_weight A φ (slice_index_or (g ∷ H) n []) e.1.0) n)

  weights-empty : (φ : Monomial → ℕ) (i : ℕ) (H : List Polynomial) → weights φ i [] H ≡ 0
  unfolding weights chosen
  weights-empty φ i [] = refl
  weights-empty φ i (g ∷ H) = omega (arith, weights-empty φ (suc i) H)

  weights-all : (φ : Monomial → ℕ) (G : List Polynomial) (r : List (ℕ × Multiple)) → EachKey (IsMultiple A G) r → weights φ 1 r G ≡ weigh (multiple_weight A G φ) r
  weights-all φ G [] h = weights-empty φ 1 G
  weights-all φ G (e ∷ r) h =
      weights-more φ 1 e r G h.0.1.0 (let l : e.1.1 ≤ length G = h.0.1.1 in omega arith)
      ∙ ap (λ x. e.0 * row_weight A φ (element G e.1.1) e.1.0 + x) (weights-all φ G r h.1)

  -- so the combination weighs what the sum does
  pub weigh-collected_all : (φ : Monomial → ℕ) (G : List Polynomial) (r : List (ℕ × Multiple)) → EachKey (IsMultiple A G) r
      → Same A.p (weigh φ (row_value A (collected 1 r G) G)) (weigh (multiple_weight A G φ) r)
  weigh-collected_all φ G r h = weigh-collected φ 1 r G ∙ same_refl A.p _ _ (weights-all φ G r h)

  -- ---- the polynomials of the combination

  pub length-collected : (i : ℕ) (r : List (ℕ × Multiple)) (H : List Polynomial) → length (collected i r H) ≡ length H
  unfolding collected
  length-collected i r [] = refl
  length-collected i r (g ∷ H) = ap suc (length-collected (suc i) r H)

  -- they depend on the number of elements alone
  pub collected-same : (i : ℕ) (r : List (ℕ × Multiple)) (H H' : List Polynomial) → length H ≡ length H' → collected i r H ≡ collected i r H'
  unfolding collected
  collected-same i r [] [] e = refl
  collected-same i r [] (g ∷ H') e = absurd (omega arith)
  collected-same i r (g ∷ H) [] e = absurd (omega arith)
  collected-same i r (g ∷ H) (g' ∷ H') e = λ k. from_terms (order A) A.p (chosen i r) ∷ collected-same (suc i) r H H' (omega arith) k

  -- what holds of the monomials of the chosen terms
  chosen-keys : (P : Monomial → Type 0) (i : ℕ) (r : List (ℕ × Multiple)) → Each (λ e. e.1.1 ≡ i → P e.1.0) r → EachKey P (chosen i r)
  unfolding chosen
  chosen-keys P i [] h = tt
  chosen-keys P i (e ∷ r) h = by (e.1.1 == i) refl (chosen-keys P i r h.1)
    where
      by : (b : Bool) → (e.1.1 == i) ≡ b → EachKey P (chosen i r) → EachKey P (cond b ((e.0, e.1.0) ∷ chosen i r) (chosen i r))
      by true b ih = let here : e.1.1 ≡ i = grind (arith, nat_tests, b) in (h.0 here, ih)
      by false b ih = ih

  pub collected-are : (i : ℕ) (r : List (ℕ × Multiple)) (H : List Polynomial) → Each (λ e. length e.1.0 ≡ A.order.vars) r → Each (IsPolynomial A.p A.order) (collected i r H)
  unfolding collected
  collected-are i r [] h = tt
  collected-are i r (g ∷ H) h = (
    IsPolynomial-from_terms A.p A.order (positive A ok) (chosen i r) (chosen-keys (λ m. length m ≡ A.order.vars) i r (Each-weaker _ _ (λ e len same. len) r h)),
    collected-are (suc i) r H h,
  )

  -- all monomials of the terms have a property: so have those of the polynomials
  collected-keys : (P : Monomial → Type 0) (i : ℕ) (r : List (ℕ × Multiple)) (H : List Polynomial) → Each (λ e. P e.1.0) r → Each (EachKey P) (collected i r H)
  unfolding collected
  collected-keys P i r [] h = tt
  collected-keys P i r (g ∷ H) h = (EachKey-from_terms (order A) A.p P (chosen i r) (chosen-keys P i r (Each-weaker _ _ (λ e k same. k) r h)), collected-keys P (suc i) r H h)

  first_key : (P : Monomial → Type 0) (f : Polynomial) → EachKey P f → f ≢ [] → P (leading_monomial f)
  first_key P [] h nonzero = absurd (nonzero refl)
  first_key P (t ∷ f) h nonzero = h.0

  collected-leads : (P : Monomial → Type 0) (i : ℕ) (r : List (ℕ × Multiple)) (H : List Polynomial)
      → Each (λ e. i ≤ e.1.1 → e.1.1 < i + length H → P (plus e.1.0 (leading_monomial (slice_index_or H (e.1.1 - i) [])))) r → EachLeading P (collected i r H) H
  unfolding collected
  collected-leads P i r [] h = tt
  collected-leads P i r (g ∷ H) h = (
    (λ some g_some.
        first_key (λ m. P (plus m (leading_monomial g))) (from_terms (order A) A.p (chosen i r))
        (EachKey-from_terms (order A) A.p (λ m. P (plus m (leading_monomial g))) (chosen i r)
        (chosen-keys (λ m. P (plus m (leading_monomial g))) i r (Each-weaker _ _ (λ e k same. here e same k) r h))) some),
    collected-leads P (suc i) r H (Each-weaker _ _ (λ e k. later e k) r h),
  )
    where
      here : (e : ℕ × Multiple) → e.1.1 ≡ i → (i ≤ e.1.1 → e.1.1 < i + length (g ∷ H) → P (plus e.1.0 (leading_monomial (slice_index_or (g ∷ H) (e.1.1 - i) []))))
          → P (plus e.1.0 (leading_monomial g))
      here e same k =
          let z : e.1.1 - i ≡ 0 = omega (arith, same) in
          subst (λ n. P (plus e.1.0 (leading_monomial (slice_index_or (g ∷ H) n [])))) z (k (omega (arith, same)) (omega (arith, same)))

      later : (e : ℕ × Multiple) → (i ≤ e.1.1 → e.1.1 < i + length (g ∷ H) → P (plus e.1.0 (leading_monomial (slice_index_or (g ∷ H) (e.1.1 - i) []))))
          → suc i ≤ e.1.1 → e.1.1 < suc i + length H → P (plus e.1.0 (leading_monomial (slice_index_or H (e.1.1 - suc i) [])))
      later e k low high =
          let n : e.1.1 - i ≡ suc (e.1.1 - suc i) = omega arith in
          subst (λ n. P (plus e.1.0 (leading_monomial (slice_index_or (g ∷ H) n [])))) n (k (omega arith) (omega arith))

  pub row_value-is : (q : Row) (G : List Polynomial) → IsPolynomial A.p A.order (row_value A q G)
  row_value-is [] G = record { canonical = tt; vars = tt }
  row_value-is (f ∷ q) [] = record { canonical = tt; vars = tt }
  row_value-is (f ∷ q) (g ∷ G) =
      IsPolynomial-poly_add A.p A.order (positive A ok) (product A f g) (row_value A q G) (product_is_polynomial A ok.field.more f g) (row_value-is q G)

  -- a sum of multiples by monomials that have the property P, as a left combination by polynomials whose monomials have it
  pub sum_combination_by : (P : Monomial → Type 0) (G : List Polynomial) (f : Polynomial) → IsPolynomial A.p A.order f
      → IsSum A.p (multiple_weight A G) (λ k. IsMultiple A G k × P k.0) (λ φ. weigh φ f)
      → (q : Row) × (length q ≡ length G) × Each (IsPolynomial A.p A.order) q × Each (EachKey P) q × (row_value A q G ≡ f)
  sum_combination_by P G f f_is s = (
    collected 1 s.terms G,
    length-collected 1 s.terms G,
    collected-are 1 s.terms G (Each-weaker _ _ (λ e h. h.0.0) s.terms s.each),
    collected-keys P 1 s.terms G (Each-weaker _ _ (λ e h. h.1) s.terms s.each),
    same_weights A (row_value A (collected 1 s.terms G) G) f (row_value-is (collected 1 s.terms G) G) f_is
        (λ φ. weigh-collected_all φ G s.terms (Each-weaker _ _ (λ e h. h.0) s.terms s.each) ∙ sym (s.value φ)),
  )

  -- a sum of multiples that reach what has the property P, as a left combination
  pub sum_combination : (P : Monomial → Type 0) (G : List Polynomial) (f : Polynomial) → IsPolynomial A.p A.order f
      → IsSum A.p (multiple_weight A G) (λ k. IsMultiple A G k × P (top A G k)) (λ φ. weigh φ f)
      → (q : Row) × (length q ≡ length G) × Each (IsPolynomial A.p A.order) q × EachLeading P q G × (row_value A q G ≡ f)
  sum_combination P G f f_is s = (
    collected 1 s.terms G,
    length-collected 1 s.terms G,
    collected-are 1 s.terms G (Each-weaker _ _ (λ e h. h.0.0) s.terms s.each),
    collected-leads P 1 s.terms G (Each-weaker _ _ (λ e h low high. h.1) s.terms s.each),
    same_weights A (row_value A (collected 1 s.terms G) G) f (row_value-is (collected 1 s.terms G) G) f_is
        (λ φ. weigh-collected_all φ G s.terms (Each-weaker _ _ (λ e h. h.0) s.terms s.each) ∙ sym (s.value φ)),
  )

  -- the left ideal of a list is its span
  pub span_in_ideal : (G : List Polynomial) (f : Polynomial) → IsPolynomial A.p A.order f → InSpan A G f → InLeftIdeal A G f
  span_in_ideal G f f_is s =
      let c : (q : Row) × (length q ≡ length G) × Each (IsPolynomial A.p A.order) q × EachLeading (λ m. Unit {0}) q G × (row_value A q G ≡ f) =
      sum_combination (λ m. Unit {0}) G f f_is (record { terms = s.terms; each = Each-weaker _ _ (λ e h. (h, tt)) s.terms s.each; value = s.value }) in
      (c.0, c.1, c.2, c.4)

  pub ideal_is : (G : List Polynomial) (f : Polynomial) → InLeftIdeal A G f → IsPolynomial A.p A.order f
  ideal_is G f h = subst (IsPolynomial A.p A.order) h.3 (row_value-is h.0 G)

  -- the left ideal of polynomials in a span is in it
  pub ideal_in_span : (G H : List Polynomial) → Each (HasVars A.order.vars) G → Each (InSpan A G) H → (f : Polynomial) → InLeftIdeal A H f → InSpan A G f
  ideal_in_span G H vars inside f h =
      subst (InSpan A G) h.3 (span_combination A ok G vars h.0 H (Each-weaker _ _ (λ q q_is. q_is.vars) h.0 h.2) inside)
