-- Under an elimination order the elements of a reduced basis in which none of the variables occurs generate, with polynomials
-- without them, what the ideal has without them.
use Rattle.std.proofs.Common.{◌≡◌, ◌≢◌, ℕ, inl, inr, Bool, true, false, List, [], ◌∷◌, length, if◌then◌else◌, refl, sym, ap, ◌∙◌, subst, arith}
use Rattle.monomials.specs.Monomials.{Monomial, plus, minus}
use Rattle.monomials.specs.Orders.{RowOrder}
use Rattle.monomials.specs.Leading.{leading_monomial, leading_coefficient}
use Rattle.monomials.specs.Polynomials.{Polynomial, Each, HasVars, IsPolynomial}
use Rattle.monomials.specs.WellFounded.{IsWellFounded}
use Rattle.monomials.proofs.Weights.{weigh}
use Rattle.monomials.proofs.Keys.{Each-weaker, EachKey}
use Rattle.word_model.specs.Words.{Algebra}
use Rattle.word_model.specs.Conditions.{IsGAlgebra}
use Rattle.word_model.specs.Reduction.{element, lead_divides}
use Rattle.word_model.specs.Cofactors.{Row, row_value}
use Rattle.word_model.specs.Ideals.{InLeftIdeal, IsOneOf, IsReducedBasis}
use Rattle.word_model.specs.Elimination.{elimination_order, is_free, restricted, InIdealFreeOf}
use Rattle.word_model.proofs.Letters.{Each-both}
use Rattle.word_model.proofs.LeastNumbers.{Each-element, lead_divides-nonzero, lead_divides-divides}
use Rattle.word_model.proofs.Divisions.{length-minus, plus-minus}
use Rattle.word_model.proofs.PairCofactors.{length-leading_monomial}
use Rattle.word_model.proofs.Sums.{sum_weaker}
use Rattle.word_model.proofs.MultipleWeights.{Multiple, multiple_weight, top}
use Rattle.word_model.proofs.Settled.{IsNumber}
use Rattle.word_model.proofs.Spans.{IsMultiple}
use Rattle.word_model.proofs.Combinations.{ideal_is, span_in_ideal, ideal_in_span, sum_combination_by}
use Rattle.word_model.proofs.Unique.{each_one}
use Rattle.word_model.proofs.Generated.{generated_within}
use Rattle.word_model.proofs.ReducedLists.{number_of}
use Rattle.word_model.proofs.Deciding.{own_span}
use Rattle.word_model.proofs.ReducedBases.{left_ideal}
use Rattle.word_model.proofs.FreePolynomials.{free_keys, keys_free, IsFree, free_below, free_factors, free_by_leading, row_value-free}

-- ---- restricted lists

module _ (n : ℕ) (vars : List ℕ) where
  restricted-each : (P : Polynomial → Type 0) (F : List Polynomial) → Each P F → Each P (restricted n vars F)
  restricted-each P [] h = tt
  restricted-each P (f ∷ F) h = by (is_free n vars f) (restricted-each P F h.1)
    where
      by : (b : Bool) → Each P (restricted n vars F) → Each P (if b then f ∷ restricted n vars F else restricted n vars F)
      by true rest = (h.0, rest)
      by false rest = rest

  restricted-free : (F : List Polynomial) → Each (λ f. is_free n vars f ≡ true) (restricted n vars F)
  restricted-free [] = tt
  restricted-free (f ∷ F) = by (is_free n vars f) refl (restricted-free F)
    where
      by : (b : Bool) → is_free n vars f ≡ b → Each (λ f. is_free n vars f ≡ true) (restricted n vars F) → Each (λ f. is_free n vars f ≡ true) (if b then f ∷ restricted n vars F else restricted n vars F)
      by true b rest = (b, rest)
      by false b rest = rest

  restricted-has : (F : List Polynomial) (g : Polynomial) → IsOneOf g F → is_free n vars g ≡ true → IsOneOf g (restricted n vars F)
  restricted-has [] g m e = m
  restricted-has (f ∷ F) g m e = by (is_free n vars f) refl m (λ m. restricted-has F g m e)
    where
      by : (b : Bool) → is_free n vars f ≡ b → IsOneOf g (f ∷ F) → (IsOneOf g F → IsOneOf g (restricted n vars F)) → IsOneOf g (if b then f ∷ restricted n vars F else restricted n vars F)
      by true b (inl is) rest = inl is
      by true b (inr m) rest = inr (rest m)
      by false b (inl is) rest = absurd (let both : true ≡ false = sym e ∙ ap (is_free n vars) (sym is) ∙ b in cc)
      by false b (inr m) rest = rest m

-- ---- the ideal without the variables

module _ (A : Algebra) (ok : IsGAlgebra A) (well : IsWellFounded A.order) (vars : List ℕ) (old : RowOrder) (is : A.order ≡ elimination_order vars old)
    (gens : List Polynomial) (sorted : Each (IsPolynomial A.p A.order) gens) (F : List Polynomial) (r : IsReducedBasis A (InLeftIdeal A gens) F) where
  abbrev pub few : List Polynomial
  few = restricted A.order.vars vars F

  abbrev Free : Monomial → Type 0
  Free = IsFree A ok vars old is

  few_inside : Each (InLeftIdeal A gens) few
  few_inside = restricted-each A.order.vars vars (InLeftIdeal A gens) F r.inside

  few_is : Each (IsPolynomial A.p A.order) few
  few_is = Each-weaker _ _ (λ f h. ideal_is A ok gens f h) few few_inside

  few_free : Each (EachKey Free) few
  few_free = Each-weaker _ _ (λ f e. free_keys A.order.vars vars f e) few (restricted-free A.order.vars vars F)

  few_nonzero : Each (λ f. f ≢ []) few
  few_nonzero = restricted-each A.order.vars vars (λ f. f ≢ []) F (Each-weaker _ _ (λ f one none. absurd (never f one none)) F r.monic)
    where
      never : (f : Polynomial) → leading_coefficient f ≡ 1 → f ≡ [] → ⊥
      never [] one none = absurd (omega (arith, one))
      never (t ∷ f) one none = cc

  -- a polynomial of the ideal without the variables has its leading monomial divided by that of one of them
  divided : (f : Polynomial) → InLeftIdeal A gens f → EachKey Free f → f ≢ [] → (i : ℕ) × IsNumber few i × (lead_divides (element few i) (leading_monomial f) ≡ true)
  divided [] h keys nonzero = absurd (nonzero refl)
  divided (t ∷ f) h keys nonzero =
      let d : (g : Polynomial) × IsOneOf g F × (lead_divides g t.1 ≡ true) = r.divided (t ∷ f) h nonzero in
      let g_is : IsPolynomial A.p A.order d.0 = ideal_is A ok gens d.0 (each_one (InLeftIdeal A gens) d.0 F r.inside d.1) in
      let lg : length (leading_monomial d.0) ≡ A.order.vars = length-leading_monomial A.order.vars d.0 g_is.vars (lead_divides-nonzero d.0 t.1 d.2) in
      let lt : length t.1 ≡ A.order.vars = (ideal_is A ok gens (t ∷ f) h).vars.0 in
      let product_is : plus (minus t.1 (leading_monomial d.0)) (leading_monomial d.0) ≡ t.1 = plus-minus t.1 (leading_monomial d.0) (lt ∙ sym lg) (lead_divides-divides d.0 t.1 d.2) in
      let factors : Free (minus t.1 (leading_monomial d.0)) × Free (leading_monomial d.0) =
      free_factors A ok vars old is (minus t.1 (leading_monomial d.0)) (leading_monomial d.0) (length-minus t.1 (leading_monomial d.0) (lt ∙ sym lg) ∙ lt) lg (subst Free (sym product_is) keys.0) in
      let free : is_free A.order.vars vars d.0 ≡ true = keys_free A.order.vars vars d.0 (free_by_leading A ok vars old is d.0 g_is factors.1) in
      let n : (i : ℕ) × IsNumber few i × (element few i ≡ d.0) = number_of few d.0 (restricted-has A.order.vars vars F d.0 d.1 free) in
      (n.0, n.1, ap (λ g. lead_divides g t.1) n.2 ∙ d.2)

  -- what reaches a monomial without the variables is a multiple by one
  multiple_free : (k : Multiple) → IsMultiple A few k × Free (top A few k) → IsMultiple A few k × Free k.0
  multiple_free k h =
      let g : Polynomial = element few k.1 in
      let g_vars : HasVars A.order.vars g = (Each-element (IsPolynomial A.p A.order) few k.1 few_is h.0.1.0 h.0.1.1).vars in
      let nonzero : g ≢ [] = Each-element (λ f. f ≢ []) few k.1 few_nonzero h.0.1.0 h.0.1.1 in
      (h.0, (free_factors A ok vars old is k.0 (leading_monomial g) h.0.0 (length-leading_monomial A.order.vars g g_vars nonzero) h.1).0)

  pub in_free_ideal : (f : Polynomial) → InLeftIdeal A gens f → is_free A.order.vars vars f ≡ true → InIdealFreeOf A vars few f
  in_free_ideal f h free =
      let s : (q : Row) × (length q ≡ length few) × Each (IsPolynomial A.p A.order) q × Each (EachKey Free) q × (row_value A q few ≡ f) =
      sum_combination_by A ok Free few f (ideal_is A ok gens f h)
      (sum_weaker A.p (multiple_weight A few) (λ k. IsMultiple A few k × Free (top A few k)) (λ k. IsMultiple A few k × Free k.0) multiple_free (λ φ. weigh φ f)
      (generated_within A ok well (InLeftIdeal A gens) (ideal_is A ok gens) (left_ideal A ok gens sorted).difference (left_ideal A ok gens sorted).multiplied few few_inside few_is Free
      (free_below A ok vars old is) divided f h (free_keys A.order.vars vars f free))) in
      (s.0, s.1, Each-both _ _ _ (λ a a_is keys. (a_is, keys_free A.order.vars vars a keys)) s.0 s.2 s.3, s.4)

  pub free_ideal_in : (f : Polynomial) → InIdealFreeOf A vars few f → InLeftIdeal A gens f × (is_free A.order.vars vars f ≡ true)
  free_ideal_in f h =
      let q_is : Each (IsPolynomial A.p A.order) h.0 = Each-weaker _ _ (λ a k. k.0) h.0 h.2 in
      let left : InLeftIdeal A few f = (h.0, h.1, q_is, h.3) in (
        span_in_ideal A ok gens f (ideal_is A ok few f left)
            (ideal_in_span A ok gens few (Each-weaker _ _ (λ f h. h.vars) gens sorted) (Each-weaker _ _ (λ f k. (own_span A ok gens sorted).spanned f k) few few_inside) f left),
        keys_free A.order.vars vars f
            (subst (EachKey Free) h.3
            (row_value-free A ok vars old is h.0 few (Each-weaker _ _ (λ a k. k.vars) h.0 q_is) (Each-weaker _ _ (λ a k. k.vars) few few_is)
            (Each-weaker _ _ (λ a k. free_keys A.order.vars vars a k.1) h.0 h.2) few_free)),
      )
