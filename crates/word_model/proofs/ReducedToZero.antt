-- What is reduced to zero by a list is so by a longer one, and what leaves a rest is reduced to zero where the rest, made
-- monic, is added to the list.
use Rattle.std.proofs.Common.{◌≡◌, ◌≢◌, ℕ, suc, ◌-◌, ◌*◌, ◌≤◌, true, false, List, [], ◌∷◌, ◌++◌, length, Option, Some, None, if◌then◌else◌, refl, sym, ap, ◌∙◌, subst, arith, length-append}
use Rattle.monomials.specs.Monomials.{Monomial, degree, one, minus, divides}
use Rattle.monomials.specs.Leading.{leading_monomial, leading_coefficient}
use Rattle.monomials.specs.Polynomials.{Polynomial, Each, poly_degree}
use Rattle.monomials.proofs.Modulo.{Same, same_refl, same_add, same_mul, same_mul_right, same_none}
use Rattle.monomials.proofs.Weights.{weigh}
use Rattle.monomials.proofs.Exponents.{sum-zeros}
use Rattle.word_model.specs.Words.{Algebra}
use Rattle.word_model.specs.Conditions.{IsGAlgebra}
use Rattle.word_model.specs.Products.{degree_limit}
use Rattle.word_model.specs.Reduction.{element, lead_divides, first_divisor, quotient, multiple, is_within, target_at, leading_target, step_by, Undefined, Goes, next_step, Reduced, after_step, reduce}
use Rattle.word_model.specs.Machine.{IsElement}
use Rattle.word_model.specs.Ideals.{ReducesToZero}
use Rattle.word_model.specs.declared.records.TraceStep.{TraceStep}
use Rattle.word_model.proofs.Reach.{degrees-within}
use Rattle.word_model.proofs.NormalForms.{same_weights}
use Rattle.word_model.proofs.LeastNumbers.{least_number-is, first_divisor-none}
use Rattle.word_model.proofs.Divisions.{quotient-times}
use Rattle.word_model.proofs.Reductions.{IsOf, reduce-next}
use Rattle.word_model.proofs.Steps.{element-append, element-last}
use Rattle.word_model.proofs.Connections.{positive, one_nonzero}
use Rattle.word_model.proofs.Differences.{sub, weigh-sub, sub_is, multiple_is, weigh-multiple}
use Rattle.word_model.proofs.CommonMultiples.{divides-itself}
use Rattle.word_model.proofs.Monic.{row_weight-one, multiple-one, monic, monic-coefficient, monic-leading, monic-is, from_monic}
use Rattle.word_model.proofs.ReductionInduction.{leading_reduction, reduction_ends}
use Rattle.word_model.proofs.Longer.{goes_on, step_at, longer}

minus-itself : (m : Monomial) → minus m m ≡ one (length m)
minus-itself [] = refl
minus-itself (x ∷ m) = let z : x - x ≡ 0 = omega arith in λ t. z t ∷ minus-itself m t

-- a polynomial other than zero whose leading monomial divides m
pub lead_divides-is : (g : Polynomial) (m : Monomial) → g ≢ [] → divides (leading_monomial g) m ≡ true → lead_divides g m ≡ true
lead_divides-is [] m nonzero d = absurd (nonzero refl)
lead_divides-is (t ∷ g) m nonzero d = d

-- without a target no element's leading monomial divides that of f
pub no_divisor : (G : List Polynomial) (t : ℕ × Monomial) (f : Polynomial) → leading_target G (t ∷ f) ≡ None → first_divisor G t.1 ≡ None
no_divisor G t f e = by (first_divisor G t.1) refl e
  where
    by : (d : Option ℕ) → first_divisor G t.1 ≡ d → target_at t d ≡ None → first_divisor G t.1 ≡ None
    by None at e = at
    by (Some i) at e = cc

module _ (A : Algebra) (ok : IsGAlgebra A) where
  -- zero is reduced to zero
  pub zero_reduced : (G : List Polynomial) → Each (IsOf A ok) G → ReducesToZero A G []
  zero_reduced G elements =
      let is : reduce A G [] ≡ record { trace = []; rest = []; over = false } = reduce-next A ok G elements [] (record { canonical = tt; vars = tt }) in
      (ap (λ (r : Reduced). r.over) is, ap (λ (r : Reduced). r.rest) is)

  pub reduced_longer : (G H : List Polynomial) → Each (IsOf A ok) G → Each (IsOf A ok) (G ++ H) → (h : Polynomial) → IsOf A ok h → ReducesToZero A G h → ReducesToZero A (G ++ H) h
  reduced_longer G H first all h h_is reduced =
      let last : ReducesToZero A (G ++ H) (reduce A G h).rest = subst (ReducesToZero A (G ++ H)) (sym reduced.1) (zero_reduced (G ++ H) all) in
      let whole : reduce A (G ++ H) h ≡ goes_on (reduce A G h) (reduce A (G ++ H) (reduce A G h).rest) = longer A ok G H first all h h_is in
      (ap (λ (r : Reduced). r.over) whole ∙ last.0, ap (λ (r : Reduced). r.rest) whole ∙ last.1)

  -- ---- a list with the rest itself

  module _ (G : List Polynomial) (u : ℕ × Monomial) (f : Polynomial) (uf_is : IsOf A ok (u ∷ f)) where
    some : u ∷ f ≢ []
    some none = cc

    abbrev g : Polynomial
    g = monic A ok (u ∷ f)

    g_is : IsElement A g
    g_is = monic-is A ok (u ∷ f) uf_is some

    -- what is left where the monic multiple is subtracted by way of m
    abbrev less : Monomial → Polynomial
    less m = sub A ok (u ∷ f) (multiple A (quotient A.p u.0 (leading_coefficient (multiple A 1 m g))) m g)

    same_number : Same A.p (quotient A.p u.0 (leading_coefficient (multiple A 1 (one A.order.vars) g))) u.0
    same_number =
        let is_one : leading_coefficient (multiple A 1 (one A.order.vars) g) ≡ 1 = ap leading_coefficient (multiple-one A ok g g_is.0) ∙ monic-coefficient A ok (u ∷ f) uf_is some in
        let q : ℕ = quotient A.p u.0 1 in
        same_refl A.p _ _ (ap (quotient A.p u.0) is_one ∙ once q) ∙ quotient-times A.p u.0 1 ok.field (one_nonzero A ok)
      where
        once : (x : ℕ) → x ≡ x * 1
        once x = omega arith

    gone : less (one A.order.vars) ≡ []
    gone =
        let c : ℕ = quotient A.p u.0 (leading_coefficient (multiple A 1 (one A.order.vars) g)) in
        same_weights A (less (one A.order.vars)) [] (sub_is A ok (u ∷ f) (multiple A c (one A.order.vars) g) uf_is (multiple_is A ok c (one A.order.vars) g))
        (record { canonical = tt; vars = tt })
        (λ φ.
        weigh-sub A ok φ (u ∷ f) (multiple A c (one A.order.vars) g)
        ∙ same_add A.p (weigh φ (u ∷ f)) (u.0 * weigh φ g) _ _ (from_monic A ok (u ∷ f) uf_is some φ)
        (same_mul A.p (A.p - 1) _ _
        (weigh-multiple A ok φ c (one A.order.vars) g
        ∙ same_mul A.p c _ _ (row_weight-one A φ g g_is.0.vars)
        ∙ same_mul_right A.p (weigh φ g) c u.0 same_number))
        ∙ same_none A.p (u.0 * weigh φ g) (positive A ok))

    is_one : minus u.1 (leading_monomial g) ≡ one A.order.vars
    is_one = ap (minus u.1) (monic-leading A ok (u ∷ f) uf_is some) ∙ minus-itself u.1 ∙ ap one uf_is.vars.0

    -- the step by the new element leaves nothing
    new_step : poly_degree g ≤ degree_limit → (i : ℕ) → (s : TraceStep) × (step_at A (u ∷ f) u i g ≡ Goes s [])
    new_step low i =
        let s : TraceStep = step_by A u i g in
        let none : degree s.mono ≡ 0 = ap degree is_one ∙ sum-zeros A.order.vars in
        let within : is_within s.mono g ≡ true = degrees-within s.mono g (omega (arith, none, low)) in
        (s, ap (λ b. if b then Goes s (less s.mono) else Undefined) within ∙ ap (Goes s) (ap less is_one ∙ gone))

    abbrev G' : List Polynomial
    G' = G ++ monic A ok (u ∷ f) ∷ []

    finds_last : leading_target G (u ∷ f) ≡ None → first_divisor G' u.1 ≡ Some (suc (length G))
    finds_last stuck =
        let none : (x : ℕ) → 1 ≤ x → x ≤ length G → lead_divides (element G x) u.1 ≡ false = first_divisor-none G u.1 (no_divisor G u f stuck) in
        let itself : lead_divides g u.1 ≡ true =
        lead_divides-is g u.1 g_is.1 (ap (λ m. divides m u.1) (monic-leading A ok (u ∷ f) uf_is some) ∙ divides-itself u.1) in
        least_number-is (λ i. lead_divides (element G' i) u.1) 1 (length G') (suc (length G)) (record {
          low = omega arith;
          high = omega (arith, length-append G (g ∷ []));
          meets = ap (λ f. lead_divides f u.1) (element-last G g) ∙ itself;
          before = λ x low high. ap (λ f. lead_divides f u.1) (element-append G (g ∷ []) x low (omega arith)) ∙ none x low (omega arith);
        })

    rest_reduced : leading_target G (u ∷ f) ≡ None → poly_degree g ≤ degree_limit → Each (IsOf A ok) G' → ReducesToZero A G' (u ∷ f)
    rest_reduced stuck low all =
        let i : ℕ = suc (length G) in
        let s : (s : TraceStep) × (step_at A (u ∷ f) u i g ≡ Goes s []) = new_step low i in
        let next : next_step A G' (u ∷ f) (leading_target G' (u ∷ f)) ≡ Goes s.0 [] =
        ap (λ d. next_step A G' (u ∷ f) (target_at u d)) (finds_last stuck) ∙ ap (step_at A (u ∷ f) u i) (element-last G g) ∙ s.1 in
        let is : reduce A G' (u ∷ f) ≡ after_step (reduce A G') (u ∷ f) (Goes s.0 []) = reduce-next A ok G' all (u ∷ f) uf_is ∙ ap (after_step (reduce A G') (u ∷ f)) next in
        let last : ReducesToZero A G' [] = zero_reduced G' all in
        (ap (λ (r : Reduced). r.over) is ∙ last.0, ap (λ (r : Reduced). r.rest) is ∙ last.1)

  -- a start that left a rest
  pub reduced_new : (G : List Polynomial) → Each (IsOf A ok) G → (h : Polynomial) → IsOf A ok h → (r : Polynomial) → r ≢ [] → IsOf A ok r → (reduce A G h).over ≡ false → (reduce A G h).rest ≡ r
      → poly_degree (monic A ok r) ≤ degree_limit → Each (IsOf A ok) (G ++ monic A ok r ∷ []) → ReducesToZero A (G ++ monic A ok r ∷ []) h
  reduced_new G first h h_is [] nonzero r_is over rest low all = absurd (nonzero refl)
  reduced_new G first h h_is (u ∷ f) nonzero r_is over rest low all =
      let G' : List Polynomial = G ++ monic A ok (u ∷ f) ∷ [] in
      let stuck : leading_target G (u ∷ f) ≡ None =
      subst (λ f. leading_target G f ≡ None) rest (reduction_ends A ok G first (leading_target G) (reduce A G) (leading_reduction A ok G first) h h_is over) in
      let last : ReducesToZero A G' (reduce A G h).rest = subst (ReducesToZero A G') (sym rest) (rest_reduced G u f r_is stuck low all) in
      let whole : reduce A G' h ≡ goes_on (reduce A G h) (reduce A G' (reduce A G h).rest) = longer A ok G (monic A ok (u ∷ f) ∷ []) first all h h_is in
      (ap (λ (r : Reduced). r.over) whole ∙ last.0, ap (λ (r : Reduced). r.rest) whole ∙ last.1)
