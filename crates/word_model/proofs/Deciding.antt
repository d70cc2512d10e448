-- Ideals that a list spans, and that a Gröbner basis decides what is in one.
use Rattle.std.proofs.Common.{◌≡◌, ℕ, ◌+◌, ◌-◌, ◌*◌, ◌≤◌, true, false, List, [], ◌∷◌, length, Option, Some, None, refl, sym, ap, ◌∙◌, arith}
use Rattle.monomials.specs.Monomials.{Monomial}
use Rattle.monomials.specs.Polynomials.{Polynomial, Each, HasVars, IsPolynomial}
use Rattle.monomials.proofs.Modulo.{same_refl, same_move}
use Rattle.monomials.proofs.Weights.{weigh}
use Rattle.monomials.proofs.Keys.{Each-weaker}
use Rattle.word_model.specs.Words.{Algebra}
use Rattle.word_model.specs.Conditions.{IsGAlgebra}
use Rattle.word_model.specs.Reduction.{element, lead_divides, first_divisor, Target, target_at, target_or, leading_target, greatest_target, Reduced, reduce, normal_form_by}
use Rattle.word_model.specs.Ideals.{InLeftIdeal, IsGroebnerBasis}
use Rattle.word_model.specs.Bases.{Decides}
use Rattle.word_model.proofs.NormalForms.{Each-always}
use Rattle.word_model.proofs.LeastNumbers.{first_divisor-none}
use Rattle.word_model.proofs.Reductions.{IsOf}
use Rattle.word_model.proofs.Sums.{sum_same, sum_add, sum_scale}
use Rattle.word_model.proofs.MultipleWeights.{multiple_weight}
use Rattle.word_model.proofs.Connections.{positive}
use Rattle.word_model.proofs.ReductionInduction.{IsReduction, reduction_ends, leading_reduction, greatest_reduction}
use Rattle.word_model.proofs.TraceValues.{terms_of, trace_weight, Says, reduction_says}
use Rattle.word_model.proofs.ReducedToZero.{no_divisor}
use Rattle.word_model.proofs.Settled.{each_number}
use Rattle.word_model.proofs.Spans.{IsMultiple, IsSpanned, InSpan, span_element}
use Rattle.word_model.proofs.Combinations.{span_in_ideal, ideal_is, ideal_in_span}

-- without a target the leading monomial has no divisor
no_greatest : (G : List Polynomial) (t : ℕ × Monomial) (h : Polynomial) → greatest_target G (t ∷ h) ≡ None → first_divisor G t.1 ≡ None
no_greatest G t h e = by (first_divisor G t.1) refl e
  where
    by : (d : Option ℕ) → first_divisor G t.1 ≡ d → target_or (target_at t d) (greatest_target G h) ≡ None → first_divisor G t.1 ≡ None
    by None at e = at
    by (Some i) at e = cc

-- G spans I: the polynomials in I are the sums of multiples of elements of G
pub record Spans (A : Algebra) (G : List Polynomial) (I : Polynomial → Type 0) : Type 0 where
  pub sorted : (f : Polynomial) → I f → IsPolynomial A.p A.order f
  pub spanned : (f : Polynomial) → I f → InSpan A G f
  pub inside : (f : Polynomial) → IsPolynomial A.p A.order f → InSpan A G f → I f

module _ (A : Algebra) (ok : IsGAlgebra A) (G : List Polynomial) (polynomials : Each (IsOf A ok) G) where
  vars : Each (HasVars A.order.vars) G
  vars = Each-weaker _ _ (λ f h. h.vars) G polynomials

  -- a list spans its own left ideal
  pub own_span : Spans A G (InLeftIdeal A G)
  own_span = record {
    sorted = λ f h. ideal_is A ok G f h;
    spanned = λ f h. ideal_in_span A ok G G vars (each_number (InSpan A G) G (λ i n. span_element A ok G vars i n)) f h;
    inside = λ f f_is s. span_in_ideal A ok G f f_is s;
  }

  module _ (I : Polynomial → Type 0) (spans : Spans A G I) where
    -- so I is the left ideal of a list that spans it
    pub spans_left : (f : Polynomial) → (I f → InLeftIdeal A G f) × (InLeftIdeal A G f → I f)
    spans_left f = (
      (λ h. own_span.inside f (spans.sorted f h) (spans.spanned f h)),
      (λ h. spans.inside f (own_span.sorted f h) (own_span.spanned f h)),
    )

    module _ (basis : IsGroebnerBasis A I G) (target : Polynomial → Option Target) (go : Polynomial → Reduced) (red : IsReduction A ok G target go)
        (first : (t : ℕ × Monomial) (h : Polynomial) → target (t ∷ h) ≡ None → first_divisor G t.1 ≡ None) where
      says : (h : Polynomial) → IsOf A ok h → Says A ok G polynomials target go red (λ m. Unit {0}) (λ x m less q. tt) h (go h)
      says h h_is = reduction_says A ok G polynomials target go red (λ m. Unit {0}) (λ x m less q. tt) h h_is (Each-always (λ t. Unit {0}) (λ t. tt) h)

      trace_span : (h : Polynomial) → IsOf A ok h → IsSpanned A G (trace_weight A G (go h).trace)
      trace_span h h_is = record {
        terms = terms_of (go h).trace;
        each = Each-weaker _ _ (λ e k. (k.0.0, (k.0.1.low, k.0.1.high))) (terms_of (go h).trace) (says h h_is).terms;
        value = λ φ. refl;
      }

      -- what is reduced to zero is in the span
      zero_in_span : (h : Polynomial) → IsOf A ok h → (go h).rest ≡ [] → InSpan A G h
      zero_in_span h h_is zero =
          sum_same A.p (multiple_weight A G) (IsMultiple A G) (trace_weight A G (go h).trace) (λ φ. weigh φ h)
          (λ φ. (says h h_is).value φ ∙ same_refl A.p _ _ (ap (λ f. trace_weight A G (go h).trace φ + weigh φ f) zero ∙ nothing (trace_weight A G (go h).trace φ)))
          (trace_span h h_is)
        where
          nothing : (x : ℕ) → x + 0 ≡ x
          nothing x = omega arith

      -- what a reduction leaves of a polynomial in the span is in the span
      rest_in_span : (h : Polynomial) → IsOf A ok h → InSpan A G h → InSpan A G (go h).rest
      rest_in_span h h_is s =
          sum_same A.p (multiple_weight A G) (IsMultiple A G) (λ φ. weigh φ h + (A.p - 1) * trace_weight A G (go h).trace φ) (λ φ. weigh φ (go h).rest)
          (λ φ.
          same_move A.p (weigh φ h) (weigh φ (go h).rest) (trace_weight A G (go h).trace φ) (positive A ok)
          ((says h h_is).value φ ∙ same_refl A.p _ _ (swap (trace_weight A G (go h).trace φ) (weigh φ (go h).rest))))
          (sum_add A.p (multiple_weight A G) (IsMultiple A G) (λ φ. weigh φ h) (λ φ. (A.p - 1) * trace_weight A G (go h).trace φ) s
          (sum_scale A.p (multiple_weight A G) (IsMultiple A G) (A.p - 1) (trace_weight A G (go h).trace) (trace_span h h_is)))
        where
          swap : (x y : ℕ) → x + y ≡ y + x
          swap x y = omega arith

      -- a polynomial in I without a target is zero
      stuck : (r : Polynomial) → target r ≡ None → I r → r ≡ []
      stuck [] none h = refl
      stuck (t ∷ f) none h = absurd (at (basis.divided (t ∷ f) h (λ e. cc)))
        where
          at : (i : ℕ) × (1 ≤ i) × (i ≤ length G) × (lead_divides (element G i) t.1 ≡ true) → ⊥
          at d =
              let no : lead_divides (element G d.0) t.1 ≡ false = first_divisor-none G t.1 (first t f none) d.0 d.1 d.2 in
              let both : true ≡ false = sym d.3 ∙ no in
              cc

      decides_by : Decides A I go
      decides_by f f_is over = (
        (λ h. stuck (go f).rest (reduction_ends A ok G polynomials target go red f f_is over) (spans.inside (go f).rest (says f f_is).sorted (rest_in_span f f_is (spans.spanned f h)))),
        (λ zero. spans.inside f f_is (zero_in_span f f_is zero)),
      )

    -- a Gröbner basis that spans an ideal decides what is in it
    pub reductions_decide : IsGroebnerBasis A I G → Decides A I (reduce A G)
    reductions_decide basis = decides_by basis (leading_target G) (reduce A G) (leading_reduction A ok G polynomials) (no_divisor G)

    pub normal_forms_decide : IsGroebnerBasis A I G → Decides A I (normal_form_by A G)
    normal_forms_decide basis = decides_by basis (greatest_target G) (normal_form_by A G) (greatest_reduction A ok G polynomials) (no_greatest G)
