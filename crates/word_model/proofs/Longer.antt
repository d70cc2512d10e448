-- Reductions by a longer list: first they go as by the shorter one.
use Rattle.std.proofs.Common.{◌≡◌, ℕ, List, [], ◌∷◌, ◌++◌, length, length-append, Option, Some, None, if◌then◌else◌, refl, ap, ◌∙◌, arith}
use Rattle.monomials.specs.Monomials.{Monomial}
use Rattle.monomials.specs.Orders.{order_cmp}
use Rattle.monomials.specs.Polynomials.{Polynomial, Each, poly_sub}
use Rattle.word_model.specs.Words.{Algebra}
use Rattle.word_model.specs.Conditions.{IsGAlgebra}
use Rattle.word_model.specs.Reduction.{element, lead_divides, first_divisor, multiple, target_at, leading_target, step_by, Next, Undefined, Goes, next_step, Reduced, after_step, reduce, is_within}
use Rattle.word_model.specs.declared.records.TraceStep.{TraceStep}
use Rattle.word_model.proofs.LeastNumbers.{IsLeast, least_number-found, least_number-is}
use Rattle.word_model.proofs.Reductions.{IsOf, reduce-next}
use Rattle.word_model.proofs.Steps.{element-append}
use Rattle.word_model.proofs.ReductionInduction.{leading_reduction, reduction_cases}

-- the reduction r, which s goes on from where it ended
abbrev pub goes_on : Reduced → Reduced → Reduced
goes_on r s = record { trace = r.trace ++ s.trace; rest = s.rest; over = s.over }

-- the step at a target, by the element of its number
abbrev pub step_at : Algebra → Polynomial → ℕ × Monomial → ℕ → Polynomial → Next
step_at A h t i g =
    let s : TraceStep = step_by A t i g in
    if is_within s.mono g then Goes s (poly_sub (order_cmp A.order.rows) A.p h (multiple A s.coef s.mono g)) else Undefined

module _ (A : Algebra) (G H : List Polynomial) where
  -- a first divisor among the first elements is the first in the longer list
  still : (m : Monomial) (i : ℕ) → first_divisor G m ≡ Some i → (element (G ++ H) i ≡ element G i) × (first_divisor (G ++ H) m ≡ Some i)
  still m i e =
      let is : IsLeast (λ i. lead_divides (element G i) m) 1 (length G) i = least_number-found (λ i. lead_divides (element G i) m) 1 (length G) i e in
      let same : element (G ++ H) i ≡ element G i = element-append G H i is.low (omega (arith, is.high)) in (
        same,
        least_number-is (λ i. lead_divides (element (G ++ H) i) m) 1 (length (G ++ H)) i (record {
          low = is.low;
          high = omega (arith, is.high, length-append G H);
          meets = ap (λ f. lead_divides f m) same ∙ is.meets;
          before = λ x low high. ap (λ f. lead_divides f m) (element-append G H x low (omega (arith, is.high))) ∙ is.before x low high;
        }),
      )

  -- a step by the shorter list is the step by the longer one
  still_goes : (h : Polynomial) (s : TraceStep) (h' : Polynomial) → next_step A G h (leading_target G h) ≡ Goes s h'
      → next_step A (G ++ H) h (leading_target (G ++ H) h) ≡ Goes s h'
  still_goes [] s h' e = cc
  still_goes (u ∷ h) s h' e = by (first_divisor G u.1) refl e
    where
      by : (d : Option ℕ) → first_divisor G u.1 ≡ d → next_step A G (u ∷ h) (target_at u d) ≡ Goes s h'
          → next_step A (G ++ H) (u ∷ h) (target_at u (first_divisor (G ++ H) u.1)) ≡ Goes s h'
      by None f e = cc
      by (Some i) f e =
          let is : (element (G ++ H) i ≡ element G i) × (first_divisor (G ++ H) u.1 ≡ Some i) = still u.1 i f in
          ap (λ d. next_step A (G ++ H) (u ∷ h) (target_at u d)) is.1 ∙ ap (step_at A (u ∷ h) u i) is.0 ∙ e

module _ (A : Algebra) (ok : IsGAlgebra A) (G H : List Polynomial) (first : Each (IsOf A ok) G) (all : Each (IsOf A ok) (G ++ H)) where
  -- first the reduction by G, and then that of what it leaves
  pub longer : (h : Polynomial) → IsOf A ok h → reduce A (G ++ H) h ≡ goes_on (reduce A G h) (reduce A (G ++ H) (reduce A G h).rest)
  longer =
      reduction_cases A ok G first (leading_target G) (reduce A G) (leading_reduction A ok G first)
      (λ h r. reduce A (G ++ H) h ≡ goes_on r (reduce A (G ++ H) r.rest))
      (λ h h_is e. refl)
      (λ h h_is. refl)
      (λ h s h' h_is h'_is e r ih.
      reduce-next A ok (G ++ H) all h h_is
      ∙ ap (after_step (reduce A (G ++ H)) h) (still_goes A G H h s h' e)
      ∙ ap (λ (r : Reduced). after_step (λ x. r) h (Goes s h')) ih)
