-- Induction over the steps of a reduction, and what a reduction leaves.
use Rattle.std.proofs.Common.{◌≡◌, ℕ, zero, suc, ◌<◌, ◌≤◌, max, Bool, true, false, List, [], ◌∷◌, Option, Some, None, if◌then◌else◌, refl, sym, subst, arith}
use Rattle.monomials.specs.Polynomials.{Polynomial, Each, poly_degree}
use Rattle.word_model.specs.Words.{Algebra}
use Rattle.word_model.specs.Conditions.{IsGAlgebra}
use Rattle.word_model.specs.Products.{degree_limit}
use Rattle.word_model.specs.Reduction.{element, is_within, Target, leading_target, greatest_target, tail_target, step_by, less_step, Next, Ends, Undefined, Goes, next_step, Reduced, after_step, reduce, normal_form_by, reduce_tail}
use Rattle.word_model.specs.declared.records.TraceStep.{TraceStep}
use Rattle.word_model.proofs.Targets.{IsTargeting, leading_target-falls, greatest_target-falls, tail_target-falls}
use Rattle.word_model.proofs.Reductions.{IsOf, steps_left, next_step-sorted, leading-falls, greatest-falls, tail-falls, reduce-next, normal_form_by-next, reduce_tail-next}

-- A reduction with these targets: it is its first step and the reduction of what that leaves, and each step lowers the
-- number of steps that may follow.
pub record IsReduction (A : Algebra) (ok : IsGAlgebra A) (G : List Polynomial) (target : Polynomial → Option Target) (go : Polynomial → Reduced) : Type 0 where
  pub targeting : IsTargeting A G target
  pub next : (h : Polynomial) → IsOf A ok h → go h ≡ after_step go h (next_step A G h (target h))
  pub falls : (D : ℕ) → degree_limit ≤ D → (h : Polynomial) (s : TraceStep) (h' : Polynomial) → IsOf A ok h → poly_degree h ≤ D → next_step A G h (target h) ≡ Goes s h'
      → (poly_degree h' ≤ D) × (steps_left A ok D (target h') < steps_left A ok D (target h))

module _ (A : Algebra) (ok : IsGAlgebra A) (G : List Polynomial) (elements : Each (IsOf A ok) G) where
  pub leading_reduction : IsReduction A ok G (leading_target G) (reduce A G)
  leading_reduction = record { targeting = leading_target-falls A G; next = reduce-next A ok G elements; falls = leading-falls A ok G elements }

  pub greatest_reduction : IsReduction A ok G (greatest_target G) (normal_form_by A G)
  greatest_reduction = record { targeting = greatest_target-falls A G; next = normal_form_by-next A ok G elements; falls = greatest-falls A ok G elements }

  pub tail_reduction : IsReduction A ok G (tail_target G) (reduce_tail A G)
  tail_reduction = record { targeting = tail_target-falls A G; next = reduce_tail-next A ok G elements; falls = tail-falls A ok G elements }

  module _ (target : Polynomial → Option Target) (go : Polynomial → Reduced) (red : IsReduction A ok G target go) where
    -- what holds of a polynomial as soon as it holds of what its next step leaves holds of all
    module _ (P : Polynomial → Type 0) (step : (h : Polynomial) → IsOf A ok h → ((s : TraceStep) (h' : Polynomial) → next_step A G h (target h) ≡ Goes s h' → P h') → P h) where
      induction_within : (k D : ℕ) → degree_limit ≤ D → (h : Polynomial) → IsOf A ok h → poly_degree h ≤ D → steps_left A ok D (target h) < k → P h
      induction_within zero D wide h h_is low less = absurd (omega arith)
      induction_within (suc k) D wide h h_is low less =
          step h h_is (λ s h' e.
          (let falls : (poly_degree h' ≤ D) × (steps_left A ok D (target h') < steps_left A ok D (target h)) = red.falls D wide h s h' h_is low e in
          induction_within k D wide h' (next_step-sorted A ok G elements h (target h) s h' h_is e) falls.0 (omega (arith, falls.1, less))))

      pub reduction_induction : (h : Polynomial) → IsOf A ok h → P h
      reduction_induction h h_is =
          let D : ℕ = max degree_limit (poly_degree h) in
          induction_within (suc (steps_left A ok D (target h))) D (omega arith) h h_is (omega arith) (omega arith)

    -- the same, by cases on the next step
    module _ (P : Polynomial → Reduced → Type 0)
        (ends : (h : Polynomial) → IsOf A ok h → next_step A G h (target h) ≡ Ends → P h (record { trace = []; rest = h; over = false }))
        (undefined : (h : Polynomial) → IsOf A ok h → P h (record { trace = []; rest = h; over = true }))
        (goes : (h : Polynomial) (s : TraceStep) (h' : Polynomial) → IsOf A ok h → IsOf A ok h' → next_step A G h (target h) ≡ Goes s h' → (r : Reduced) → P h' r
        → P h (record { trace = s ∷ r.trace; rest = r.rest; over = r.over })) where
      pub reduction_cases : (h : Polynomial) → IsOf A ok h → P h (go h)
      reduction_cases = reduction_induction (λ h. P h (go h)) (λ h h_is ih. subst (P h) (sym (red.next h h_is)) (by h h_is (next_step A G h (target h)) refl ih))
        where
          by : (h : Polynomial) → IsOf A ok h → (n : Next) → next_step A G h (target h) ≡ n → ((s : TraceStep) (h' : Polynomial) → next_step A G h (target h) ≡ Goes s h' → P h' (go h'))
              → P h (after_step go h n)
          by h h_is Ends e ih = ends h h_is e
          by h h_is Undefined e ih = undefined h h_is
          by h h_is (Goes s h') e ih = goes h s h' h_is (next_step-sorted A ok G elements h (target h) s h' h_is e) e (go h') (ih s h' e)

    no_target : (h : Polynomial) → next_step A G h (target h) ≡ Ends → target h ≡ None
    no_target h e = by (target h) refl e
      where
        by : (o : Option Target) → target h ≡ o → next_step A G h o ≡ Ends → target h ≡ None
        by None at e = at
        by (Some (t, i)) at e = absurd (goes_or_not (is_within (step_by A t i (element G i)).mono (element G i)) e)
          where
            goes_or_not : (b : Bool) → (if b then Goes (step_by A t i (element G i)) (less_step A G h (step_by A t i (element G i))) else Undefined) ≡ Ends → ⊥
            goes_or_not true e = cc
            goes_or_not false e = cc

    -- a reduction that ends with no undefined step leaves nothing to cancel
    pub reduction_ends : (h : Polynomial) → IsOf A ok h → (go h).over ≡ false → target (go h).rest ≡ None
    reduction_ends =
        reduction_cases (λ h r. r.over ≡ false → target r.rest ≡ None)
        (λ h h_is e over. no_target h e)
        (λ h h_is over. absurd (let no : true ≡ false = over in cc))
        (λ h s h' h_is h'_is e r ih. ih)

    -- it raises no degree above D
    pub reduction_degree : (D : ℕ) → degree_limit ≤ D → (h : Polynomial) → IsOf A ok h → poly_degree h ≤ D → poly_degree (go h).rest ≤ D
    reduction_degree D wide =
        reduction_cases (λ h r. poly_degree h ≤ D → poly_degree r.rest ≤ D)
        (λ h h_is e low. low)
        (λ h h_is low. low)
        (λ h s h' h_is h'_is e r ih low. ih (red.falls D wide h s h' h_is low e).0)
