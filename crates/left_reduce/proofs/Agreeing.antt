-- A reduction depends on leading monomials, and on the elements that it uses.
use Rattle.std.proofs.Common.{◌≡◌, ◌≢◌, ℕ, zero, suc, ◌+◌, ◌<◌, ◌≤◌, Bool, List, [], ◌∷◌, length, Option, Some, None, if◌then◌else◌, refl, sym, ap, ◌∙◌, subst, arith}
use Rattle.monomials.specs.Monomials.{Monomial, divides}
use Rattle.monomials.specs.Polynomials.{Polynomial, Each, IsPolynomial}
use Rattle.monomials.specs.Leading.{leading_monomial}
use Rattle.word_model.specs.Words.{Algebra}
use Rattle.word_model.specs.Conditions.{IsGAlgebra}
use Rattle.word_model.specs.Reduction.{element, least_number, lead_divides, first_divisor, Target, target_at, leading_target, Next, Ends, Undefined, Goes, next_step, Reduced, after_step, reduce}
use Rattle.word_model.specs.declared.records.TraceStep.{TraceStep}
use Rattle.word_model.proofs.Reductions.{reduce-next, next_step-goes}
use Rattle.word_model.proofs.ReductionInduction.{leading_reduction, reduction_induction}
use Rattle.word_model.proofs.Longer.{step_at}
use Rattle.left_reduce.specs.Reductions.{SameLeads, SameUsed}

lead_divides-leads : (f g : Polynomial) (m : Monomial) → f ≢ [] → g ≢ [] → leading_monomial f ≡ leading_monomial g → lead_divides f m ≡ lead_divides g m
lead_divides-leads [] g m f_some g_some same = absurd (f_some refl)
lead_divides-leads (t ∷ f) [] m f_some g_some same = absurd (g_some refl)
lead_divides-leads (t ∷ f) (u ∷ g) m f_some g_some same = ap (λ x. divides x m) same

-- tests that agree find the same number
least_number-same : (test other : ℕ → Bool) (i k : ℕ) → ((x : ℕ) → i ≤ x → x < i + k → test x ≡ other x) → least_number test i k ≡ least_number other i k
least_number-same test other i zero same = refl
least_number-same test other i (suc k) same =
    ap (λ b. if b then Some i else least_number test (suc i) k) (same i (omega arith) (omega arith))
    ∙ ap (λ o. if other i then Some i else o) (least_number-same test other (suc i) k (λ x low high. same x (omega arith) (omega arith)))

module _ (G H : List Polynomial) (same : SameLeads G H) where
  pub same_divisor : (m : Monomial) → first_divisor G m ≡ first_divisor H m
  same_divisor m =
      least_number-same (λ i. lead_divides (element G i) m) (λ i. lead_divides (element H i) m) 1 (length G)
      (λ x low high.
      (let some : (element G x ≢ []) × (element H x ≢ []) = same.nonzero x low (omega arith) in
      lead_divides-leads (element G x) (element H x) m some.0 some.1 (same.leads x low (omega arith))))
      ∙ ap (least_number (λ i. lead_divides (element H i) m) 1) (sym same.long)

  pub same_target : (h : Polynomial) → leading_target G h ≡ leading_target H h
  same_target [] = refl
  same_target (t ∷ h) = ap (target_at t) (same_divisor t.1)

  module _ (A : Algebra) (ok : IsGAlgebra A) (G_are : Each (IsPolynomial A.p A.order) G) (H_are : Each (IsPolynomial A.p A.order) H) where
    -- the next step of both, where the element that it uses is the same
    both : (h : Polynomial) (target : Option Target) → leading_target G h ≡ target → ((t : Target) → target ≡ Some t → element G t.1 ≡ element H t.1)
        → next_step A H h (leading_target H h) ≡ next_step A G h (leading_target G h)
    both h None e used = ap (next_step A H h) (sym (same_target h) ∙ e) ∙ ap (next_step A G h) (sym e)
    both h (Some (t, i)) e used =
        ap (next_step A H h) (sym (same_target h) ∙ e) ∙ ap (step_at A h t i) (sym (used (t, i) refl)) ∙ ap (next_step A G h) (sym e)

    step_index : (h : Polynomial) (target : Option Target) (t : Target) (s : TraceStep) (h' : Polynomial) → next_step A G h target ≡ Goes s h' → target ≡ Some t → s.index ≡ t.1
    step_index h target (t, i) s h' e is =
        sym (ap (λ (x : TraceStep). x.index) (next_step-goes A G h t i s h' (ap (next_step A G h) (sym is) ∙ e)).1)

    abbrev IsSame : Polynomial → Type 0
    IsSame h = SameUsed G H (reduce A G h) → reduce A H h ≡ reduce A G h

    pub same_reduction : (h : Polynomial) → IsPolynomial A.p A.order h → IsSame h
    same_reduction =
        reduction_induction A ok G G_are (leading_target G) (reduce A G) (leading_reduction A ok G G_are) IsSame
        (λ h h_is ih. by h h_is (next_step A G h (leading_target G h)) refl ih)
      where
        by : (h : Polynomial) → IsPolynomial A.p A.order h → (n : Next) → next_step A G h (leading_target G h) ≡ n
            → ((s : TraceStep) (h' : Polynomial) → next_step A G h (leading_target G h) ≡ Goes s h' → IsSame h') → IsSame h
        by h h_is n e ih used = made n e (subst (SameUsed G H) here used) ih
          where
            here : reduce A G h ≡ after_step (reduce A G) h (next_step A G h (leading_target G h))
            here = reduce-next A ok G G_are h h_is

            next : (o : Next) → next_step A G h (leading_target G h) ≡ o → ((t : Target) → leading_target G h ≡ Some t → element G t.1 ≡ element H t.1)
                → reduce A H h ≡ after_step (reduce A H) h o
            next o e elements = reduce-next A ok H H_are h h_is ∙ ap (after_step (reduce A H) h) (both h (leading_target G h) refl elements ∙ e)

            made : (o : Next) → next_step A G h (leading_target G h) ≡ o → SameUsed G H (after_step (reduce A G) h (next_step A G h (leading_target G h)))
                → ((s : TraceStep) (h' : Polynomial) → next_step A G h (leading_target G h) ≡ Goes s h' → IsSame h') → reduce A H h ≡ reduce A G h
            made Ends e used ih =
                let is = subst (λ o. SameUsed G H (after_step (reduce A G) h o)) e used in
                next Ends e is.undefined ∙ sym (here ∙ ap (after_step (reduce A G) h) e)
            made Undefined e used ih =
                let is = subst (λ o. SameUsed G H (after_step (reduce A G) h o)) e used in
                next Undefined e is.undefined ∙ sym (here ∙ ap (after_step (reduce A G) h) e)
            made (Goes s h') e used ih =
                let is = subst (λ o. SameUsed G H (after_step (reduce A G) h o)) e used in
                let index : (t : Target) → leading_target G h ≡ Some t → s.index ≡ t.1 = λ t at. step_index h (leading_target G h) t s h' e at in
                next (Goes s h') e (λ t at. subst (λ x. element G x ≡ element H x) (index t at) is.steps.0)
                ∙ ap (λ (r : Reduced). record { trace = s ∷ r.trace; rest = r.rest; over = r.over }) (ih s h' e (record { steps = is.steps.1; undefined = is.undefined }))
                ∙ sym (here ∙ ap (after_step (reduce A G) h) e)
