-- What a trace says: a polynomial is the sum of the steps' multiples and of the rest, and no step reaches further than the
-- polynomial.
use Rattle.std.proofs.Common.{◌≡◌, ℕ, ◌+◌, ◌-◌, ◌*◌, ⊎_elim, Less, true, List, [], ◌∷◌, length, Option, Some, None, refl, sym, ap, ◌∙◌, subst, arith}
use Rattle.monomials.specs.Monomials.{Monomial, plus}
use Rattle.monomials.specs.Leading.{leading_monomial}
use Rattle.monomials.specs.Polynomials.{Polynomial, Each, HasVars}
use Rattle.monomials.proofs.Modulo.{Same, same_refl, same_add, same_mul, same_back}
use Rattle.monomials.proofs.Weights.{weigh}
use Rattle.monomials.proofs.Keys.{Each-second, Each-weaker, EachKey}
use Rattle.word_model.specs.Words.{Algebra}
use Rattle.word_model.specs.Conditions.{IsGAlgebra}
use Rattle.word_model.specs.Machine.{IsElement}
use Rattle.word_model.specs.Reduction.{element, is_within, Target, step_by, less_step, multiple, Goes, next_step, Reduced}
use Rattle.word_model.specs.declared.records.TraceStep.{TraceStep}
use Rattle.word_model.proofs.NormalForms.{row_weight}
use Rattle.word_model.proofs.LeadingMonomials.{order}
use Rattle.word_model.proofs.LeastNumbers.{Each-element}
use Rattle.word_model.proofs.Divisions.{length-minus, plus-minus}
use Rattle.word_model.proofs.Targets.{IsPicked}
use Rattle.word_model.proofs.PairCofactors.{length-leading_monomial}
use Rattle.word_model.proofs.Reductions.{IsOf, next_step-goes}
use Rattle.word_model.proofs.MultipleWeights.{Multiple, multiple_weight, Fits, top}
use Rattle.word_model.proofs.Connections.{positive}
use Rattle.word_model.proofs.Differences.{weigh-sub, sub_is, EachKey-sub, multiple_is, weigh-multiple, multiple_at_most}
use Rattle.word_model.proofs.ReductionInduction.{IsReduction, reduction_cases}

-- the steps as multiples, each with its number
abbrev pub terms_of : List TraceStep → List (ℕ × Multiple)
terms_of [] = []
terms_of (s ∷ trace) = (s.coef, (s.mono, s.index)) ∷ terms_of trace

-- what the steps weigh together
abbrev pub trace_weight : Algebra → List Polynomial → List TraceStep → (Monomial → ℕ) → ℕ
trace_weight A G trace φ = weigh (multiple_weight A G φ) (terms_of trace)

module _ (A : Algebra) (ok : IsGAlgebra A) (G : List Polynomial) (elements : Each (IsOf A ok) G) (target : Polynomial → Option Target) (go : Polynomial → Reduced) (red : IsReduction A ok G target go)
    (Q : Monomial → Type 0) (down : (x m : Monomial) → order A x m ≡ Less → Q m → Q x) where
  -- what one step says of a polynomial whose monomials have a property that goes downwards
  pub record IsStepped (h : Polynomial) (s : TraceStep) (h' : Polynomial) : Type 0 where
    pub fits : Fits A G (s.mono, s.index)
    pub reached : Q (top A G (s.mono, s.index))
    pub value : (φ : Monomial → ℕ) → Same A.p (weigh φ h) (s.coef * multiple_weight A G φ (s.mono, s.index) + weigh φ h')
    pub sorted : IsOf A ok h'
    pub keys : EachKey Q h'

  pub stepped_by : (h : Polynomial) (t : ℕ × Monomial) (i : ℕ) → IsOf A ok h → EachKey Q h → IsPicked A G target h t i
      → IsStepped h (step_by A t i (element G i)) (less_step A G h (step_by A t i (element G i)))
  stepped_by h t i h_is keys picked =
      let g : Polynomial = element G i in
      let s : TraceStep = step_by A t i g in
      let el : IsElement A g = (Each-element (IsOf A ok) G i elements picked.divisor.low picked.divisor.high, picked.divisor.nonzero) in
      let at : Q t.1 = (Each-second _ picked.above (t ∷ picked.rest) (subst (EachKey Q) picked.is keys)).0 in
      let vars : length t.1 ≡ A.order.vars = (Each-second _ picked.above (t ∷ picked.rest) (subst (HasVars A.order.vars) picked.is h_is.vars)).0 in
      let lengths : length t.1 ≡ length (leading_monomial g) = vars ∙ sym (length-leading_monomial A.order.vars g el.0.vars el.1) in
      let hm : length s.mono ≡ A.order.vars = length-minus t.1 (leading_monomial g) lengths ∙ vars in
      let is_top : plus s.mono (leading_monomial g) ≡ t.1 = plus-minus t.1 (leading_monomial g) lengths picked.divisor.divides_it in
      record {
        fits = (hm, record { low = picked.divisor.low; high = picked.divisor.high; is = el });
        reached = subst Q (sym is_top) at;
        value = λ φ.
            same_back A.p (weigh φ h) (s.coef * row_weight A φ g s.mono) (weigh φ (less_step A G h s)) (positive A ok)
            (weigh-sub A ok φ h (multiple A s.coef s.mono g)
            ∙ same_add A.p (weigh φ h) (weigh φ h) _ _ refl (same_mul A.p (A.p - 1) _ _ (weigh-multiple A ok φ s.coef s.mono g)));
        sorted = sub_is A ok h (multiple A s.coef s.mono g) h_is (multiple_is A ok s.coef s.mono g);
        keys =
            EachKey-sub A ok Q h (multiple A s.coef s.mono g) keys
            (Each-weaker _ _ (λ u at_most. ⊎_elim (λ less. down u.1 t.1 (ap (order A u.1) (sym is_top) ∙ less) at) (λ same. subst Q (sym (same ∙ is_top)) at) at_most)
            (multiple A s.coef s.mono g) (multiple_at_most A ok s.coef s.mono g hm el));
      }

  pub stepped : (h : Polynomial) (s : TraceStep) (h' : Polynomial) → IsOf A ok h → EachKey Q h → next_step A G h (target h) ≡ Goes s h' → IsStepped h s h'
  stepped h s h' h_is keys e = by (target h) refl e
    where
      by : (o : Option Target) → target h ≡ o → next_step A G h o ≡ Goes s h' → IsStepped h s h'
      by None at e = cc
      by (Some (t, i)) at e =
          let goes : (is_within (step_by A t i (element G i)).mono (element G i) ≡ true) × (step_by A t i (element G i) ≡ s) × (less_step A G h (step_by A t i (element G i)) ≡ h') =
          next_step-goes A G h t i s h' e in
          subst (λ s. IsStepped h s h') goes.1
          (subst (IsStepped h (step_by A t i (element G i))) goes.2 (stepped_by h t i h_is keys (red.targeting h t i at)))

  -- what a reduction says
  pub record Says (h : Polynomial) (r : Reduced) : Type 0 where
    pub terms : EachKey (λ k. Fits A G k × Q (top A G k)) (terms_of r.trace)
    pub value : (φ : Monomial → ℕ) → Same A.p (weigh φ h) (trace_weight A G r.trace φ + weigh φ r.rest)
    pub sorted : IsOf A ok r.rest
    pub keys : EachKey Q r.rest

  pub reduction_says : (h : Polynomial) → IsOf A ok h → EachKey Q h → Says h (go h)
  reduction_says =
      reduction_cases A ok G elements target go red (λ h r. EachKey Q h → Says h r)
      (λ h h_is e keys. record { terms = tt; value = λ φ. same_refl A.p _ _ (nothing (weigh φ h)); sorted = h_is; keys = keys })
      (λ h h_is keys. record { terms = tt; value = λ φ. same_refl A.p _ _ (nothing (weigh φ h)); sorted = h_is; keys = keys })
      (λ h s h' h_is h'_is e r ih keys.
      (let w : IsStepped h s h' = stepped h s h' h_is keys e in
      let y : Says h' r = ih w.keys in
      record {
        terms = ((w.fits, w.reached), y.terms);
        value = λ φ.
            w.value φ ∙ same_add A.p (s.coef * multiple_weight A G φ (s.mono, s.index)) _ _ _ refl (y.value φ)
            ∙ same_refl A.p _ _ (regroup (s.coef * multiple_weight A G φ (s.mono, s.index)) (trace_weight A G r.trace φ) (weigh φ r.rest));
        sorted = y.sorted;
        keys = y.keys;
      }))
    where
      nothing : (x : ℕ) → x ≡ 0 + x
      nothing x = omega arith

      regroup : (x y z : ℕ) → x + (y + z) ≡ x + y + z
      regroup x y z = omega arith
