-- A list of polynomials in a set, whose leading monomials divide those of all polynomials in the set, spans the set.
use Rattle.std.proofs.Common.{◌≡◌, ◌≢◌, ℕ, ◌+◌, ◌*◌, Less, true, false, List, [], ◌∷◌, ◌++◌, length, Option, Some, None, refl, sym, ap, ◌∙◌, subst}
use Rattle.monomials.specs.Monomials.{Monomial}
use Rattle.monomials.specs.Leading.{leading_monomial}
use Rattle.monomials.specs.Polynomials.{Polynomial, Each, IsPolynomial}
use Rattle.monomials.specs.WellFounded.{IsWellFounded, IsBelow}
use Rattle.monomials.proofs.Weights.{weigh}
use Rattle.monomials.proofs.Keys.{EachKey}
use Rattle.monomials.proofs.WellFoundedness.{monomial_induction}
use Rattle.word_model.specs.Words.{Algebra}
use Rattle.word_model.specs.Conditions.{IsGAlgebra}
use Rattle.word_model.specs.Reduction.{element, lead_divides, first_divisor, leading_target, target_at, multiple, step_by, less_step, reduce}
use Rattle.word_model.specs.declared.records.TraceStep.{TraceStep}
use Rattle.word_model.proofs.NormalForms.{Each-always}
use Rattle.word_model.proofs.LeadingMonomials.{order}
use Rattle.word_model.proofs.LeastNumbers.{Each-element, IsFirstDivisor, first_divisor-found, first_divisor-none}
use Rattle.word_model.proofs.Targets.{IsPicked, leading_target-falls}
use Rattle.word_model.proofs.Targets.{IsBelow as AreBelow}
use Rattle.word_model.proofs.Multiples.{step-cancels}
use Rattle.word_model.proofs.Reductions.{IsOf}
use Rattle.word_model.proofs.Sums.{IsSum, sum_zero, sum_same, sum_add, sum_scale, sum_one, sum_weaker}
use Rattle.word_model.proofs.MultipleWeights.{Multiple, multiple_weight, top}
use Rattle.word_model.proofs.Differences.{sub}
use Rattle.word_model.proofs.ReductionInduction.{leading_reduction}
use Rattle.word_model.proofs.TraceValues.{IsStepped, stepped_by}
use Rattle.word_model.proofs.Settled.{IsNumber}
use Rattle.word_model.proofs.Spans.{IsMultiple, InSpan}

module _ (A : Algebra) (ok : IsGAlgebra A) (well : IsWellFounded A.order) (I : Polynomial → Type 0) (is : (f : Polynomial) → I f → IsPolynomial A.p A.order f)
    (minus : (f g : Polynomial) → I f → I g → I (sub A ok f g)) (multiplied : (c : ℕ) (m : Monomial) (f : Polynomial) → length m ≡ A.order.vars → I f → I (multiple A c m f))
    (F : List Polynomial) (inside : Each I F) (F_is : Each (IsOf A ok) F)
    (Q : Monomial → Type 0) (down : (x m : Monomial) → order A x m ≡ Less → Q m → Q x)
    (divided : (f : Polynomial) → I f → EachKey Q f → f ≢ [] → (i : ℕ) × IsNumber F i × (lead_divides (element F i) (leading_monomial f) ≡ true)) where
  abbrev Stepped : Polynomial → TraceStep → Polynomial → Type 0
  Stepped h s h' = IsStepped A ok F F_is (leading_target F) (reduce A F) (leading_reduction A ok F F_is) Q down h s h'

  -- a multiple that reaches what has the property
  abbrev pub Reaching : Multiple → Type 0
  Reaching k = IsMultiple A F k × Q (top A F k)

  abbrev pub IsGenerated : Polynomial → Type 0
  IsGenerated f = IsSum A.p (multiple_weight A F) Reaching (λ φ. weigh φ f)

  -- there is a first divisor
  finds : (t : ℕ × Monomial) (f : Polynomial) → I (t ∷ f) → EachKey Q (t ∷ f) → (i : ℕ) × (first_divisor F t.1 ≡ Some i)
  finds t f h keys = by (first_divisor F t.1) refl
    where
      by : (o : Option ℕ) → first_divisor F t.1 ≡ o → (i : ℕ) × (first_divisor F t.1 ≡ Some i)
      by (Some i) e = (i, e)
      by None e =
          let d : (i : ℕ) × IsNumber F i × (lead_divides (element F i) t.1 ≡ true) = divided (t ∷ f) h keys (λ none. cc) in
          let no : lead_divides (element F d.0) t.1 ≡ false = first_divisor-none F t.1 e d.0 d.1.0 d.1.1 in
          absurd (let both : true ≡ false = sym d.2 ∙ no in cc)

  -- what is left where the leading term is cancelled
  record IsDivided (t : ℕ × Monomial) (f : Polynomial) : Type 0 where
    step : TraceStep
    rest : Polynomial
    stepped : Stepped (t ∷ f) step rest
    holds : I rest
    keys : EachKey Q rest
    below : AreBelow A t.1 rest

  divide : (t : ℕ × Monomial) (f : Polynomial) → I (t ∷ f) → EachKey Q (t ∷ f) → IsDivided t f
  divide t f h keys =
      let d : (i : ℕ) × (first_divisor F t.1 ≡ Some i) = finds t f h keys in
      let s : TraceStep = step_by A t d.0 (element F d.0) in
      let h_is : IsOf A ok (t ∷ f) = is (t ∷ f) h in
      let picked : IsPicked A F (leading_target F) (t ∷ f) t d.0 = leading_target-falls A F (t ∷ f) t d.0 (ap (target_at t) d.1) in
      let divisor : IsFirstDivisor F t.1 d.0 = first_divisor-found F t.1 d.0 d.1 in
      let w : Stepped (t ∷ f) s (less_step A F (t ∷ f) s) =
      stepped_by A ok F F_is (leading_target F) (reduce A F) (leading_reduction A ok F F_is) Q down (t ∷ f) t d.0 h_is keys picked in
      let cancels : (r : Polynomial) × (less_step A F ([] ++ t ∷ f) (step_by A t d.0 (element F d.0)) ≡ [] ++ r) × AreBelow A t.1 r = step-cancels A ok F F_is [] t f h_is d.0 divisor in
      record {
        step = s;
        rest = less_step A F (t ∷ f) s;
        stepped = w;
        holds = minus (t ∷ f) (multiple A s.coef s.mono (element F s.index)) h (multiplied s.coef s.mono (element F s.index) w.fits.0 (Each-element I F d.0 inside divisor.low divisor.high));
        keys = w.keys;
        below = subst (AreBelow A t.1) (sym cancels.1) cancels.2;
      }

  abbrev Spans : Monomial → Type 0
  Spans m = (f : Polynomial) → I f → EachKey Q f → f ≢ [] → leading_monomial f ≡ m → IsGenerated f

  step : (m : Monomial) → length m ≡ A.order.vars → ((a : Monomial) → IsBelow A.order a m → Spans a) → Spans m
  step m hm again [] h keys nonzero at = absurd (nonzero refl)
  step m hm again (t ∷ f) h keys nonzero at =
      let d : IsDivided t f = divide t f h keys in
      let k : Multiple = (d.step.mono, d.step.index) in
      sum_same A.p (multiple_weight A F) Reaching (λ φ. d.step.coef * multiple_weight A F φ k + weigh φ d.rest) (λ φ. weigh φ (t ∷ f)) d.stepped.value
      (sum_add A.p (multiple_weight A F) Reaching (λ φ. d.step.coef * multiple_weight A F φ k) (λ φ. weigh φ d.rest)
      (sum_scale A.p (multiple_weight A F) Reaching d.step.coef (λ φ. multiple_weight A F φ k)
      (sum_one A.p (multiple_weight A F) Reaching k ((d.stepped.fits.0, (d.stepped.fits.1.low, d.stepped.fits.1.high)), d.stepped.reached)))
      (rest_span d.rest d.holds d.keys d.below))
    where
      rest_span : (r : Polynomial) → I r → EachKey Q r → AreBelow A t.1 r → IsGenerated r
      rest_span [] i keys below = sum_zero A.p (multiple_weight A F) Reaching
      rest_span (u ∷ r) i keys below = again u.1 (record { vars = (is (u ∷ r) i).vars.0; less = ap (order A u.1) (sym at) ∙ below.0 }) (u ∷ r) i keys (λ none. cc) refl

  pub generated_within : (f : Polynomial) → I f → EachKey Q f → IsGenerated f
  generated_within [] i keys = sum_zero A.p (multiple_weight A F) Reaching
  generated_within (t ∷ f) i keys = monomial_induction A.order well Spans step t.1 (is (t ∷ f) i).vars.0 (t ∷ f) i keys (λ none. cc) refl

-- with no property
pub generated : (A : Algebra) (ok : IsGAlgebra A) → IsWellFounded A.order → (I : Polynomial → Type 0) → ((f : Polynomial) → I f → IsPolynomial A.p A.order f)
    → ((f g : Polynomial) → I f → I g → I (sub A ok f g)) → ((c : ℕ) (m : Monomial) (f : Polynomial) → length m ≡ A.order.vars → I f → I (multiple A c m f))
    → (F : List Polynomial) → Each I F → Each (IsOf A ok) F
    → ((f : Polynomial) → I f → f ≢ [] → (i : ℕ) × IsNumber F i × (lead_divides (element F i) (leading_monomial f) ≡ true)) → (f : Polynomial) → I f → InSpan A F f
generated A ok well I is minus multiplied F inside F_is divided f h =
    sum_weaker A.p (multiple_weight A F) (λ k. IsMultiple A F k × Unit {0}) (IsMultiple A F) (λ k h. h.0) (λ φ. weigh φ f)
    (generated_within A ok well I is minus multiplied F inside F_is (λ m. Unit {0}) (λ x m less q. tt) (λ f h keys nonzero. divided f h nonzero) f h (Each-always (λ t. Unit {0}) (λ t. tt) f))
