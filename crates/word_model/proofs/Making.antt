-- What has the generators and is closed under the operations by which a run makes elements has all elements.
use Rattle.std.proofs.Common.{◌≡◌, ℕ, ◌≤◌, true, List, [], ◌∷◌, ◌++◌, length, Option, Some, None, refl, sym, ap, ◌∙◌, subst, arith}
use Rattle.prime_field.specs.Modular.{inverse}
use Rattle.monomials.specs.Monomials.{Monomial, minus, lcm}
use Rattle.monomials.specs.Leading.{leading_monomial, leading_coefficient}
use Rattle.monomials.specs.Polynomials.{Polynomial, Each, IsPolynomial, poly_scale}
use Rattle.monomials.proofs.Keys.{Each-append, Each-weaker}
use Rattle.word_model.specs.Words.{Algebra}
use Rattle.word_model.specs.Products.{product, variable_polynomial}
use Rattle.word_model.specs.Conditions.{IsGAlgebra}
use Rattle.word_model.specs.Reduction.{element, quotient, multiple, is_within, Target, step_by, less_step, Goes, next_step, Reduced, reduce, leading_target}
use Rattle.word_model.specs.Jobs.{IsJob, start_of}
use Rattle.word_model.specs.Machine.{IsElement}
use Rattle.word_model.specs.Inside.Sound.{IsOfMode}
use Rattle.word_model.specs.declared.records.Job.{Job}
use Rattle.word_model.specs.declared.records.Job.TheVariants.{Seed, Pair, Right}
use Rattle.word_model.specs.declared.records.Mode.{Mode}
use Rattle.word_model.specs.declared.records.Mode.TheVariants.{Left, TwoSided}
use Rattle.word_model.specs.declared.records.TraceStep.{TraceStep}
use Rattle.word_model.specs.declared.records.Entry.{Entry}
use Rattle.word_model.specs.declared.records.Entry.TheVariants.{Skipped, Zero, New}
use Rattle.word_model.proofs.NormalForms.{Each-always}
use Rattle.word_model.proofs.LeastNumbers.{Each-element}
use Rattle.word_model.proofs.Divisions.{length-minus}
use Rattle.word_model.proofs.CommonMultiples.{length-lcm}
use Rattle.word_model.proofs.PairCofactors.{length-leading_monomial}
use Rattle.word_model.proofs.Reductions.{IsOf, next_step-goes, reduce-sorted}
use Rattle.word_model.proofs.Steps.{start_of-sorted}
use Rattle.word_model.proofs.Differences.{sub}
use Rattle.word_model.proofs.Monic.{monic, monic-coefficient, monic-is}
use Rattle.word_model.proofs.ReductionInduction.{leading_reduction, reduction_cases}
use Rattle.word_model.proofs.TraceValues.{IsStepped, stepped}
use Rattle.word_model.proofs.Settled.{IsNumber}
use Rattle.word_model.proofs.Replays.{IsTreatment, IsReplay}
use Rattle.word_model.proofs.Starts.{start_of-pair, start_of-seed, start_of-right}

-- a set of polynomials that is closed under these operations
pub record IsClosed (A : Algebra) (ok : IsGAlgebra A) (gens : List Polynomial) (mode : Mode) (I : Polynomial → Type 0) : Type 0 where
  pub seed : (s : ℕ) → IsNumber gens s → I (element gens s)
  pub difference : (f g : Polynomial) → I f → I g → I (sub A ok f g)
  pub multiplied : (c : ℕ) (m : Monomial) (f : Polynomial) → length m ≡ A.order.vars → I f → I (multiple A c m f)
  pub scaled : (c : ℕ) (f : Polynomial) → I f → I (poly_scale A.p c f)
  pub on_the_right : mode ≡ TwoSided → (f : Polynomial) (v : ℕ) → 1 ≤ v → v ≤ A.order.vars → I f → I (product A f (variable_polynomial A v))

module _ (A : Algebra) (ok : IsGAlgebra A) (gens : List Polynomial) (sorted : Each (IsPolynomial A.p A.order) gens) (mode : Mode) (I : Polynomial → Type 0) (closed : IsClosed A ok gens mode I) where
  -- what a step leaves, by the step
  step_left : (G : List Polynomial) (h : Polynomial) (s : TraceStep) (h' : Polynomial) → next_step A G h (leading_target G h) ≡ Goes s h' → less_step A G h s ≡ h'
  step_left G h s h' e = by (leading_target G h) refl e
    where
      by : (o : Option Target) → leading_target G h ≡ o → next_step A G h o ≡ Goes s h' → less_step A G h s ≡ h'
      by None at e = cc
      by (Some (t, i)) at e =
          let goes : (is_within (step_by A t i (element G i)).mono (element G i) ≡ true) × (step_by A t i (element G i) ≡ s) × (less_step A G h (step_by A t i (element G i)) ≡ h') =
          next_step-goes A G h t i s h' e in
          ap (less_step A G h) (sym goes.1) ∙ goes.2

  module _ (H : List Polynomial) (elements : Each (IsElement A) H) (inside : Each I H) where
    polynomials : Each (IsOf A ok) H
    polynomials = Each-weaker _ _ (λ f e. e.0) H elements

    rest_in : (h : Polynomial) → IsOf A ok h → I h → I (reduce A H h).rest
    rest_in =
        reduction_cases A ok H polynomials (leading_target H) (reduce A H) (leading_reduction A ok H polynomials) (λ h r. I h → I r.rest)
        (λ h h_is e i. i)
        (λ h h_is i. i)
        (λ h s h' h_is h'_is e r ih i.
        (let w : IsStepped A ok H polynomials (leading_target H) (reduce A H) (leading_reduction A ok H polynomials) (λ m. Unit {0}) (λ x m less q. tt) h s h' =
        stepped A ok H polynomials (leading_target H) (reduce A H) (leading_reduction A ok H polynomials) (λ m. Unit {0}) (λ x m less q. tt) h s h' h_is
        (Each-always (λ t. Unit {0}) (λ t. tt) h) e in
        ih (subst I (step_left H h s h' e)
        (closed.difference h (multiple A s.coef s.mono (element H s.index)) i
        (closed.multiplied s.coef s.mono (element H s.index) w.fits.0 (Each-element I H s.index inside w.fits.1.low w.fits.1.high))))))

    pub start_in : (job : Job) → IsJob (length gens) (length H) A.order.vars job → IsOfMode mode job → (h : Polynomial) → start_of A gens H job ≡ Some h → I h
    start_in (Seed s) named of_mode h e = subst I (start_of-seed A gens H s h e) (closed.seed s named)
    start_in (Pair i j) named of_mode h e =
        let f : Polynomial = element H i in
        let g : Polynomial = element H j in
        let i_high : i ≤ length H = omega (arith, named.1, named.2) in
        let j_low : 1 ≤ j = omega (arith, named.0, named.1) in
        let el_i : IsElement A f = Each-element (IsElement A) H i elements named.0 i_high in
        let el_j : IsElement A g = Each-element (IsElement A) H j elements j_low named.2 in
        let l : Monomial = lcm (leading_monomial f) (leading_monomial g) in
        let a : Monomial = minus l (leading_monomial f) in
        let b : Monomial = minus l (leading_monomial g) in
        let lf : length (leading_monomial f) ≡ A.order.vars = length-leading_monomial A.order.vars f el_i.0.vars el_i.1 in
        let lg : length (leading_monomial g) ≡ A.order.vars = length-leading_monomial A.order.vars g el_j.0.vars el_j.1 in
        let ll : length l ≡ A.order.vars = length-lcm (leading_monomial f) (leading_monomial g) (lf ∙ sym lg) ∙ lf in
        let k : ℕ = quotient A.p (leading_coefficient (multiple A 1 a f)) (leading_coefficient (multiple A 1 b g)) in
        subst I (start_of-pair A gens H i j h e).0
        (closed.difference (multiple A 1 a f) (multiple A k b g)
        (closed.multiplied 1 a f (length-minus l (leading_monomial f) (ll ∙ sym lf) ∙ ll) (Each-element I H i inside named.0 i_high))
        (closed.multiplied k b g (length-minus l (leading_monomial g) (ll ∙ sym lg) ∙ ll) (Each-element I H j inside j_low named.2)))
    start_in (Right i v) named of_mode h e = subst I (start_of-right A gens H i v h e).0 (by mode refl of_mode)
      where
        by : (m : Mode) → mode ≡ m → IsOfMode m (Right i v) → I (product A (element H i) (variable_polynomial A v))
        by Left is of = absurd of
        by TwoSided is of = closed.on_the_right is (element H i) v named.2 named.3 (Each-element I H i inside named.0 named.1)

  -- the rest of a treatment
  treated_in : (H : List Polynomial) → Each (IsElement A) H → Each I H → (job : Job) (trace : List TraceStep) (r : Polynomial) → IsTreatment A gens mode H job trace r → IsOf A ok r × I r
  treated_in H elements inside job trace r t =
      let first : Each (IsOf A ok) H = Each-weaker _ _ (λ f e. e.0) H elements in
      let h_is : IsOf A ok t.start = start_of-sorted A ok gens sorted H job t.start first t.due.0.0 t.start_is in
      let rest : (reduce A H t.start).rest ≡ r = ap (λ (r : Reduced). r.rest) t.reduced in (
        subst (IsOf A ok) rest (reduce-sorted A ok H first t.start h_is),
        subst I rest (rest_in H elements inside t.start h_is (start_in H elements inside job t.due.0.0 t.due.1 t.start t.start_is)),
      )

  -- all elements
  pub elements_in : (H : List Polynomial) (entries : List Entry) (G : List Polynomial) → IsReplay A gens mode H entries G → Each (IsElement A) H → Each I H → Each I G
  elements_in H [] G replay elements inside = subst (Each I) replay inside
  elements_in H (Skipped job k ∷ entries) G replay elements inside = elements_in H entries G replay.1 elements inside
  elements_in H (Zero job trace ∷ entries) G replay elements inside = elements_in H entries G replay.1 elements inside
  elements_in H (New job trace scale ∷ entries) G replay elements inside =
      let t : IsOf A ok replay.0 × I replay.0 = treated_in H elements inside job trace replay.0 replay.2 in
      elements_in (H ++ monic A ok replay.0 ∷ []) entries G replay.4
      (Each-append (IsElement A) H (monic A ok replay.0 ∷ []) elements (monic-is A ok replay.0 t.0 replay.1, tt))
      (Each-append I H (monic A ok replay.0 ∷ []) inside (closed.scaled (inverse A.p (leading_coefficient replay.0)) replay.0 t.1, tt))

-- ---- elements are monic

all_closed : (A : Algebra) (ok : IsGAlgebra A) (gens : List Polynomial) (mode : Mode) → IsClosed A ok gens mode (λ f. Unit {0})
all_closed A ok gens mode = record {
  seed = λ s h. tt;
  difference = λ f g a b. tt;
  multiplied = λ c m f hm a. tt;
  scaled = λ c f a. tt;
  on_the_right = λ e f v low high a. tt;
}

pub elements_monic : (A : Algebra) (ok : IsGAlgebra A) (gens : List Polynomial) (sorted : Each (IsPolynomial A.p A.order) gens) (mode : Mode) (H : List Polynomial) (entries : List Entry) (G : List Polynomial)
    → IsReplay A gens mode H entries G → Each (IsElement A) H → Each (λ f. leading_coefficient f ≡ 1) H → Each (λ f. leading_coefficient f ≡ 1) G
elements_monic A ok gens sorted mode H [] G replay elements monics = subst (Each (λ f. leading_coefficient f ≡ 1)) replay monics
elements_monic A ok gens sorted mode H (Skipped job k ∷ entries) G replay elements monics = elements_monic A ok gens sorted mode H entries G replay.1 elements monics
elements_monic A ok gens sorted mode H (Zero job trace ∷ entries) G replay elements monics = elements_monic A ok gens sorted mode H entries G replay.1 elements monics
elements_monic A ok gens sorted mode H (New job trace scale ∷ entries) G replay elements monics =
    let t : IsOf A ok replay.0 × Unit {0} =
    treated_in A ok gens sorted mode (λ f. Unit {0}) (all_closed A ok gens mode) H elements (Each-always (λ f. Unit {0}) (λ f. tt) H) job trace replay.0 replay.2 in
    elements_monic A ok gens sorted mode (H ++ monic A ok replay.0 ∷ []) entries G replay.4
    (Each-append (IsElement A) H (monic A ok replay.0 ∷ []) elements (monic-is A ok replay.0 t.0 replay.1, tt))
    (Each-append (λ f. leading_coefficient f ≡ 1) H (monic A ok replay.0 ∷ []) monics (monic-coefficient A ok replay.0 t.0 replay.1, tt))
