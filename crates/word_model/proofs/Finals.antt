-- What a finished list is: its elements are the kept ones, with tails in which no kept element's leading monomial divides a
-- monomial, in rising order.
use Rattle.std.proofs.Common.{◌≡◌, ℕ, suc, ◌+◌, ◌-◌, ◌<◌, ◌≤◌, ◌⊎◌, inl, inr, nat_eq, Bool, true, false, List, [], ◌∷◌, ◌++◌, length, slice_index_or, Option, Some, None, if◌then◌else◌, refl, sym, ap, ◌∙◌, subst, arith}
use Rattle.std.proofs.lemmas.Bool.Decides.{nat_tests}
use Rattle.monomials.specs.Monomials.{Monomial, divides}
use Rattle.monomials.specs.Leading.{leading_monomial}
use Rattle.monomials.specs.Polynomials.{Polynomial, Each}
use Rattle.monomials.proofs.Modulo.{Same, same_refl, same_add}
use Rattle.monomials.proofs.Weights.{weigh, weigh_alike_on}
use Rattle.monomials.proofs.Keys.{Each-weaker, EachKey}
use Rattle.word_model.specs.Words.{Algebra}
use Rattle.word_model.specs.Conditions.{IsGAlgebra}
use Rattle.word_model.specs.Reduction.{element, first_divisor, target_at, target_or, Target, greatest_target, tail_target, is_within, step_by, less_step, Goes, next_step, Reduced, reduce_tail}
use Rattle.word_model.specs.Machine.{IsElement}
use Rattle.word_model.specs.Finished.{is_kept, kept, Final, insert_final, with_final, finals_from, FinishedList, list_of, option_list, finished}
use Rattle.word_model.specs.Ideals.{IsOneOf}
use Rattle.word_model.specs.declared.records.TraceStep.{TraceStep}
use Rattle.word_model.proofs.NormalForms.{row_weight, Each-always}
use Rattle.word_model.proofs.LeastNumbers.{Each-element}
use Rattle.word_model.proofs.Targets.{IsBelow, IsGreatest, greatest_target-found}
use Rattle.word_model.proofs.Multiples.{step-cancels}
use Rattle.word_model.proofs.Reductions.{IsOf, next_step-goes}
use Rattle.word_model.proofs.CommonMultiples.{divides-itself}
use Rattle.word_model.proofs.MultipleWeights.{Multiple, multiple_weight, Fits}
use Rattle.word_model.proofs.ReductionInduction.{tail_reduction, reduction_cases, reduction_ends}
use Rattle.word_model.proofs.TraceValues.{terms_of, trace_weight, Says, reduction_says}
use Rattle.word_model.proofs.Settled.{IsNumber, each_number}
use Rattle.word_model.proofs.FinalLists.{FinalsAscend, insert_final-has, has-insert_final, insert_final-ascends}
use Rattle.word_model.proofs.Kept.{length-kept, kept-element, kept-nonzero, kept-is, kept-apart}

-- ---- reductions of tails

-- without a target no term has a divisor
greatest_none : (K : List Polynomial) (f : Polynomial) → greatest_target K f ≡ None → Each (λ u. first_divisor K u.1 ≡ None) f
greatest_none K [] e = tt
greatest_none K (t ∷ f) e = by (first_divisor K t.1) refl e (greatest_none K f)
  where
    by : (d : Option ℕ) → first_divisor K t.1 ≡ d → target_or (target_at t d) (greatest_target K f) ≡ None → (greatest_target K f ≡ None → Each (λ u. first_divisor K u.1 ≡ None) f)
        → (first_divisor K t.1 ≡ None) × Each (λ u. first_divisor K u.1 ≡ None) f
    by None at e ih = (at, ih e)
    by (Some i) at e ih = cc

module _ (A : Algebra) (ok : IsGAlgebra A) (K : List Polynomial) (K_is : Each (IsOf A ok) K) where
  -- a step leaves the leading term
  tail_step : (t : ℕ × Monomial) (f : Polynomial) (s : TraceStep) (h' : Polynomial) → IsOf A ok (t ∷ f) → next_step A K (t ∷ f) (tail_target K (t ∷ f)) ≡ Goes s h' → (f' : Polynomial) × (h' ≡ t ∷ f')
  tail_step t f s h' h_is e = by (greatest_target K f) refl e
    where
      by : (o : Option Target) → greatest_target K f ≡ o → next_step A K (t ∷ f) o ≡ Goes s h' → (f' : Polynomial) × (h' ≡ t ∷ f')
      by None at e = cc
      by (Some (u, i)) at e =
          let goes : (is_within (step_by A u i (element K i)).mono (element K i) ≡ true) × (step_by A u i (element K i) ≡ s) × (less_step A K (t ∷ f) (step_by A u i (element K i)) ≡ h') =
          next_step-goes A K (t ∷ f) u i s h' e in
          let found : IsGreatest K f u i = greatest_target-found K f u i at in
          let is : t ∷ f ≡ (t ∷ found.above) ++ u ∷ found.rest = ap (λ f. t ∷ f) found.is in
          let left : (r : Polynomial) × (less_step A K ((t ∷ found.above) ++ u ∷ found.rest) (step_by A u i (element K i)) ≡ (t ∷ found.above) ++ r) × IsBelow A u.1 r =
          step-cancels A ok K K_is (t ∷ found.above) u found.rest (subst (IsOf A ok) is h_is) i found.divisor in
          (found.above ++ left.0, sym goes.2 ∙ ap (λ h. less_step A K h (step_by A u i (element K i))) is ∙ left.1)

  pub tail_leading : (h : Polynomial) → IsOf A ok h → (t : ℕ × Monomial) (f : Polynomial) → h ≡ t ∷ f → (f' : Polynomial) × ((reduce_tail A K h).rest ≡ t ∷ f')
  tail_leading =
      reduction_cases A ok K K_is (tail_target K) (reduce_tail A K) (tail_reduction A ok K K_is) (λ h r. (t : ℕ × Monomial) (f : Polynomial) → h ≡ t ∷ f → (f' : Polynomial) × (r.rest ≡ t ∷ f'))
      (λ h h_is e t f is. (f, is))
      (λ h h_is t f is. (f, is))
      (λ h s h' h_is h'_is e r ih t f is.
      (let next : (f' : Polynomial) × (h' ≡ t ∷ f') = tail_step t f s h' (subst (IsOf A ok) is h_is) (subst (λ h. next_step A K h (tail_target K h) ≡ Goes s h') is e) in
      ih t next.0 next.1))

-- ---- finals

module _ (A : Algebra) (ok : IsGAlgebra A) (G : List Polynomial) (elements : Each (IsElement A) G) where
  pub kept_polynomials : Each (IsOf A ok) (kept G)
  kept_polynomials = each_number (IsOf A ok) (kept G) (λ i h. by i (h.0, omega (arith, h.1, length-kept G)))
    where
      by : (i : ℕ) → IsNumber G i → IsOf A ok (element (kept G) i)
      by i h = subst (IsOf A ok) (sym (kept-element G i h)) (either (is_kept G i))
        where
          either : (b : Bool) → IsOf A ok (if b then element G i else [])
          either true = (Each-element (IsElement A) G i elements h.0 h.1).0
          either false = record { canonical = tt; vars = tt }

  -- a multiple of a kept element is one of the basis
  kept_fits : (k : Multiple) → Fits A (kept G) k → Fits A G k × (element (kept G) k.1 ≡ element G k.1)
  kept_fits k fits =
      let number : IsNumber G k.1 = (fits.1.low, omega (arith, fits.1.high, length-kept G)) in
      let same : (is_kept G k.1 ≡ true) × (element (kept G) k.1 ≡ element G k.1) = kept-nonzero G k.1 number fits.1.is.1 in
      ((fits.0, record { low = number.0; high = number.1; is = subst (IsElement A) same.1 fits.1.is }), same.1)

  -- an element of a finished list
  pub record IsFinal (x : Final) : Type 0 where
    pub number : IsNumber G x.origin
    pub is_kept_one : is_kept G x.origin ≡ true
    pub first : ℕ × Monomial
    pub tail : Polynomial
    pub rest : Polynomial
    pub from : element G x.origin ≡ first ∷ tail
    pub is : x.polynomial ≡ first ∷ rest
    pub terms : EachKey (Fits A G) (terms_of x.tail)
    pub value : (φ : Monomial → ℕ) → Same A.p (weigh φ (element G x.origin)) (trace_weight A G x.tail φ + weigh φ x.polynomial)
    pub sorted : IsOf A ok x.polynomial
    pub none : Each (λ u. first_divisor (kept G) u.1 ≡ None) rest

  pub final-leading : (x : Final) → IsFinal x → leading_monomial x.polynomial ≡ leading_monomial (element G x.origin)
  final-leading x f = ap leading_monomial f.is ∙ ap leading_monomial (sym f.from)

  -- one element
  final-is : (i : ℕ) (t : ℕ × Monomial) (h : Polynomial) → IsNumber G i → is_kept G i ≡ true → element G i ≡ t ∷ h → (reduce_tail A (kept G) (t ∷ h)).over ≡ false
      → IsFinal (record { polynomial = (reduce_tail A (kept G) (t ∷ h)).rest; origin = i; tail = (reduce_tail A (kept G) (t ∷ h)).trace })
  final-is i t h number k is over =
      let K_is : Each (IsOf A ok) (kept G) = kept_polynomials in
      let h_is : IsOf A ok (t ∷ h) = subst (IsOf A ok) is (Each-element (IsElement A) G i elements number.0 number.1).0 in
      let r : Reduced = reduce_tail A (kept G) (t ∷ h) in
      let left : (f' : Polynomial) × (r.rest ≡ t ∷ f') = tail_leading A ok (kept G) K_is (t ∷ h) h_is t h refl in
      let says : Says A ok (kept G) K_is (tail_target (kept G)) (reduce_tail A (kept G)) (tail_reduction A ok (kept G) K_is) (λ m. Unit {0}) (λ x m less q. tt) (t ∷ h) r =
      reduction_says A ok (kept G) K_is (tail_target (kept G)) (reduce_tail A (kept G)) (tail_reduction A ok (kept G) K_is) (λ m. Unit {0}) (λ x m less q. tt) (t ∷ h) h_is
      (Each-always (λ t. Unit {0}) (λ t. tt) (t ∷ h)) in
      record {
        number = number;
        is_kept_one = k;
        first = t;
        tail = h;
        rest = left.0;
        from = is;
        is = left.1;
        terms = Each-weaker _ _ (λ e fits. (kept_fits e.1 fits.0).0) (terms_of r.trace) says.terms;
        value = λ φ.
            same_refl A.p _ _ (ap (weigh φ) is) ∙ says.value φ
            ∙ same_add A.p _ _ (weigh φ r.rest) (weigh φ r.rest)
            (weigh_alike_on A.p (multiple_weight A (kept G) φ) (multiple_weight A G φ) (terms_of r.trace)
            (Each-weaker _ _ (λ e fits. same_refl A.p _ _ (ap (λ g. row_weight A φ g e.1.0) (kept_fits e.1 fits.0).1)) (terms_of r.trace) says.terms)) refl;
        sorted = says.sorted;
        none =
            greatest_none (kept G) left.0
            (subst (λ f. tail_target (kept G) f ≡ None) left.1 (reduction_ends A ok (kept G) K_is (tail_target (kept G)) (reduce_tail A (kept G)) (tail_reduction A ok (kept G) K_is) (t ∷ h) h_is over));
      }

  -- the finals of the elements from number i on
  pub record AreFinals (i : ℕ) (L : List Final) : Type 0 where
    pub all : (x : Final) → IsOneOf x L → IsFinal x × (i ≤ x.origin)
    pub has : (j : ℕ) → i ≤ j → j ≤ length G → is_kept G j ≡ true → (x : Final) × IsOneOf x L × (x.origin ≡ j)
    pub ascends : FinalsAscend A L

  here_or_later : (i j : ℕ) → nat_eq i j ≡ false → i ≤ j → suc i ≤ j
  here_or_later i j t low = grind (arith, nat_tests, t, low)

  -- one more
  finals_more : (i : ℕ) (x : Final) (L : List Final) → x.origin ≡ i → IsFinal x → AreFinals (suc i) L → AreFinals i (insert_final A x L)
  finals_more i x L o f s = record {
    all = λ y m. each y (insert_final-has A x L y m);
    has = λ j low high k. by j low high k (nat_eq i j) refl;
    ascends = insert_final-ascends A x L s.ascends apart;
  }
    where
      each : (y : Final) → (x ≡ y) ⊎ IsOneOf y L → IsFinal y × (i ≤ y.origin)
      each y (inl e) = (subst IsFinal e f, (let z : x.origin ≡ y.origin = ap (λ (y : Final). y.origin) e in omega (arith, z, o)))
      each y (inr m) = let r : IsFinal y × (suc i ≤ y.origin) = s.all y m in (r.0, omega (arith, r.1))

      by : (j : ℕ) → i ≤ j → j ≤ length G → is_kept G j ≡ true → (t : Bool) → nat_eq i j ≡ t → (y : Final) × IsOneOf y (insert_final A x L) × (y.origin ≡ j)
      by j low high k true t = let z : i ≡ j = grind (arith, nat_tests, t) in (x, has-insert_final A x L x (inl refl), o ∙ z)
      by j low high k false t =
          let r : (y : Final) × IsOneOf y L × (y.origin ≡ j) = s.has j (here_or_later i j t low) high k in
          (r.0, has-insert_final A x L r.0 (inr r.1), r.2)

      apart : (y : Final) → IsOneOf y L → leading_monomial x.polynomial ≡ leading_monomial y.polynomial → ⊥
      apart y m e =
          let r : IsFinal y × (suc i ≤ y.origin) = s.all y m in
          let same : leading_monomial (element G x.origin) ≡ leading_monomial (element G y.origin) = sym (final-leading x f) ∙ e ∙ final-leading y r.0 in
          let d : divides (leading_monomial (element G y.origin)) (leading_monomial (element G x.origin)) ≡ true =
          ap (divides (leading_monomial (element G y.origin))) same ∙ divides-itself (leading_monomial (element G y.origin)) in
          let z : x.origin ≡ y.origin = kept-apart A G elements x.origin y.origin f.number r.0.number f.is_kept_one r.0.is_kept_one d in
          omega (arith, z, o, r.1)

  -- the elements of the kept list from number i on
  abbrev IsSuffix : ℕ → List Polynomial → Type 0
  IsSuffix i H = (1 ≤ i) × (i + length H ≡ suc (length G)) × ((k : ℕ) → k < length H → slice_index_or H k [] ≡ element (kept G) (i + k))

  suffix_rest : (i : ℕ) (g : Polynomial) (H : List Polynomial) → IsSuffix i (g ∷ H) → IsSuffix (suc i) H
  suffix_rest i g H s = (
    omega arith,
    omega (arith, s.1),
    (λ k low. s.2 (suc k) (omega arith) ∙ ap (element (kept G)) (next k)),
  )
    where
      next : (k : ℕ) → i + suc k ≡ suc i + k
      next k = omega arith

  suffix_first : (i : ℕ) (g : Polynomial) (H : List Polynomial) → IsSuffix i (g ∷ H) → IsNumber G i × (g ≡ element (kept G) i)
  suffix_first i g H s = ((s.0, omega (arith, s.1)), s.2 0 (omega arith) ∙ ap (element (kept G)) none)
    where
      none : i + 0 ≡ i
      none = omega arith

  finals : (i : ℕ) (H : List Polynomial) → IsSuffix i H → (L : List Final) → finals_from A (kept G) i H ≡ Some L → AreFinals i L
  finals i [] s L e =
      let l : [] ≡ L = cc in
      subst (AreFinals i) l (record { all = λ x m. absurd m; has = λ j low high k. absurd (omega (arith, s.1)); ascends = tt })
  finals i ([] ∷ H) s L e =
      let r : AreFinals (suc i) L = finals (suc i) H (suffix_rest i [] H s) L e in
      let f : IsNumber G i × ([] ≡ element (kept G) i) = suffix_first i [] H s in
      record {
        all = λ x m. (let a : IsFinal x × (suc i ≤ x.origin) = r.all x m in (a.0, omega (arith, a.1)));
        has = λ j low high k. by j low high k (nat_eq i j) refl r f;
        ascends = r.ascends;
      }
    where
      by : (j : ℕ) → i ≤ j → j ≤ length G → is_kept G j ≡ true → (t : Bool) → nat_eq i j ≡ t → AreFinals (suc i) L → IsNumber G i × ([] ≡ element (kept G) i) → (y : Final) × IsOneOf y L × (y.origin ≡ j)
      by j low high k true t r f =
          let same : j ≡ i = grind (arith, nat_tests, t) in
          let zero : element G i ≡ [] = sym (kept-is G i f.0 (subst (λ j. is_kept G j ≡ true) same k)) ∙ sym f.1 in
          absurd ((Each-element (IsElement A) G i elements f.0.0 f.0.1).1 zero)
      by j low high k false t r f = r.has j (here_or_later i j t low) high k
  finals i ((t ∷ h) ∷ H) s L e = by (finals_from A (kept G) (suc i) H) refl e (finals (suc i) H (suffix_rest i (t ∷ h) H s))
    where
      f : IsNumber G i × (t ∷ h ≡ element (kept G) i)
      f = suffix_first i (t ∷ h) H s

      here : (is_kept G i ≡ true) × (element (kept G) i ≡ element G i)
      here = kept-nonzero G i f.0 (λ none. (let no : t ∷ h ≡ [] = f.1 ∙ none in cc))

      tested : (L' : List Final) → AreFinals (suc i) L' → (b : Bool) → (reduce_tail A (kept G) (t ∷ h)).over ≡ b
          → (if b then None else Some (insert_final A (record { polynomial = (reduce_tail A (kept G) (t ∷ h)).rest; origin = i; tail = (reduce_tail A (kept G) (t ∷ h)).trace }) L')) ≡ Some L
          → AreFinals i L
      tested L' r true o e = cc
      tested L' r false o e =
          let x : Final = record { polynomial = (reduce_tail A (kept G) (t ∷ h)).rest; origin = i; tail = (reduce_tail A (kept G) (t ∷ h)).trace } in
          let l : insert_final A x L' ≡ L = cc in
          subst (AreFinals i) l (finals_more i x L' refl (final-is i t h f.0 here.0 (sym (f.1 ∙ here.1)) o) r)

      by : (o : Option (List Final)) → finals_from A (kept G) (suc i) H ≡ o → with_final A i (reduce_tail A (kept G) (t ∷ h)) o ≡ Some L
          → ((L' : List Final) → finals_from A (kept G) (suc i) H ≡ Some L' → AreFinals (suc i) L') → AreFinals i L
      by None at e ih = cc
      by (Some L') at e ih = tested L' (ih L' at) (reduce_tail A (kept G) (t ∷ h)).over refl e

  -- the finished list, by its finals
  pub finished-finals : (F : FinishedList) → finished A G ≡ Some F → (L : List Final) × (F ≡ list_of L) × AreFinals 1 L
  unfolding finished
  finished-finals F e = by (finals_from A (kept G) 1 (kept G)) refl e
    where
      by : (o : Option (List Final)) → finals_from A (kept G) 1 (kept G) ≡ o → option_list o ≡ Some F → (L : List Final) × (F ≡ list_of L) × AreFinals 1 L
      by None at e = cc
      by (Some L) at e =
          let same : list_of L ≡ F = cc in
          (L, sym same, finals 1 (kept G) (omega arith, omega (arith, length-kept G), λ k low. at_place k) L at)
        where
          at_place : (k : ℕ) → slice_index_or (kept G) k [] ≡ element (kept G) (1 + k)
          at_place k = let z : k ≡ 1 + k - 1 = omega arith in ap (λ n. slice_index_or (kept G) n []) z
