-- What a certificate proves: its finished list is in the two-sided ideal of the generators; and that a two-sided run's entries
-- and finished list are one.
use Rattle.std.proofs.Common.{◌≡◌, ◌≢◌, ℕ, suc, ◌+◌, ◌-◌, ◌*◌, ◌%◌, ◌≤◌, inl, inr, List, [], ◌∷◌, ◌++◌, map, length, Option, Some, refl, sym, ap, ◌∙◌, subst, arith}
use Rattle.monomials.specs.Monomials.{Monomial}
use Rattle.monomials.specs.Leading.{leading_coefficient}
use Rattle.monomials.specs.Polynomials.{Polynomial, Each, IsPolynomial, poly_scale}
use Rattle.monomials.proofs.Modulo.{Same, same_refl, same_add, same_mul, same_move}
use Rattle.monomials.proofs.Weights.{weigh}
use Rattle.monomials.proofs.Keys.{Each-append, EachKey}
use Rattle.word_model.specs.Words.{Algebra}
use Rattle.word_model.specs.Conditions.{IsGAlgebra}
use Rattle.word_model.specs.Reduction.{element, multiple, less_step}
use Rattle.word_model.specs.Machine.{Journal, machine, IsElement}
use Rattle.word_model.specs.Finished.{Final, FinishedList, list_of, finished}
use Rattle.word_model.specs.Ideals.{IsOneOf}
use Rattle.word_model.specs.TwoSided.{InTwoSidedIdeal}
use Rattle.word_model.specs.Certificates.{less_trace, NamesFirst, LinesHold, ListHolds, CertificateHolds, made_lines}
use Rattle.word_model.specs.declared.records.Mode.{Mode}
use Rattle.word_model.specs.declared.records.Mode.TheVariants.{TwoSided}
use Rattle.word_model.specs.declared.records.TraceStep.{TraceStep}
use Rattle.word_model.specs.declared.records.Entry.{Entry}
use Rattle.word_model.specs.declared.records.Entry.TheVariants.{Skipped, Zero, New}
use Rattle.word_model.proofs.NormalForms.{same_weights, Each-always}
use Rattle.word_model.proofs.LeastNumbers.{Each-element}
use Rattle.word_model.proofs.MultipleWeights.{multiple_weight, Fits}
use Rattle.word_model.proofs.Connections.{positive}
use Rattle.word_model.proofs.Differences.{sub_is, multiple_is, weigh-sub, weigh-multiple}
use Rattle.word_model.proofs.Monic.{monic, monic-coefficient, monic-is}
use Rattle.word_model.proofs.TraceValues.{terms_of, trace_weight}
use Rattle.word_model.proofs.Replays.{IsTreatment, IsReplay}
use Rattle.word_model.proofs.Prefixes.{Begins}
use Rattle.word_model.proofs.TreatedJobs.{start_sorted, IsToldOf, told_of}
use Rattle.word_model.proofs.Making.{start_in}
use Rattle.word_model.proofs.FinishedBases.{told, run_elements}
use Rattle.word_model.proofs.Finals.{IsFinal, AreFinals, finished-finals}
use Rattle.word_model.proofs.TwoSidedSums.{IsTwoSided, two_sided_closed, sum_in_ideal}

names_of : (A : Algebra) (G : List Polynomial) (trace : List TraceStep) → EachKey (Fits A G) (terms_of trace) → NamesFirst A (length G) trace
names_of A G [] h = tt
names_of A G (s ∷ trace) h = ((h.0.0, h.0.1.low, h.0.1.high), names_of A G trace h.1)

module _ (A : Algebra) (ok : IsGAlgebra A) where
  -- what steps leave, as weights see it
  trace-is : (G : List Polynomial) (h : Polynomial) (trace : List TraceStep) → IsPolynomial A.p A.order h → IsPolynomial A.p A.order (less_trace A G h trace)
  trace-is G h [] h_is = h_is
  trace-is G h (s ∷ trace) h_is =
      trace-is G (less_step A G h s) trace (sub_is A ok h (multiple A s.coef s.mono (element G s.index)) h_is (multiple_is A ok s.coef s.mono (element G s.index)))

  trace-value : (G : List Polynomial) (h : Polynomial) (trace : List TraceStep) (φ : Monomial → ℕ) → Same A.p (weigh φ (less_trace A G h trace)) (weigh φ h + (A.p - 1) * trace_weight A G trace φ)
  trace-value G h [] φ = same_refl A.p _ _ (none (A.p - 1) (weigh φ h))
    where
      none : (e x : ℕ) → x ≡ x + e * 0
      none e x = omega arith
  trace-value G h (s ∷ trace) φ =
      trace-value G (less_step A G h s) trace φ
      ∙ same_add A.p _ _ _ _
      (weigh-sub A ok φ h (multiple A s.coef s.mono (element G s.index))
      ∙ same_add A.p (weigh φ h) _ _ _ refl (same_mul A.p (A.p - 1) _ _ (weigh-multiple A ok φ s.coef s.mono (element G s.index)))) refl
      ∙ same_refl A.p _ _ (regroup (A.p - 1) (weigh φ h) (s.coef * multiple_weight A G φ (s.mono, s.index)) (trace_weight A G trace φ))
    where
      regroup : (e f x y : ℕ) → (f + e * x) + e * y ≡ f + e * (x + y)
      regroup e f x y = omega arith

  -- so the rest is what is left
  trace-left : (G : List Polynomial) (h r : Polynomial) (trace : List TraceStep) → IsPolynomial A.p A.order h → IsPolynomial A.p A.order r
      → ((φ : Monomial → ℕ) → Same A.p (weigh φ h) (trace_weight A G trace φ + weigh φ r)) → less_trace A G h trace ≡ r
  trace-left G h r trace h_is r_is value =
      same_weights A (less_trace A G h trace) r (trace-is G h trace h_is) r_is
      (λ φ.
      trace-value G h trace φ
      ∙ sym (same_move A.p (weigh φ h) (weigh φ r) (trace_weight A G trace φ) (positive A ok) (value φ ∙ same_refl A.p _ _ (swap (trace_weight A G trace φ) (weigh φ r)))))
    where
      swap : (x y : ℕ) → x + y ≡ y + x
      swap x y = omega arith

  module _ (gens : List Polynomial) (sorted : Each (IsPolynomial A.p A.order) gens) where
    -- ---- certificates are right

    abbrev I : Polynomial → Type 0
    I = IsTwoSided A ok gens sorted

    steps_in : (G : List Polynomial) → Each I G → (trace : List TraceStep) → NamesFirst A (length G) trace → (h : Polynomial) → I h → I (less_trace A G h trace)
    steps_in G inside [] names h i = i
    steps_in G inside (s ∷ trace) names h i =
        steps_in G inside trace names.1 (less_step A G h s)
        ((two_sided_closed A ok gens sorted).difference h (multiple A s.coef s.mono (element G s.index)) i
        ((two_sided_closed A ok gens sorted).multiplied s.coef s.mono (element G s.index) names.0.0 (Each-element I G s.index inside names.0.1 names.0.2)))

    monic_nonzero : (f : Polynomial) → leading_coefficient f ≡ 1 → f ≢ []
    monic_nonzero [] one none = omega (arith, one)
    monic_nonzero (t ∷ f) one none = cc

    lines_in : (H : List Polynomial) (lines : List Entry) (G : List Polynomial) → LinesHold A gens H lines G → Each (IsElement A) H → Each I H → Each I G
    lines_in H [] G holds elements inside = subst (Each I) holds inside
    lines_in H (Skipped job k ∷ lines) G holds elements inside = absurd holds
    lines_in H (Zero job trace ∷ lines) G holds elements inside = absurd holds
    lines_in H (New job trace scale ∷ lines) G holds elements inside =
        let h : Polynomial = holds.2.0 in
        let g : Polynomial = poly_scale A.p scale (less_trace A H h trace) in
        let start : I h = start_in A ok gens sorted TwoSided I (two_sided_closed A ok gens sorted) H elements inside job holds.0 tt h holds.2.1 in
        let new : I g = (two_sided_closed A ok gens sorted).scaled scale (less_trace A H h trace) (steps_in H inside trace holds.1 h start) in
        lines_in (H ++ g ∷ []) lines G holds.2.3 (Each-append (IsElement A) H (g ∷ []) elements ((new.0, monic_nonzero g holds.2.2), tt)) (Each-append I H (g ∷ []) inside (new, tt))

    list_in : (G : List Polynomial) → Each I G → (list : List Polynomial) (origin : List ℕ) (tails : List (List TraceStep)) → ListHolds A G list origin tails → Each (InTwoSidedIdeal A gens) list
    list_in G inside [] [] [] holds = tt
    list_in G inside [] [] (tail ∷ tails) holds = absurd holds
    list_in G inside [] (o ∷ origin) tails holds = absurd holds
    list_in G inside (f ∷ list) [] tails holds = absurd holds
    list_in G inside (f ∷ list) (o ∷ origin) [] holds = absurd holds
    list_in G inside (f ∷ list) (o ∷ origin) (tail ∷ tails) holds = (
      sum_in_ideal A ok gens sorted f (subst I holds.0.3 (steps_in G inside tail holds.0.2 (element G o) (Each-element I G o inside holds.0.0 holds.0.1))),
      list_in G inside list origin tails holds.1,
    )

    pub certificate_inside : (lines : List Entry) (F : FinishedList) → CertificateHolds A gens lines F → Each (InTwoSidedIdeal A gens) F.list
    certificate_inside lines F c = list_in c.0 (lines_in [] lines c.0 c.1 tt tt) F.list F.origin F.tails c.2

    -- ---- and runs have them

    module _ (mode : Mode) where
      run_lines : (H : List Polynomial) (entries : List Entry) (G : List Polynomial) → IsReplay A gens mode H entries G → Each (IsElement A) H → LinesHold A gens H (made_lines entries) G
      run_lines H [] G replay elements = replay
      run_lines H (Skipped job k ∷ entries) G replay elements = run_lines H entries G replay.1 elements
      run_lines H (Zero job trace ∷ entries) G replay elements = run_lines H entries G replay.1 elements
      run_lines H (New job trace scale ∷ entries) G replay elements =
          let r : Polynomial = replay.0 in
          let t : IsTreatment A gens mode H job trace r = replay.2 in
          let b : Begins H H = ([], Rattle.std.proofs.Common.append-nil H) in
          let told : IsToldOf A ok gens sorted mode H elements H b job trace r t (λ m. Unit {0}) (λ x m less q. tt) (Each-always (λ t. Unit {0}) (λ t. tt) t.start) =
          told_of A ok gens sorted mode H elements H b job trace r t (λ m. Unit {0}) (λ x m less q. tt) (Each-always (λ t. Unit {0}) (λ t. tt) t.start) in
          let is : poly_scale A.p scale (less_trace A H t.start trace) ≡ monic A ok r =
          (λ k. poly_scale A.p (replay.3 k) (trace-left H t.start r trace (start_sorted A ok gens sorted mode H elements H b job trace r t) told.rest_sorted told.value k)) in (
            t.due.0.0,
            names_of A H trace told.front,
            (
              t.start,
              t.start_is,
              ap leading_coefficient is ∙ monic-coefficient A ok r told.rest_sorted replay.1,
              subst (λ g. LinesHold A gens (H ++ g ∷ []) (made_lines entries) G) (sym is)
                  (run_lines (H ++ monic A ok r ∷ []) entries G replay.4 (Each-append (IsElement A) H (monic A ok r ∷ []) elements (monic-is A ok r told.rest_sorted replay.1, tt))),
            ),
          )

      run_list : (G : List Polynomial) (elements : Each (IsElement A) G) (L : List Final) → ((x : Final) → IsOneOf x L → IsFinal A ok G elements x)
          → ListHolds A G (list_of L).list (list_of L).origin (list_of L).tails
      run_list G elements [] all = tt
      run_list G elements (x ∷ L) all =
          let f : IsFinal A ok G elements x = all x (inl refl) in (
            (
              f.number.0,
              f.number.1,
              names_of A G x.tail f.terms,
              trace-left G (element G x.origin) x.polynomial x.tail (Each-element (IsElement A) G x.origin elements f.number.0 f.number.1).0 f.sorted f.value,
            ),
            run_list G elements L (λ y m. all y (inr m)),
          )

      pub run_certificate : (budget : ℕ) (F : FinishedList) → finished A (machine A gens mode budget).basis ≡ Some F → CertificateHolds A gens (made_lines (machine A gens mode budget).entries) F
      run_certificate budget F listed =
          let J : Journal = machine A gens mode budget in
          let elements : Each (IsElement A) J.basis = run_elements A ok gens sorted mode budget in
          let found : (L : List Final) × (F ≡ list_of L) × AreFinals A ok J.basis elements 1 L = finished-finals A ok J.basis elements F listed in (
            J.basis,
            run_lines [] J.entries J.basis (told A ok gens sorted mode budget).replay tt,
            subst (λ (F : FinishedList). ListHolds A J.basis F.list F.origin F.tails) (sym found.1) (run_list J.basis elements found.0 (λ x m. (found.2.all x m).0)),
          )
