-- Where no generator has a degree above the limit, the start of each job that a run treated is reduced to zero by the basis.
use Rattle.std.proofs.Common.{◌≡◌, ◌≢◌, ◌≤◌, inl, inr, List, [], ◌∷◌, ◌++◌, sym, ap, ◌∙◌, subst, le_refl}
use Rattle.prime_field.specs.Modular.{inverse}
use Rattle.monomials.specs.Monomials.{degree}
use Rattle.monomials.specs.Leading.{leading_coefficient}
use Rattle.monomials.specs.Polynomials.{Polynomial, Each, IsPolynomial, poly_degree}
use Rattle.monomials.proofs.Keys.{Each-weaker, EachKey-poly_scale}
use Rattle.word_model.specs.Words.{Algebra}
use Rattle.word_model.specs.Conditions.{IsGAlgebra}
use Rattle.word_model.specs.Products.{degree_limit}
use Rattle.word_model.specs.Reduction.{leading_target, Reduced, reduce}
use Rattle.word_model.specs.Machine.{IsElement}
use Rattle.word_model.specs.Ideals.{ReducesToZero, StartReducesToZero, EntryReducesToZero}
use Rattle.word_model.specs.declared.records.Job.{Job}
use Rattle.word_model.specs.declared.records.Mode.{Mode}
use Rattle.word_model.specs.declared.records.TraceStep.{TraceStep}
use Rattle.word_model.specs.declared.records.Entry.{Entry}
use Rattle.word_model.specs.declared.records.Entry.TheVariants.{Skipped, Zero, New}
use Rattle.word_model.proofs.Degrees.{HasDegrees-poly_degree, poly_degree-le}
use Rattle.word_model.proofs.Reductions.{IsOf, reduce-sorted}
use Rattle.word_model.proofs.Steps.{start_of-sorted}
use Rattle.word_model.proofs.Monic.{monic}
use Rattle.word_model.proofs.ReductionInduction.{leading_reduction, reduction_degree}
use Rattle.word_model.proofs.ReducedToZero.{reduced_longer, reduced_new}
use Rattle.word_model.proofs.Settled.{Treats}
use Rattle.word_model.proofs.Replays.{IsTreatment, IsReplay}
use Rattle.word_model.proofs.Prefixes.{Begins, replay_begins, Each-begins, start_begins}
use Rattle.word_model.proofs.Starts.{start_of-degree}

module _ (A : Algebra) (ok : IsGAlgebra A) (gens : List Polynomial) (sorted : Each (IsPolynomial A.p A.order) gens) (low : Each (λ f. poly_degree f ≤ degree_limit) gens)
    (mode : Mode) (G : List Polynomial) (elements : Each (IsElement A) G) where
  polynomials : (H : List Polynomial) → Begins H G → Each (IsOf A ok) H
  polynomials H b = Each-begins H G b (IsOf A ok) (Each-weaker _ _ (λ f e. e.0) G elements)

  -- what is reduced to zero by a front is so by the whole
  whole_reduced : (H : List Polynomial) → Begins H G → (h : Polynomial) → IsOf A ok h → ReducesToZero A H h → ReducesToZero A G h
  whole_reduced H b h h_is reduced =
      subst (λ G. ReducesToZero A G h) b.1
      (reduced_longer A ok H b.0 (polynomials H b) (subst (Each (IsOf A ok)) (sym b.1) (Each-weaker _ _ (λ f e. e.0) G elements)) h h_is reduced)

  zero_reduced : (H : List Polynomial) → Begins H G → (job : Job) (trace : List TraceStep) → IsTreatment A gens mode H job trace [] → StartReducesToZero A gens G job
  zero_reduced H b job trace t = (
    t.start,
    start_begins A gens H G b job t.due.0.0 ∙ t.start_is,
    whole_reduced H b t.start (start_of-sorted A ok gens sorted H job t.start (polynomials H b) t.due.0.0 t.start_is)
        (ap (λ (r : Reduced). r.over) t.reduced, ap (λ (r : Reduced). r.rest) t.reduced),
  )

  new_reduced : (H : List Polynomial) (r : Polynomial) → r ≢ [] → Begins (H ++ monic A ok r ∷ []) G → Begins H G → (job : Job) (trace : List TraceStep) → IsTreatment A gens mode H job trace r
      → StartReducesToZero A gens G job
  new_reduced H r nonzero next b job trace t =
      let first : Each (IsOf A ok) H = polynomials H b in
      let h_is : IsOf A ok t.start = start_of-sorted A ok gens sorted H job t.start first t.due.0.0 t.start_is in
      let rest : (reduce A H t.start).rest ≡ r = ap (λ (r : Reduced). r.rest) t.reduced in
      let r_is : IsOf A ok r = subst (IsOf A ok) rest (reduce-sorted A ok H first t.start h_is) in
      let start_low : poly_degree t.start ≤ degree_limit = start_of-degree A ok gens low H (Each-begins H G b (IsElement A) elements) job t.due.0.0 t.start t.start_is in
      let r_low : poly_degree r ≤ degree_limit =
      subst (λ f. poly_degree f ≤ degree_limit) rest
      (reduction_degree A ok H first (leading_target H) (reduce A H) (leading_reduction A ok H first) degree_limit (le_refl degree_limit) t.start h_is start_low) in
      let monic_low : poly_degree (monic A ok r) ≤ degree_limit =
      poly_degree-le (monic A ok r) degree_limit
      (EachKey-poly_scale A.p (λ m. degree m ≤ degree_limit) (inverse A.p (leading_coefficient r)) r (HasDegrees-poly_degree r degree_limit r_low)) in (
        t.start,
        start_begins A gens H G b job t.due.0.0 ∙ t.start_is,
        whole_reduced (H ++ monic A ok r ∷ []) next t.start h_is
            (reduced_new A ok H first t.start h_is r nonzero r_is (ap (λ (r : Reduced). r.over) t.reduced) rest monic_low (polynomials (H ++ monic A ok r ∷ []) next)),
      )

  -- the start of each entry's job, unless it was skipped
  pub entries_reduced : (H : List Polynomial) (entries : List Entry) → IsReplay A gens mode H entries G → Each (EntryReducesToZero A gens G) entries
  entries_reduced H [] replay = tt
  entries_reduced H (Skipped job k ∷ entries) replay = (tt, entries_reduced H entries replay.1)
  entries_reduced H (Zero job trace ∷ entries) replay = (
    zero_reduced H (replay_begins A gens mode H entries G replay.1) job trace replay.0,
    entries_reduced H entries replay.1,
  )
  entries_reduced H (New job trace scale ∷ entries) replay = (
    new_reduced H replay.0 replay.1 (replay_begins A gens mode (H ++ monic A ok replay.0 ∷ []) entries G replay.4)
        (replay_begins A gens mode H (New job trace scale ∷ entries) G replay) job trace replay.2,
    entries_reduced (H ++ monic A ok replay.0 ∷ []) entries replay.4,
  )

  -- and so that of each treated job
  pub treated_reduced : (entries : List Entry) → Each (EntryReducesToZero A gens G) entries → (job : Job) → Treats entries job → StartReducesToZero A gens G job
  treated_reduced [] h job t = absurd t
  treated_reduced (Skipped other k ∷ entries) h job t = treated_reduced entries h.1 job t
  treated_reduced (Zero other trace ∷ entries) h job (inl is) = subst (StartReducesToZero A gens G) is h.0
  treated_reduced (Zero other trace ∷ entries) h job (inr t) = treated_reduced entries h.1 job t
  treated_reduced (New other trace scale ∷ entries) h job (inl is) = subst (StartReducesToZero A gens G) is h.0
  treated_reduced (New other trace scale ∷ entries) h job (inr t) = treated_reduced entries h.1 job t
