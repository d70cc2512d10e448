-- What a run treated: the start of a treated job is a sum of multiples of the basis that reach no further than the start,
-- and is reduced to zero by the basis; and treated pairs are linked.
use Rattle.std.proofs.Common.{◌≡◌, ◌≢◌, ℕ, suc, ◌+◌, ◌*◌, inl, inr, Less, false, List, [], ◌∷◌, ◌++◌, length, Some, refl, sym, ap, ◌∙◌, subst, arith}
use Rattle.monomials.specs.Monomials.{Monomial, one, plus, lcm}
use Rattle.monomials.specs.Leading.{leading_monomial, leading_coefficient}
use Rattle.monomials.specs.Polynomials.{Polynomial, Each, IsPolynomial}
use Rattle.monomials.proofs.Modulo.{Same, same_refl, same_add, same_mul}
use Rattle.monomials.proofs.Weights.{weigh}
use Rattle.monomials.proofs.OrderLaws.{order_cmp_total}
use Rattle.monomials.proofs.Keys.{Each-weaker, EachKey}
use Rattle.word_model.specs.Words.{Algebra}
use Rattle.word_model.specs.Conditions.{IsGAlgebra}
use Rattle.word_model.specs.Reduction.{element, leading_target, reduce}
use Rattle.word_model.specs.Jobs.{start_of, s_polynomial}
use Rattle.word_model.specs.Machine.{IsElement}
use Rattle.word_model.specs.declared.records.Job.{Job}
use Rattle.word_model.specs.declared.records.Job.TheVariants.{Pair}
use Rattle.word_model.specs.declared.records.Mode.{Mode}
use Rattle.word_model.specs.declared.records.TraceStep.{TraceStep}
use Rattle.word_model.specs.declared.records.Entry.{Entry}
use Rattle.word_model.specs.declared.records.Entry.TheVariants.{Skipped, Zero, New}
use Rattle.word_model.proofs.NormalForms.{row_weight}
use Rattle.word_model.proofs.LeadingMonomials.{order}
use Rattle.word_model.proofs.PairCofactors.{length-leading_monomial}
use Rattle.word_model.proofs.Reductions.{IsOf}
use Rattle.word_model.proofs.Steps.{start_of-sorted}
use Rattle.word_model.proofs.Sums.{IsSum, sum_same, sum_add, sum_scale, sum_one}
use Rattle.word_model.proofs.MultipleWeights.{Multiple, lead, multiple_weight, IsThere, Fits, Under, top}
use Rattle.word_model.proofs.Frames.{low_sum}
use Rattle.word_model.proofs.Connections.{Linked}
use Rattle.word_model.proofs.Criterion.{plain}
use Rattle.word_model.proofs.SPolynomials.{s_polynomial-below, s_polynomial-links}
use Rattle.word_model.proofs.Monic.{length-one, plus-one, row_weight-one, monic, monic-leading, monic-is, from_monic}
use Rattle.word_model.proofs.ReductionInduction.{leading_reduction}
use Rattle.word_model.proofs.TraceValues.{terms_of, trace_weight, Says, reduction_says}
use Rattle.word_model.proofs.Settled.{Treats, IsNumber}
use Rattle.word_model.proofs.Replays.{IsTreatment, IsReplay}
use Rattle.word_model.proofs.Prefixes.{Begins, replay_begins, Each-begins, begins_next, start_begins, fits_begins, top_begins, trace_begins}
use Rattle.word_model.proofs.Starts.{start_of-pair}

module _ (A : Algebra) (ok : IsGAlgebra A) (gens : List Polynomial) (sorted : Each (IsPolynomial A.p A.order) gens) (mode : Mode) (G : List Polynomial) (elements : Each (IsElement A) G) where
  polynomials : (H : List Polynomial) → Each (IsElement A) H → Each (IsOf A ok) H
  polynomials H h = Each-weaker _ _ (λ f e. e.0) H h

  -- ---- one treatment, in the whole basis

  module _ (H : List Polynomial) (b : Begins H G) (job : Job) (trace : List TraceStep) (r : Polynomial) (t : IsTreatment A gens mode H job trace r) where
    H_elements : Each (IsElement A) H
    H_elements = Each-begins H G b (IsElement A) elements

    pub whole_start : start_of A gens G job ≡ Some t.start
    whole_start = start_begins A gens H G b job t.due.0.0 ∙ t.start_is

    pub start_sorted : IsOf A ok t.start
    start_sorted = start_of-sorted A ok gens sorted H job t.start (polynomials H H_elements) t.due.0.0 t.start_is

    module _ (Q : Monomial → Type 0) (down : (x m : Monomial) → order A x m ≡ Less → Q m → Q x) (keys : EachKey Q t.start) where
      -- what the treatment says, over the whole basis
      pub record IsToldOf : Type 0 where
        pub terms : EachKey (λ k. Fits A G k × Q (top A G k)) (terms_of trace)
        pub value : (φ : Monomial → ℕ) → Same A.p (weigh φ t.start) (trace_weight A G trace φ + weigh φ r)
        pub front : EachKey (Fits A H) (terms_of trace)
        pub rest_sorted : IsOf A ok r
        pub rest_keys : EachKey Q r

      pub told_of : IsToldOf
      told_of =
          let says : Says A ok H (polynomials H H_elements) (leading_target H) (reduce A H) (leading_reduction A ok H (polynomials H H_elements)) Q down t.start (record { trace = trace; rest = r; over = false }) =
          subst (Says A ok H (polynomials H H_elements) (leading_target H) (reduce A H) (leading_reduction A ok H (polynomials H H_elements)) Q down t.start) t.reduced
          (reduction_says A ok H (polynomials H H_elements) (leading_target H) (reduce A H) (leading_reduction A ok H (polynomials H H_elements)) Q down t.start start_sorted keys) in
          record {
            terms = Each-weaker _ _ (λ e h. (fits_begins A H G b e.1 h.0, subst Q (sym (top_begins A H G b e.1 h.0)) h.1)) (terms_of trace) says.terms;
            value = λ φ.
                says.value φ
                ∙ same_add A.p _ _ (weigh φ r) (weigh φ r) (sym (trace_begins A H G b trace (Each-weaker _ _ (λ e h. h.0) (terms_of trace) says.terms) φ)) refl;
            front = Each-weaker _ _ (λ e h. h.0) (terms_of trace) says.terms;
            rest_sorted = says.sorted;
            rest_keys = says.keys;
          }

  -- ---- the rest as a multiple of the element that it made

  module _ (H : List Polynomial) (r : Polynomial) (r_is : IsOf A ok r) (nonzero : r ≢ []) (b : Begins (H ++ monic A ok r ∷ []) G) where
    abbrev pub of_rest : Multiple
    of_rest = (one A.order.vars, suc (length H))

    rest_element : element G (suc (length H)) ≡ monic A ok r
    rest_element = (begins_next H (monic A ok r) G b).0

    pub rest_fits : Fits A G of_rest
    rest_fits =
        let number : IsNumber G (suc (length H)) = (begins_next H (monic A ok r) G b).1 in
        (length-one A.order.vars, record { low = number.0; high = number.1; is = subst (IsElement A) (sym rest_element) (monic-is A ok r r_is nonzero) })

    pub rest_top : top A G of_rest ≡ leading_monomial r
    rest_top =
        ap (λ g. plus (one A.order.vars) (leading_monomial g)) rest_element
        ∙ ap (plus (one A.order.vars)) (monic-leading A ok r r_is nonzero)
        ∙ plus-one A.order.vars (leading_monomial r) (length-leading_monomial A.order.vars r r_is.vars nonzero)

    pub rest_value : (φ : Monomial → ℕ) → Same A.p (weigh φ r) (leading_coefficient r * multiple_weight A G φ of_rest)
    rest_value φ =
        from_monic A ok r r_is nonzero φ
        ∙ same_mul A.p (leading_coefficient r) _ _
        (sym (row_weight-one A φ (monic A ok r) (monic-is A ok r r_is nonzero).0.vars)
        ∙ same_refl A.p _ _ (ap (λ g. row_weight A φ g (one A.order.vars)) (sym rest_element)))

  -- ---- treated jobs

  module _ (Q : Monomial → Type 0) (down : (x m : Monomial) → order A x m ≡ Less → Q m → Q x) where
    -- a multiple that reaches what has the property
    abbrev pub Reaching : Multiple → Type 0
    Reaching k = Fits A G k × Q (top A G k)

    -- the start of a job, as a sum of multiples
    pub record IsStartSum (job : Job) : Type 0 where
      pub start : Polynomial
      pub start_is : start_of A gens G job ≡ Some start
      pub start_sorted : IsOf A ok start
      pub sum : IsSum A.p (multiple_weight A G) Reaching (λ φ. weigh φ start)

    trace_sum : (trace : List TraceStep) → EachKey Reaching (terms_of trace) → IsSum A.p (multiple_weight A G) Reaching (trace_weight A G trace)
    trace_sum trace h = record { terms = terms_of trace; each = h; value = λ φ. refl }

    lead_key : (r : Polynomial) → r ≢ [] → EachKey Q r → Q (leading_monomial r)
    lead_key [] nonzero h = absurd (nonzero refl)
    lead_key (t ∷ f) nonzero h = h.0

    module _ (job : Job) (keys : (h : Polynomial) → start_of A gens G job ≡ Some h → EachKey Q h) where
      zero_sum : (H : List Polynomial) → Begins H G → (trace : List TraceStep) → IsTreatment A gens mode H job trace [] → IsStartSum job
      zero_sum H b trace t =
          let is : start_of A gens G job ≡ Some t.start = whole_start H b job trace [] t in
          let told : IsToldOf H b job trace [] t Q down (keys t.start is) = told_of H b job trace [] t Q down (keys t.start is) in
          record {
            start = t.start;
            start_is = is;
            start_sorted = start_sorted H b job trace [] t;
            sum =
                sum_same A.p (multiple_weight A G) Reaching (trace_weight A G trace) (λ φ. weigh φ t.start)
                (λ φ. told.value φ ∙ same_refl A.p _ _ (nothing (trace_weight A G trace φ))) (trace_sum trace told.terms);
          }
        where
          nothing : (x : ℕ) → x + 0 ≡ x
          nothing x = omega arith

      new_sum : (H : List Polynomial) (r : Polynomial) → r ≢ [] → Begins (H ++ monic A ok r ∷ []) G → Begins H G → (trace : List TraceStep) → IsTreatment A gens mode H job trace r → IsStartSum job
      new_sum H r nonzero next b trace t =
          let is : start_of A gens G job ≡ Some t.start = whole_start H b job trace r t in
          let told : IsToldOf H b job trace r t Q down (keys t.start is) = told_of H b job trace r t Q down (keys t.start is) in
          let k : Multiple = of_rest H r told.rest_sorted nonzero next in
          let c : ℕ = leading_coefficient r in
          record {
            start = t.start;
            start_is = is;
            start_sorted = start_sorted H b job trace r t;
            sum =
                sum_same A.p (multiple_weight A G) Reaching (λ φ. trace_weight A G trace φ + c * multiple_weight A G φ k) (λ φ. weigh φ t.start)
                (λ φ. told.value φ ∙ same_add A.p (trace_weight A G trace φ) _ _ _ refl (rest_value H r told.rest_sorted nonzero next φ))
                (sum_add A.p (multiple_weight A G) Reaching (trace_weight A G trace) (λ φ. c * multiple_weight A G φ k) (trace_sum trace told.terms)
                (sum_scale A.p (multiple_weight A G) Reaching c (λ φ. multiple_weight A G φ k)
                (sum_one A.p (multiple_weight A G) Reaching k (
                  rest_fits H r told.rest_sorted nonzero next,
                  subst Q (sym (rest_top H r told.rest_sorted nonzero next)) (lead_key r nonzero told.rest_keys),
                ))));
          }

      -- the start of a treated job is a sum of multiples of the basis
      pub treated_sum : (H : List Polynomial) (entries : List Entry) → IsReplay A gens mode H entries G → Treats entries job → IsStartSum job
      treated_sum H [] replay t = absurd t
      treated_sum H (Skipped other k ∷ entries) replay t = treated_sum H entries replay.1 t
      treated_sum H (Zero other trace ∷ entries) replay (inr t) = treated_sum H entries replay.1 t
      treated_sum H (Zero other trace ∷ entries) replay (inl is) =
          zero_sum H (replay_begins A gens mode H entries G replay.1) trace (subst (λ job. IsTreatment A gens mode H job trace []) is replay.0)
      treated_sum H (New other trace scale ∷ entries) replay (inr t) = treated_sum (H ++ monic A ok replay.0 ∷ []) entries replay.4 t
      treated_sum H (New other trace scale ∷ entries) replay (inl is) =
          new_sum H replay.0 replay.1 (replay_begins A gens mode (H ++ monic A ok replay.0 ∷ []) entries G replay.4)
          (replay_begins A gens mode H (New other trace scale ∷ entries) G replay) trace (subst (λ job. IsTreatment A gens mode H job trace replay.0) is replay.2)

  -- ---- treated pairs

  -- a treated pair's elements are linked
  pub treated_pair : (H : List Polynomial) (entries : List Entry) → IsReplay A gens mode H entries G → (i j : ℕ) → IsThere A G i → IsThere A G j → Treats entries (Pair i j)
      → Linked A ok G (plain A ok G) i j
  treated_pair H entries replay i j ti tj t =
      let γ : Monomial = lcm (lead A G i) (lead A G j) in
      let S : Polynomial = s_polynomial A (element G i) (element G j) in
      let Q : Monomial → Type 0 = λ m. order A m (lcm (lead A G i) (lead A G j)) ≡ Less in
      let down : (x m : Monomial) → order A x m ≡ Less → Q m → Q x = λ x m less below. (order_cmp_total A.order.rows).trans x m (lcm (lead A G i) (lead A G j)) less below in
      let s : IsStartSum Q down (Pair i j) =
      treated_sum Q down (Pair i j) (λ h e. subst (EachKey Q) (start_of-pair A gens G i j h e).0 (s_polynomial-below A ok G i j ti tj)) H entries replay t in
      s_polynomial-links A ok G i j ti tj
      (low_sum A ok G (plain A ok G) γ (λ φ. weigh φ S)
      (subst (λ f. IsSum A.p (multiple_weight A G) (Under A G γ) (λ φ. weigh φ f)) (sym (start_of-pair A gens G i j s.start s.start_is).0) s.sum))
