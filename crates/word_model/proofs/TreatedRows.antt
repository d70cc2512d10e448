-- What a left run says of rows: the row of a treated start less its steps is zero or a syzygy, or a multiple of the row of
-- the element that it made; so treated pairs are linked up to syzygies.
use Rattle.std.proofs.Common.{◌≡◌, ◌≢◌, ℕ, suc, ◌+◌, ◌-◌, ◌*◌, ◌≤◌, ◌⊎◌, inl, inr, Less, Bool, true, false, List, [], ◌∷◌, ◌++◌, map, length, length-append, if◌then◌else◌, refl, sym, ap, ◌∙◌, subst, arith}
use Rattle.prime_field.specs.Modular.{inverse}
use Rattle.monomials.specs.Monomials.{Monomial, lcm}
use Rattle.monomials.specs.Leading.{leading_monomial, leading_coefficient}
use Rattle.monomials.specs.Polynomials.{Polynomial, Each, HasVars, IsPolynomial, poly_scale}
use Rattle.monomials.proofs.Modulo.{Same, same_refl, same_add, same_mul, same_mul_right, same_back}
use Rattle.monomials.proofs.Weights.{weigh}
use Rattle.monomials.proofs.OrderLaws.{order_cmp_total}
use Rattle.monomials.proofs.Keys.{Each-weaker, EachKey}
use Rattle.word_model.specs.Words.{Algebra}
use Rattle.word_model.specs.Conditions.{IsGAlgebra}
use Rattle.word_model.specs.Reduction.{multiple, element}
use Rattle.word_model.specs.Jobs.{pair_lcm, s_polynomial, first_cofactor, second_cofactor, second_number}
use Rattle.word_model.specs.Machine.{IsElement}
use Rattle.word_model.specs.Cofactors.{Row, row_sub, row_multiple, row_at, start_row, less_steps, rows_after}
use Rattle.word_model.specs.Ideals.{IsOneOf}
use Rattle.word_model.specs.Syzygies.{is_zero_row, entry_syzygies}
use Rattle.word_model.specs.declared.records.Job.{Job}
use Rattle.word_model.specs.declared.records.Job.TheVariants.{Pair}
use Rattle.word_model.specs.declared.records.Mode.TheVariants.{Left}
use Rattle.word_model.specs.declared.records.TraceStep.{TraceStep}
use Rattle.word_model.specs.declared.records.Entry.{Entry}
use Rattle.word_model.specs.declared.records.Entry.TheVariants.{Skipped, Zero, New}
use Rattle.word_model.proofs.LeadingMonomials.{order}
use Rattle.word_model.proofs.Divisions.{inverse-is}
use Rattle.word_model.proofs.Multiples.{leading_coefficient-nonzero}
use Rattle.word_model.proofs.Reductions.{IsOf}
use Rattle.word_model.proofs.MultipleWeights.{Multiple, lead, IsThere, Fits, Under, lift}
use Rattle.word_model.proofs.Frames.{Frame, IsLow, low_sum, low_void, low_same, low_add, low_scale, low_one}
use Rattle.word_model.proofs.Connections.{positive, Linked}
use Rattle.word_model.proofs.SPolynomials.{pair_number, pair_number-nonzero, s_polynomial-below}
use Rattle.word_model.proofs.Monic.{monic}
use Rattle.word_model.proofs.TraceValues.{terms_of}
use Rattle.word_model.proofs.Settled.{Treats, IsNumber}
use Rattle.word_model.proofs.Replays.{IsTreatment, IsReplay}
use Rattle.word_model.proofs.Prefixes.{Begins, replay_begins, number_longer, begins_next}
use Rattle.word_model.proofs.Starts.{start_of-pair}
use Rattle.word_model.proofs.TreatedJobs.{whole_start, IsToldOf, told_of, of_rest, rest_fits, rest_top}
use Rattle.word_model.proofs.NormalForms.{Each-always}
use Rattle.word_model.proofs.RowTests.{Tests, see, see-sub, see-multiple, see-scale, see-one}
use Rattle.word_model.proofs.RowValues.{AreRows, IsAmong, length-row_sub, length-mapped}
use Rattle.word_model.proofs.RowFrames.{row_mul, row_sum_or_zero, row_frame}
use Rattle.word_model.proofs.RowPrefixes.{new_row-is}

module _ (A : Algebra) (ok : IsGAlgebra A) (gens : List Polynomial) (sorted : Each (IsPolynomial A.p A.order) gens) (G : List Polynomial) (elements : Each (IsElement A) G)
    (R : List Row) (rows : AreRows A ok gens sorted G elements R (length G)) (Z : List Row) (zvars : (k : ℕ) → 1 ≤ k → k ≤ length Z → Each (HasVars A.order.vars) (row_at Z k)) where
  abbrev pub frame : Frame A G
  frame = row_frame A ok Z zvars G R (λ i low high. (rows i low high).vars)

  -- the row of a start less the steps
  abbrev pub left : Job → List TraceStep → Row
  left job trace = less_steps A R (start_row A (length gens) G R job) trace

  -- what tests see of such rows
  pub see-steps : (Φ : Tests) (trace : List TraceStep) → EachKey (IsAmong A ok gens sorted G elements (length G)) (terms_of trace) → (r : Row) → length r ≡ length gens
      → Same A.p (see Φ 1 (less_steps A R r trace)) (see Φ 1 r + (A.p - 1) * weigh (row_mul A R Φ) (terms_of trace))
  see-steps Φ [] h r len = same_refl A.p _ _ (none (A.p - 1) (see Φ 1 r))
    where
      none : (e x : ℕ) → x ≡ x + e * 0
      none e x = omega arith
  see-steps Φ (s ∷ trace) h r len =
      let q : Row = row_multiple A s.coef s.mono (row_at R s.index) in
      let same : length r ≡ length q = len ∙ sym (length-mapped (multiple A s.coef s.mono) (row_at R s.index) ∙ (rows s.index h.0.1 h.0.2).one_each) in
      see-steps Φ trace h.1 (row_sub A r q) (length-row_sub A ok gens sorted r q same ∙ len)
      ∙ same_add A.p _ _ _ _ (see-sub A ok Φ 1 r q same ∙ same_add A.p (see Φ 1 r) _ _ _ refl (same_mul A.p (A.p - 1) _ _ (see-multiple A ok Φ 1 s.coef s.mono (row_at R s.index)))) refl
      ∙ same_refl A.p _ _ (regroup (A.p - 1) (see Φ 1 r) (s.coef * row_mul A R Φ (s.mono, s.index)) (weigh (row_mul A R Φ) (terms_of trace)))
    where
      regroup : (e f x y : ℕ) → (f + e * x) + e * y ≡ f + e * (x + y)
      regroup e f x y = omega arith

  -- ---- treated jobs

  -- the start was reduced to zero, and what is left of its row is zero or one of Z
  abbrev pub AsZero : Job → List TraceStep → Polynomial → Type 0
  AsZero job trace r = (r ≡ []) × ((is_zero_row (left job trace) ≡ true) ⊎ IsOneOf (left job trace) Z)

  -- or it made an element, whose row is the multiple that makes it monic of what is left
  abbrev pub AsNew : List Polynomial → Job → List TraceStep → Polynomial → Type 0
  AsNew H job trace r =
      (r ≢ []) × Begins (H ++ monic A ok r ∷ []) G × (row_at R (suc (length H)) ≡ map (poly_scale A.p (inverse A.p (leading_coefficient r))) (left job trace))

  pub record IsTreatedRow (job : Job) : Type 0 where
    pub H : List Polynomial
    pub begins : Begins H G
    pub trace : List TraceStep
    pub r : Polynomial
    pub treatment : IsTreatment A gens Left H job trace r
    pub outcome : AsZero job trace r ⊎ AsNew H job trace r

  -- the steps are by elements that stood before
  among : (H : List Polynomial) → Begins H G → (job : Job) (trace : List TraceStep) (r : Polynomial) → IsTreatment A gens Left H job trace r → EachKey (Fits A H) (terms_of trace)
  among H b job trace r t =
      (told_of A ok gens sorted Left G elements H b job trace r t (λ m. Unit {0}) (λ x m less q. tt) (Each-always (λ t. Unit {0}) (λ t. tt) t.start)).front

  pub treated_row : (H : List Polynomial) (entries : List Entry) (R0 : List Row) → IsReplay A gens Left H entries G → rows_after A (length gens) G R0 entries ≡ R → length R0 ≡ length H
      → ((x : Row) → IsOneOf x (entry_syzygies A (length gens) G R entries) → IsOneOf x Z) → (job : Job) → Treats entries job → IsTreatedRow job
  treated_row H [] R0 replay is same in_Z job t = absurd t
  treated_row H (Skipped other k ∷ entries) R0 replay is same in_Z job t = treated_row H entries R0 replay.1 is same in_Z job t
  treated_row H (Zero other trace ∷ entries) R0 replay is same in_Z job (inr t) =
      treated_row H entries R0 replay.1 is same (λ x m. in_Z x (more (is_zero_row (left other trace)) x m)) job t
    where
      more : (z : Bool) (x : Row) → IsOneOf x (entry_syzygies A (length gens) G R entries)
          → IsOneOf x (if z then entry_syzygies A (length gens) G R entries else left other trace ∷ entry_syzygies A (length gens) G R entries)
      more true x m = m
      more false x m = inr m
  treated_row H (Zero other trace ∷ entries) R0 replay is same in_Z job (inl e) =
      subst IsTreatedRow e (record {
        H = H;
        begins = replay_begins A gens Left H entries G replay.1;
        trace = trace;
        r = [];
        treatment = replay.0;
        outcome = inl (refl, by (is_zero_row (left other trace)) refl in_Z);
      })
    where
      by : (z : Bool) → is_zero_row (left other trace) ≡ z
          → ((x : Row) → IsOneOf x (if z then entry_syzygies A (length gens) G R entries else left other trace ∷ entry_syzygies A (length gens) G R entries) → IsOneOf x Z)
          → (is_zero_row (left other trace) ≡ true) ⊎ IsOneOf (left other trace) Z
      by true z in_Z = inl z
      by false z in_Z = inr (in_Z (left other trace) (inl refl))
  treated_row H (New other trace scale ∷ entries) R0 replay is same in_Z job (inr t) =
      let x : Row = Rattle.word_model.specs.Cofactors.new_row A (length gens) G R0 other trace scale in
      let g : Polynomial = monic A ok replay.0 in
      treated_row (H ++ g ∷ []) entries (R0 ++ x ∷ []) replay.4 is (length-append R0 (x ∷ []) ∙ (λ k. same k + 1) ∙ sym (length-append H (g ∷ []))) in_Z job t
  treated_row H (New other trace scale ∷ entries) R0 replay is same in_Z job (inl e) =
      let r : Polynomial = replay.0 in
      let b : Begins H G = replay_begins A gens Left H (New other trace scale ∷ entries) G replay in
      let front : EachKey (Fits A H) (terms_of trace) = among H b other trace r replay.2 in
      let row : row_at R (suc (length R0)) ≡ map (poly_scale A.p scale) (left other trace) =
      new_row-is A (length gens) G R0 other trace scale A.order.vars entries (subst (λ n. Rattle.word_model.specs.Jobs.IsJob (length gens) n A.order.vars other) (sym same) replay.2.due.0.0)
      (Each-weaker _ _ (λ e fits. (fits.1.low, subst (λ n. e.1.1 ≤ n) (sym same) fits.1.high)) (terms_of trace) front) R is in
      subst IsTreatedRow e (record {
        H = H;
        begins = b;
        trace = trace;
        r = r;
        treatment = replay.2;
        outcome = inr (
          replay.1,
          replay_begins A gens Left (H ++ monic A ok r ∷ []) entries G replay.4,
          (λ k. row_at R (suc (sym same k))) ∙ row ∙ ap (λ c. map (poly_scale A.p c) (left other trace)) replay.3,
        );
      })

  -- ---- what tests see of what is left

  -- the rest of a treatment is a polynomial whose monomials have what those of the start have
  module _ (job : Job) (t : IsTreatedRow job) where
    told : (Q : Monomial → Type 0) (down : (x m : Monomial) → order A x m ≡ Less → Q m → Q x) (keys : EachKey Q t.treatment.start) → IsToldOf A ok gens sorted Left G elements t.H t.begins job t.trace t.r t.treatment Q down keys
    told Q down keys = told_of A ok gens sorted Left G elements t.H t.begins job t.trace t.r t.treatment Q down keys

    pub rest_is : IsOf A ok t.r
    rest_is = (told (λ m. Unit {0}) (λ x m less q. tt) (Each-always (λ t. Unit {0}) (λ t. tt) t.treatment.start)).rest_sorted

    pub steps_among : EachKey (IsAmong A ok gens sorted G elements (length G)) (terms_of t.trace)
    steps_among =
        Each-weaker _ _ (λ e fits. (fits.0, fits.1.low, (number_longer t.H G t.begins e.1.1 (fits.1.low, fits.1.high)).1)) (terms_of t.trace) (among t.H t.begins job t.trace t.r t.treatment)

    -- where it made an element, what is left is seen as a multiple of that element's row
    pub left_new : (new : AsNew t.H job t.trace t.r) (Φ : Tests) → Same A.p (see Φ 1 (left job t.trace)) (leading_coefficient t.r * row_mul A R Φ (of_rest A ok gens sorted Left G elements t.H t.r rest_is new.0 new.1))
    left_new new Φ =
        let c : ℕ = leading_coefficient t.r in
        let k : ℕ = inverse A.p (leading_coefficient t.r) in
        let number : IsNumber G (suc (length t.H)) = (begins_next t.H (monic A ok t.r) G new.1).1 in
        let x : ℕ = see Φ 1 (left job t.trace) in
        same_refl A.p _ _ (once x)
        ∙ same_mul_right A.p x 1 (c * k) (sym (inverse-is A.p c ok.field (leading_coefficient-nonzero A t.r rest_is.canonical new.0)))
        ∙ same_refl A.p _ _ (regroup c k x)
        ∙ same_mul A.p c _ _
        (sym (see-scale A ok Φ 1 k (left job t.trace)) ∙ same_refl A.p _ _ (ap (see Φ 1) (sym new.2))
        ∙ sym (see-one A ok Φ 1 (row_at R (suc (length t.H))) (rows (suc (length t.H)) number.0 number.1).vars))
      where
        once : (x : ℕ) → x ≡ 1 * x
        once x = omega arith

        regroup : (c k x : ℕ) → c * k * x ≡ c * (k * x)
        regroup c k x = omega arith

  -- ---- treated pairs

  module _ (i j : ℕ) (ti : IsThere A G i) (tj : IsThere A G j) (t : IsTreatedRow (Pair i j)) where
    abbrev γ : Monomial
    γ = lcm (lead A G i) (lead A G j)

    abbrev Q : Monomial → Type 0
    Q m = order A m (lcm (lead A G i) (lead A G j)) ≡ Less

    down : (x m : Monomial) → order A x m ≡ Less → Q m → Q x
    down x m less below = (order_cmp_total A.order.rows).trans x m γ less below

    keys : EachKey Q t.treatment.start
    keys =
        subst (EachKey Q)
        (start_of-pair A gens G i j t.treatment.start (whole_start A ok gens sorted Left G elements t.H t.begins (Pair i j) t.trace t.r t.treatment)).0 (s_polynomial-below A ok G i j ti tj)

    bound : IsToldOf A ok gens sorted Left G elements t.H t.begins (Pair i j) t.trace t.r t.treatment Q down keys
    bound = told (Pair i j) t Q down keys

    lead_key : (r : Polynomial) → r ≢ [] → EachKey Q r → Q (leading_monomial r)
    lead_key [] nonzero h = absurd (nonzero refl)
    lead_key (u ∷ r) nonzero h = h.0

    -- what is left is below the least common multiple
    left_low : IsLow A ok G frame γ (λ Φ. see Φ 1 (left (Pair i j) t.trace))
    left_low = by t.outcome
      where
        by : AsZero (Pair i j) t.trace t.r ⊎ AsNew t.H (Pair i j) t.trace t.r → IsLow A ok G frame (lcm (lead A G i) (lead A G j)) (λ Φ. see Φ 1 (left (Pair i j) t.trace))
        by (inl zero) = low_void A ok G frame (lcm (lead A G i) (lead A G j)) (λ Φ. see Φ 1 (left (Pair i j) t.trace)) (row_sum_or_zero A ok Z zvars (left (Pair i j) t.trace) zero.1)
        by (inr new) =
            let k : Multiple = of_rest A ok gens sorted Left G elements t.H t.r (rest_is (Pair i j) t) new.0 new.1 in
            let under : Under A G (lcm (lead A G i) (lead A G j)) k = (
              rest_fits A ok gens sorted Left G elements t.H t.r (rest_is (Pair i j) t) new.0 new.1,
              ap (λ m. order A m (lcm (lead A G i) (lead A G j))) (rest_top A ok gens sorted Left G elements t.H t.r (rest_is (Pair i j) t) new.0 new.1)
                  ∙ lead_key t.r new.0 bound.rest_keys,
            ) in
            low_same A ok G frame (lcm (lead A G i) (lead A G j)) (λ Φ. leading_coefficient t.r * row_mul A R Φ k) (λ Φ. see Φ 1 (left (Pair i j) t.trace)) (left_new (Pair i j) t new)
            (low_scale A ok G frame (lcm (lead A G i) (lead A G j)) (leading_coefficient t.r) (λ Φ. row_mul A R Φ k) (low_one A ok G frame (lcm (lead A G i) (lead A G j)) k under))

    -- so the pair's elements are linked
    pub pair_linked : Linked A ok G frame i j
    pair_linked =
        let a : Monomial = first_cofactor (element G i) (element G j) in
        let b : Monomial = second_cofactor (element G i) (element G j) in
        let k : ℕ = second_number A (element G i) (element G j) in
        let first : Row = row_multiple A 1 a (row_at R i) in
        let second : Row = row_multiple A k b (row_at R j) in
        let len_first : length first ≡ length gens = length-mapped (multiple A 1 a) (row_at R i) ∙ (rows i ti.low ti.high).one_each in
        let len_second : length second ≡ length gens = length-mapped (multiple A k b) (row_at R j) ∙ (rows j tj.low tj.high).one_each in
        record {
          factor = pair_number A ok G i j ti tj;
          nonzero = pair_number-nonzero A ok G i j ti tj;
          rest = λ Φ. weigh (row_mul A R Φ) (terms_of t.trace) + see Φ 1 (left (Pair i j) t.trace);
          low =
              low_add A ok G frame γ (λ Φ. weigh (row_mul A R Φ) (terms_of t.trace)) (λ Φ. see Φ 1 (left (Pair i j) t.trace))
              (low_sum A ok G frame γ (λ Φ. weigh (row_mul A R Φ) (terms_of t.trace)) (record { terms = terms_of t.trace; each = bound.terms; value = λ Φ. refl })) left_low;
          value = λ Φ.
              (let w : ℕ = weigh (row_mul A R Φ) (terms_of t.trace) in
              let l : ℕ = see Φ 1 (left (Pair i j) t.trace) in
              let s : ℕ = see Φ 1 (start_row A (length gens) G R (Pair i j)) in
              let x : ℕ = row_mul A R Φ (lift A G γ i) in
              let y : ℕ = row_mul A R Φ (lift A G γ j) in
              let one : Same A.p s (w + l) =
              same_back A.p s w l (positive A ok) (see-steps Φ t.trace (steps_among (Pair i j) t) (start_row A (length gens) G R (Pair i j)) (length-row_sub A ok gens sorted first second (len_first ∙ sym len_second) ∙ len_first)) in
              let two : Same A.p s (1 * x + (A.p - 1) * (k * y)) =
              see-sub A ok Φ 1 first second (len_first ∙ sym len_second)
              ∙ same_add A.p _ _ _ _ (see-multiple A ok Φ 1 1 a (row_at R i)) (same_mul A.p (A.p - 1) _ _ (see-multiple A ok Φ 1 k b (row_at R j))) in
              same_refl A.p _ _ (once x) ∙ same_back A.p (1 * x) (k * y) s (positive A ok) two ∙ same_add A.p (k * y) (k * y) _ _ refl one);
        }
      where
        once : (x : ℕ) → x ≡ 1 * x
        once x = omega arith
