-- The rows of a left run: each element, finished or not, is the value of its row.
use Rattle.std.proofs.Common.{◌≡◌, ℕ, zero, suc, ◌+◌, ◌-◌, ◌*◌, ◌≤◌, nat_le, Bool, true, false, List, [], ◌∷◌, ◌++◌, map, length, length-append, replicate, slice_set, slice_index_or, Some, refl, sym, ap, ◌∙◌, subst, arith}
use lib.ListN.{get_or-append}
use Rattle.std.proofs.lemmas.List.{length-set, length-replicate}
use Rattle.std.proofs.lemmas.Bool.Decides.{nat_tests}
use Rattle.prime_field.specs.Modular.{inverse}
use Rattle.monomials.specs.Monomials.{Monomial, one}
use Rattle.monomials.specs.Leading.{leading_coefficient}
use Rattle.monomials.specs.Polynomials.{Polynomial, Each, HasVars, IsPolynomial, poly_scale}
use Rattle.monomials.proofs.Modulo.{Same, same_refl, same_add, same_mul, same_move}
use Rattle.monomials.proofs.Weights.{weigh, weigh-poly_scale}
use Rattle.monomials.proofs.Keys.{Each-weaker, EachKey, HasVars-poly_scale}
use Rattle.word_model.specs.Words.{Algebra}
use Rattle.word_model.specs.Conditions.{IsGAlgebra}
use Rattle.word_model.specs.Reduction.{element, multiple}
use Rattle.word_model.specs.Jobs.{s_polynomial, start_of, first_cofactor, second_cofactor, second_number}
use Rattle.word_model.specs.Machine.{IsElement}
use Rattle.word_model.specs.Cofactors.{Row, unit_row, row_sub, row_multiple, row_at, start_row, less_steps, new_row, rows_after}
use Rattle.word_model.specs.declared.records.Job.{Job}
use Rattle.word_model.specs.declared.records.Job.TheVariants.{Seed, Pair, Right}
use Rattle.word_model.specs.declared.records.Mode.TheVariants.{Left}
use Rattle.word_model.specs.declared.records.TraceStep.{TraceStep}
use Rattle.word_model.specs.declared.records.Entry.{Entry}
use Rattle.word_model.specs.declared.records.Entry.TheVariants.{Skipped, Zero, New}
use Rattle.word_model.proofs.NormalForms.{product_is_polynomial, Each-always}
use Rattle.word_model.proofs.LeastNumbers.{Each-element}
use Rattle.word_model.proofs.PairCofactors.{Reaches, reaches}
use Rattle.word_model.proofs.MultipleWeights.{behind, Multiple, multiple_weight}
use Rattle.word_model.proofs.Connections.{positive}
use Rattle.word_model.proofs.Differences.{weigh-sub, EachKey-sub, weigh-multiple}
use Rattle.word_model.proofs.Monic.{length-one, row_weight-one, monic}
use Rattle.word_model.proofs.TraceValues.{terms_of, trace_weight}
use Rattle.word_model.proofs.Settled.{IsNumber}
use Rattle.word_model.proofs.Replays.{IsTreatment, IsReplay}
use Rattle.word_model.proofs.Prefixes.{Begins, replay_begins, number_longer, begins_next}
use Rattle.word_model.proofs.Starts.{start_of-pair, start_of-seed}
use Rattle.word_model.proofs.TreatedJobs.{whole_start, IsToldOf, told_of}
use Rattle.word_model.proofs.RowTests.{see, see-sub, see-multiple, see-scale, see-unit, value_test, shift-value}

-- ---- lists of rows

pub length-mapped : (h : Polynomial → Polynomial) (r : Row) → length (map h r) ≡ length r
length-mapped h [] = refl
length-mapped h (q ∷ r) = ap suc (length-mapped h r)

pub row_at-append : (R : List Row) (x : Row) (i : ℕ) → 1 ≤ i → i ≤ length R → row_at (R ++ x ∷ []) i ≡ row_at R i
row_at-append R x i low high = get_or-append R (x ∷ []) [] (i - 1) (omega arith)

last_place : (R : List Row) (x : Row) (k : ℕ) → k ≡ length R → slice_index_or (R ++ x ∷ []) k [] ≡ x
last_place [] x zero e = refl
last_place [] x (suc k) e = absurd (omega arith)
last_place (y ∷ R) x zero e = absurd (omega arith)
last_place (y ∷ R) x (suc k) e = last_place R x k (omega arith)

pub row_at-last : (R : List Row) (x : Row) → row_at (R ++ x ∷ []) (suc (length R)) ≡ x
row_at-last R x = last_place R x (suc (length R) - 1) (omega arith)

module _ (A : Algebra) (ok : IsGAlgebra A) (gens : List Polynomial) (sorted : Each (IsPolynomial A.p A.order) gens) where
  pub gens_vars : Each (HasVars A.order.vars) gens
  gens_vars = Each-weaker _ _ (λ f h. h.vars) gens sorted

  -- a row over the generators, with a value
  pub record IsValue (row : Row) (F : (Monomial → ℕ) → ℕ) : Type 0 where
    pub one_each : length row ≡ length gens
    pub vars : Each (HasVars A.order.vars) row
    pub value : (φ : Monomial → ℕ) → Same A.p (see (value_test A ok gens φ) 1 row) (F φ)

  pub value_same : (row : Row) (F H : (Monomial → ℕ) → ℕ) → ((φ : Monomial → ℕ) → Same A.p (F φ) (H φ)) → IsValue row F → IsValue row H
  value_same row F H e v = record { one_each = v.one_each; vars = v.vars; value = λ φ. v.value φ ∙ e φ }

  pub length-row_sub : (r q : Row) → length r ≡ length q → length (row_sub A r q) ≡ length r
  length-row_sub [] q e = refl
  length-row_sub (x ∷ r) [] e = absurd (omega arith)
  length-row_sub (x ∷ r) (y ∷ q) e = ap suc (length-row_sub r q (omega arith))

  row_sub-vars : (r q : Row) → Each (HasVars A.order.vars) r → Each (HasVars A.order.vars) q → Each (HasVars A.order.vars) (row_sub A r q)
  row_sub-vars [] q hr hq = tt
  row_sub-vars (x ∷ r) [] hr hq = tt
  row_sub-vars (x ∷ r) (y ∷ q) hr hq = (EachKey-sub A ok (λ m. length m ≡ A.order.vars) x y hr.0 hq.0, row_sub-vars r q hr.1 hq.1)

  map-vars : (h : Polynomial → Polynomial) → ((q : Polynomial) → HasVars A.order.vars q → HasVars A.order.vars (h q)) → (r : Row) → Each (HasVars A.order.vars) r → Each (HasVars A.order.vars) (map h r)
  map-vars h keeps [] v = tt
  map-vars h keeps (q ∷ r) v = (keeps q v.0, map-vars h keeps r v.1)

  pub value_sub : (r q : Row) (F H : (Monomial → ℕ) → ℕ) → IsValue r F → IsValue q H → IsValue (row_sub A r q) (λ φ. F φ + (A.p - 1) * H φ)
  value_sub r q F H a b = record {
    one_each = length-row_sub r q (a.one_each ∙ sym b.one_each) ∙ a.one_each;
    vars = row_sub-vars r q a.vars b.vars;
    value = λ φ. see-sub A ok (value_test A ok gens φ) 1 r q (a.one_each ∙ sym b.one_each) ∙ same_add A.p _ _ _ _ (a.value φ) (same_mul A.p (A.p - 1) _ _ (b.value φ));
  }

  pub value_multiple : (c : ℕ) (m : Monomial) → length m ≡ A.order.vars → (r : Row) (F : (Monomial → ℕ) → ℕ) → IsValue r F → IsValue (row_multiple A c m r) (λ φ. c * F (behind A m φ))
  value_multiple c m hm r F a = record {
    one_each = length-mapped (multiple A c m) r ∙ a.one_each;
    vars = map-vars (multiple A c m) (λ q h. (product_is_polynomial A ok.field.more ((c, m) ∷ []) q).vars) r a.vars;
    value = λ φ.
        see-multiple A ok (value_test A ok gens φ) 1 c m r
        ∙ same_mul A.p c _ _ (shift-value A ok gens gens_vars m hm φ 1 r a.vars ∙ a.value (behind A m φ));
  }

  pub value_scale : (c : ℕ) (r : Row) (F : (Monomial → ℕ) → ℕ) → IsValue r F → IsValue (map (poly_scale A.p c) r) (λ φ. c * F φ)
  value_scale c r F a = record {
    one_each = length-mapped (poly_scale A.p c) r ∙ a.one_each;
    vars = map-vars (poly_scale A.p c) (λ q h. HasVars-poly_scale A.p A.order.vars c q h) r a.vars;
    value = λ φ. see-scale A ok (value_test A ok gens φ) 1 c r ∙ same_mul A.p c _ _ (a.value φ);
  }

  unit-vars : (g k : ℕ) → Each (HasVars A.order.vars) (slice_set (replicate g []) k ((1, one A.order.vars) ∷ []))
  unit-vars zero zero = tt
  unit-vars zero (suc k) = tt
  unit-vars (suc g) zero = ((length-one A.order.vars, tt), zeros g)
    where
      zeros : (g : ℕ) → Each (HasVars A.order.vars) (replicate g [])
      zeros zero = tt
      zeros (suc g) = (tt, zeros g)
  unit-vars (suc g) (suc k) = (tt, unit-vars g k)

  pub value_unit : (s : ℕ) → IsNumber gens s → IsValue (unit_row A (length gens) s) (λ φ. weigh φ (element gens s))
  value_unit s h = record {
    one_each = length-set (replicate (length gens) []) (s - 1) ((1, one A.order.vars) ∷ []) ∙ length-replicate {A = Polynomial} (length gens) [];
    vars = unit-vars (length gens) (s - 1);
    value = λ φ.
        same_refl A.p _ _ (see-unit A ok (value_test A ok gens φ) (length gens) s h.0 h.1)
        ∙ row_weight-one A φ (element gens s) (Each-element (HasVars A.order.vars) gens s gens_vars h.0 h.1);
  }

  -- ---- rows of a basis

  module _ (G : List Polynomial) (elements : Each (IsElement A) G) where
    -- the first n rows have the elements as values
    abbrev pub AreRows : List Row → ℕ → Type 0
    AreRows R n = (i : ℕ) → 1 ≤ i → i ≤ n → IsValue (row_at R i) (λ φ. weigh φ (element G i))

    -- a multiple of one of the first n elements
    abbrev pub IsAmong : ℕ → Multiple → Type 0
    IsAmong n k = (length k.0 ≡ A.order.vars) × (1 ≤ k.1) × (k.1 ≤ n)

    pub value_steps : (R : List Row) (n : ℕ) → AreRows R n → (trace : List TraceStep) → EachKey (IsAmong n) (terms_of trace) → (r : Row) (F : (Monomial → ℕ) → ℕ) → IsValue r F
        → IsValue (less_steps A R r trace) (λ φ. F φ + (A.p - 1) * trace_weight A G trace φ)
    value_steps R n rows [] h r F a = value_same r F (λ φ. F φ + (A.p - 1) * 0) (λ φ. same_refl A.p _ _ (none (A.p - 1) (F φ))) a
      where
        none : (e x : ℕ) → x ≡ x + e * 0
        none e x = omega arith
    value_steps R n rows (s ∷ trace) h r F a =
        value_same (less_steps A R r (s ∷ trace)) (λ φ. (F φ + (A.p - 1) * (s.coef * multiple_weight A G φ (s.mono, s.index))) + (A.p - 1) * trace_weight A G trace φ)
        (λ φ. F φ + (A.p - 1) * trace_weight A G (s ∷ trace) φ)
        (λ φ. same_refl A.p _ _ (regroup (A.p - 1) (F φ) (s.coef * multiple_weight A G φ (s.mono, s.index)) (trace_weight A G trace φ)))
        (value_steps R n rows trace h.1 (row_sub A r (row_multiple A s.coef s.mono (row_at R s.index))) (λ φ. F φ + (A.p - 1) * (s.coef * multiple_weight A G φ (s.mono, s.index)))
        (value_sub r (row_multiple A s.coef s.mono (row_at R s.index)) F (λ φ. s.coef * multiple_weight A G φ (s.mono, s.index)) a
        (value_multiple s.coef s.mono h.0.0 (row_at R s.index) (λ φ. weigh φ (element G s.index)) (rows s.index h.0.1 h.0.2))))
      where
        regroup : (e f x y : ℕ) → (f + e * x) + e * y ≡ f + e * (x + y)
        regroup e f x y = omega arith

    -- the cofactors of a pair are monomials of the algebra
    pub length-cofactors : (i j : ℕ) → IsNumber G i → IsNumber G j → (length (first_cofactor (element G i) (element G j)) ≡ A.order.vars) × (length (second_cofactor (element G i) (element G j)) ≡ A.order.vars)
    length-cofactors i j hi hj =
        let el_i : IsElement A (element G i) = Each-element (IsElement A) G i elements hi.0 hi.1 in
        let el_j : IsElement A (element G j) = Each-element (IsElement A) G j elements hj.0 hj.1 in
        let r : Reaches A.order.vars (element G i) (element G j) = reaches A.order.vars (element G i) (element G j) el_i.0.vars el_j.0.vars el_i.1 el_j.1 in
        (r.first_vars, r.second_vars)

    value_pair : (R : List Row) (n : ℕ) → AreRows R n → (i j : ℕ) → IsNumber G i → IsNumber G j → i ≤ n → j ≤ n
        → IsValue (start_row A (length gens) G R (Pair i j)) (λ φ. weigh φ (s_polynomial A (element G i) (element G j)))
    value_pair R n rows i j hi hj i_low j_low =
        let lengths : (length (first_cofactor (element G i) (element G j)) ≡ A.order.vars) × (length (second_cofactor (element G i) (element G j)) ≡ A.order.vars) = length-cofactors i j hi hj in
        let a : Monomial = first_cofactor (element G i) (element G j) in
        let b : Monomial = second_cofactor (element G i) (element G j) in
        let k : ℕ = second_number A (element G i) (element G j) in
        value_same (start_row A (length gens) G R (Pair i j)) (λ φ. 1 * multiple_weight A G φ (a, i) + (A.p - 1) * (k * multiple_weight A G φ (b, j)))
        (λ φ. weigh φ (s_polynomial A (element G i) (element G j)))
        (λ φ.
        sym (weigh-sub A ok φ (multiple A 1 a (element G i)) (multiple A k b (element G j))
        ∙ same_add A.p _ _ _ _ (weigh-multiple A ok φ 1 a (element G i)) (same_mul A.p (A.p - 1) _ _ (weigh-multiple A ok φ k b (element G j)))))
        (value_sub (row_multiple A 1 a (row_at R i)) (row_multiple A k b (row_at R j)) (λ φ. 1 * multiple_weight A G φ (a, i)) (λ φ. k * multiple_weight A G φ (b, j))
        (value_multiple 1 a lengths.0 (row_at R i) (λ φ. weigh φ (element G i)) (rows i hi.0 i_low))
        (value_multiple k b lengths.1 (row_at R j) (λ φ. weigh φ (element G j)) (rows j hj.0 j_low)))

    -- the row of a treated job's start has the start as value
    pub value_start : (H : List Polynomial) → Begins H G → (R : List Row) → AreRows R (length H) → (job : Job) (trace : List TraceStep) (r : Polynomial) → (t : IsTreatment A gens Left H job trace r)
        → start_of A gens G job ≡ Some t.start → IsValue (start_row A (length gens) G R job) (λ φ. weigh φ t.start)
    value_start H b R rows (Seed s) trace r t e =
        subst (λ f. IsValue (unit_row A (length gens) s) (λ φ. weigh φ f)) (start_of-seed A gens G s t.start e) (value_unit s t.due.0.0)
    value_start H b R rows (Pair i j) trace r t e =
        let i_high : i ≤ length H = omega (arith, t.due.0.0.1, t.due.0.0.2) in
        let j_low : 1 ≤ j = omega (arith, t.due.0.0.0, t.due.0.0.1) in
        subst (λ f. IsValue (start_row A (length gens) G R (Pair i j)) (λ φ. weigh φ f)) (start_of-pair A gens G i j t.start e).0
        (value_pair R (length H) rows i j (number_longer H G b i (t.due.0.0.0, i_high)) (number_longer H G b j (j_low, t.due.0.0.2)) i_high t.due.0.0.2)
    value_start H b R rows (Right i v) trace r t e = absurd t.due.1

    -- the row of a treated job's start, less the steps, has what is left as value
    pub value_left : (H : List Polynomial) → Begins H G → (R : List Row) → AreRows R (length H) → (job : Job) (trace : List TraceStep) (r : Polynomial) → IsTreatment A gens Left H job trace r
        → IsValue (less_steps A R (start_row A (length gens) G R job) trace) (λ φ. weigh φ r)
    value_left H b R rows job trace r t =
        let told : IsToldOf A ok gens sorted Left G elements H b job trace r t (λ m. Unit {0}) (λ x m less q. tt) (Each-always (λ t. Unit {0}) (λ t. tt) t.start) =
        told_of A ok gens sorted Left G elements H b job trace r t (λ m. Unit {0}) (λ x m less q. tt) (Each-always (λ t. Unit {0}) (λ t. tt) t.start) in
        value_same (less_steps A R (start_row A (length gens) G R job) trace) (λ φ. weigh φ t.start + (A.p - 1) * trace_weight A G trace φ) (λ φ. weigh φ r)
        (λ φ. sym (same_move A.p (weigh φ t.start) (weigh φ r) (trace_weight A G trace φ) (positive A ok) (told.value φ ∙ same_refl A.p _ _ (swap (trace_weight A G trace φ) (weigh φ r)))))
        (value_steps R (length H) rows trace (Each-weaker _ _ (λ e fits. (fits.0, fits.1.low, fits.1.high)) (terms_of trace) told.front) (start_row A (length gens) G R job) (λ φ. weigh φ t.start)
        (value_start H b R rows job trace r t (whole_start A ok gens sorted Left G elements H b job trace r t)))
      where
        swap : (x y : ℕ) → x + y ≡ y + x
        swap x y = omega arith

    -- one row more
    rows_more : (R : List Row) (x : Row) → AreRows R (length R) → IsValue x (λ φ. weigh φ (element G (suc (length R)))) → AreRows (R ++ x ∷ []) (suc (length R))
    rows_more R x rows new i low high = by (nat_le i (length R)) refl
      where
        by : (t : Bool) → nat_le i (length R) ≡ t → IsValue (row_at (R ++ x ∷ []) i) (λ φ. weigh φ (element G i))
        by true t =
            let h : i ≤ length R = grind (arith, nat_tests, t) in
            subst (λ r. IsValue r (λ φ. weigh φ (element G i))) (sym (row_at-append R x i low h)) (rows i low h)
        by false t =
            let h : suc (length R) ≡ i = grind (arith, nat_tests, t, high) in
            subst (λ i. IsValue (row_at (R ++ x ∷ []) i) (λ φ. weigh φ (element G i))) h
            (subst (λ r. IsValue r (λ φ. weigh φ (element G (suc (length R))))) (sym (row_at-last R x)) new)

    -- the rows of all elements
    pub rows_are : (H : List Polynomial) (entries : List Entry) (R : List Row) → IsReplay A gens Left H entries G → length R ≡ length H → AreRows R (length R)
        → (length (rows_after A (length gens) G R entries) ≡ length G) × AreRows (rows_after A (length gens) G R entries) (length G)
    rows_are H [] R replay same rows =
        let len : length R ≡ length G = same ∙ ap length replay in
        (len, subst (AreRows R) len rows)
    rows_are H (Skipped job k ∷ entries) R replay same rows = rows_are H entries R replay.1 same rows
    rows_are H (Zero job trace ∷ entries) R replay same rows = rows_are H entries R replay.1 same rows
    rows_are H (New job trace scale ∷ entries) R replay same rows =
        let r : Polynomial = replay.0 in
        let k : ℕ = inverse A.p (leading_coefficient r) in
        let x : Row = new_row A (length gens) G R job trace scale in
        let b : Begins H G = replay_begins A gens Left H (New job trace scale ∷ entries) G replay in
        let next : Begins (H ++ monic A ok r ∷ []) G = replay_begins A gens Left (H ++ monic A ok r ∷ []) entries G replay.4 in
        let left : Row = less_steps A R (start_row A (length gens) G R job) trace in
        let made : IsValue x (λ φ. k * weigh φ r) =
        subst (λ c. IsValue (map (poly_scale A.p c) left) (λ φ. k * weigh φ r)) (sym replay.3)
        (value_scale k left (λ φ. weigh φ r) (value_left H b R (subst (AreRows R) same rows) job trace r replay.2)) in
        let is : element G (suc (length R)) ≡ monic A ok r = ap (λ n. element G (suc n)) same ∙ (begins_next H (monic A ok r) G next).0 in
        let new : IsValue x (λ φ. weigh φ (element G (suc (length R)))) =
        value_same x (λ φ. k * weigh φ r) (λ φ. weigh φ (element G (suc (length R)))) (λ φ. sym (weigh-poly_scale A.p φ k r) ∙ same_refl A.p _ _ (ap (weigh φ) (sym is))) made in
        let len : length (R ++ x ∷ []) ≡ suc (length R) = length-append R (x ∷ []) ∙ omega arith in
        rows_are (H ++ monic A ok r ∷ []) entries (R ++ x ∷ []) replay.4
        (omega (arith, len, same, length-append H (monic A ok r ∷ []))) (subst (AreRows (R ++ x ∷ [])) (sym len) (rows_more R x rows new))
