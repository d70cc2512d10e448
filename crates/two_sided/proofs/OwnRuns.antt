-- A run's own certificate holds: the products of its steps were computed when the steps were made.
use Rattle.std.proofs.Common.{◌≡◌, ◌≢◌, ℕ, zero, suc, Bool, true, false, if◌then◌else◌, List, [], ◌∷◌, ◌++◌, length, Option, Some, None, refl, sym, ap, ◌∙◌, subst, arith}
use Rattle.std.specs.Option.{unwrap_or}
use Rattle.std.proofs.lemmas.Bool.{and_from}
use Rattle.prime_field.specs.Modular.{inverse}
use Rattle.monomials.specs.Leading.{leading_coefficient}
use Rattle.monomials.specs.Polynomials.{Polynomial, Each, IsPolynomial, poly_scale}
use Rattle.monomials.proofs.Keys.{Each-weaker}
use Rattle.word_model.specs.Words.{Algebra}
use Rattle.word_model.specs.Conditions.{IsGAlgebra}
use Rattle.word_model.specs.Reduction.{element, is_within, less_step, Target, leading_target, tail_target, step_by, Next, Ends, Undefined, Goes, next_step, Reduced, after_step, steps_within, enough_steps, reduce, reduce_tail}
use Rattle.word_model.specs.Machine.{Journal, machine, IsElement}
use Rattle.word_model.specs.Finished.{Final, kept, insert_final, with_final, finals_from, FinishedList, list_of, option_list, finished}
use Rattle.word_model.specs.Certificates.{less_trace, CertificateHolds, made_lines}
use Rattle.word_model.specs.Inside.Sound.{IsStep, AreSound}
use Rattle.word_model.specs.declared.records.Mode.{Mode}
use Rattle.word_model.specs.declared.records.TraceStep.{TraceStep}
use Rattle.word_model.specs.declared.records.Entry.{Entry}
use Rattle.word_model.specs.declared.records.Entry.TheVariants.{Skipped, Zero, New}
use Rattle.word_model.proofs.Targets.{IsPicked, IsTargeting, leading_target-falls, tail_target-falls}
use Rattle.word_model.proofs.Reductions.{next_step-goes}
use Rattle.word_model.proofs.Traces.{reduce_tail-steps}
use Rattle.word_model.proofs.Kept.{kept-sorted, length-kept, kept-nonzero}
use Rattle.word_model.proofs.FinalLists.{Each-insert_final}
use Rattle.word_model.proofs.Settled.{IsNumber}
use Rattle.word_model.proofs.Prefixes.{Begins, replay_begins, element_begins, number_longer}
use Rattle.word_model.proofs.Replays.{IsTreatment, IsReplay}
use Rattle.word_model.proofs.FinishedRuns.{machine-told}
use Rattle.word_model.proofs.Steps.{machine-elements}
use Rattle.word_model.proofs.Journals.{machine-journal}
use Rattle.word_model.proofs.Certified.{run_certificate}
use Rattle.two_sided.specs.Checks.{Holds, IsTerm, IsLine, IsCheckable, trace_within, line_value, lines_values, chain_check}
use Rattle.two_sided.proofs.Holding.{LineReaches, lines_give, holding_checked}

-- ---- steps of reductions

-- a step by an element of G that is not zero, whose product is computed
abbrev Reaches : List Polynomial → TraceStep → Type 0
Reaches G s = IsNumber G s.index × (element G s.index ≢ []) × (is_within s.mono (element G s.index) ≡ true)

trace_reaches : (G : List Polynomial) (trace : List TraceStep) → Each (Reaches G) trace → trace_within G trace ≡ true
trace_reaches G [] h = refl
trace_reaches G (s ∷ trace) h = and_from (is_within s.mono (element G s.index)) (trace_within G trace) h.0.2 (trace_reaches G trace h.1)

module _ (A : Algebra) (G : List Polynomial) where
  steps_reach : (target : Polynomial → Option Target) → IsTargeting A G target → (k : ℕ) (h : Polynomial) → Each (Reaches G) (steps_within A G target k h).trace
  unfolding steps_within
  steps_reach target targeting zero h = tt
  steps_reach target targeting (suc k) h = at (target h) refl (steps_reach target targeting k)
    where
      by : (o : Option Target) (n : Next) → target h ≡ o → next_step A G h o ≡ n → ((h : Polynomial) → Each (Reaches G) (steps_within A G target k h).trace)
          → Each (Reaches G) (after_step (steps_within A G target k) h n).trace
      by o Ends is e ih = tt
      by o Undefined is e ih = tt
      by None (Goes s h') is e ih = cc
      by (Some (t, i)) (Goes s h') is e ih =
          let goes : (is_within (step_by A t i (element G i)).mono (element G i) ≡ true) × (step_by A t i (element G i) ≡ s) × _ = next_step-goes A G h t i s h' e in
          let picked : IsPicked A G target h t i = targeting h t i is in
          (subst (Reaches G) goes.1 ((picked.divisor.low, picked.divisor.high), picked.divisor.nonzero, goes.0), ih h')

      at : (o : Option Target) → target h ≡ o → ((h : Polynomial) → Each (Reaches G) (steps_within A G target k h).trace)
          → Each (Reaches G) (after_step (steps_within A G target k) h (next_step A G h (target h))).trace
      at o is ih = subst (λ o. Each (Reaches G) (after_step (steps_within A G target k) h (next_step A G h o)).trace) (sym is) (by o (next_step A G h o) is refl ih)

  reduce_reaches : (h : Polynomial) → Each (Reaches G) (reduce A G h).trace
  unfolding reduce
  reduce_reaches h = steps_reach (leading_target G) (leading_target-falls A G) (enough_steps A.order.vars h) h

  reduce_tail_reaches : (h : Polynomial) → Each (Reaches G) (reduce_tail A G h).trace
  unfolding reduce_tail
  reduce_tail_reaches h = steps_reach (tail_target G) (tail_target-falls A G) (enough_steps A.order.vars h) h

  -- what the steps of a reduction leave is its rest
  steps_leave : (target : Polynomial → Option Target) (k : ℕ) (h : Polynomial) → less_trace A G h (steps_within A G target k h).trace ≡ (steps_within A G target k h).rest
  unfolding steps_within
  steps_leave target zero h = refl
  steps_leave target (suc k) h = by (target h) (next_step A G h (target h)) refl (steps_leave target k)
    where
      by : (o : Option Target) (n : Next) → next_step A G h o ≡ n
          → ((h : Polynomial) → less_trace A G h (steps_within A G target k h).trace ≡ (steps_within A G target k h).rest)
          → less_trace A G h (after_step (steps_within A G target k) h n).trace ≡ (after_step (steps_within A G target k) h n).rest
      by o Ends e ih = refl
      by o Undefined e ih = refl
      by None (Goes s h') e ih = cc
      by (Some (t, i)) (Goes s h') e ih =
          let goes : (is_within (step_by A t i (element G i)).mono (element G i) ≡ true) × (step_by A t i (element G i) ≡ s) × (less_step A G h (step_by A t i (element G i)) ≡ h') =
          next_step-goes A G h t i s h' e in
          let left : less_step A G h s ≡ h' = ap (less_step A G h) (sym goes.1) ∙ goes.2 in
          ap (λ f. less_trace A G f (steps_within A G target k h').trace) left ∙ ih h'

  reduce_leaves : (h : Polynomial) → less_trace A G h (reduce A G h).trace ≡ (reduce A G h).rest
  unfolding reduce
  reduce_leaves h = steps_leave (leading_target G) (enough_steps A.order.vars h) h

-- ---- the lines

-- the lines of a run give its basis
lines_made : (A : Algebra) (gens : List Polynomial) (mode : Mode) (H : List Polynomial) (entries : List Entry) (G : List Polynomial) → IsReplay A gens mode H entries G
    → lines_values A gens H (made_lines entries) ≡ G
lines_made A gens mode H [] G replay = replay
lines_made A gens mode H (Skipped job k ∷ entries) G replay = lines_made A gens mode H entries G replay.1
lines_made A gens mode H (Zero job trace ∷ entries) G replay = lines_made A gens mode H entries G replay.1
lines_made A gens mode H (New job trace scale ∷ entries) G replay =
    let r : Polynomial = replay.0 in
    let t : IsTreatment A gens mode H job trace r = replay.2 in
    let left : less_trace A H t.start trace ≡ r = subst (λ (x : Reduced). less_trace A H t.start x.trace ≡ x.rest) t.reduced (reduce_leaves A H t.start) in
    let value : line_value A gens H (New job trace scale) ≡ poly_scale A.p (inverse A.p (leading_coefficient r)) r =
    ap (λ o. poly_scale A.p scale (less_trace A H (unwrap_or o []) trace)) t.start_is ∙ (λ k. poly_scale A.p (replay.3 k) (left k)) in
    ap (λ g. lines_values A gens (H ++ g ∷ []) (made_lines entries)) value
    ∙ lines_made A gens mode (H ++ poly_scale A.p (inverse A.p (leading_coefficient r)) r ∷ []) entries G replay.4

-- a step over a front of G is one over G
reaches_longer : (H G : List Polynomial) (b : Begins H G) (s : TraceStep) → Reaches H s → Reaches G s
reaches_longer H G b s h =
    let same : element H s.index ≡ element G s.index = sym (element_begins H G b s.index h.0) in
    (number_longer H G b s.index h.0, subst (λ f. f ≢ []) same h.1, subst (λ f. is_within s.mono f ≡ true) same h.2)

lines_reach : (A : Algebra) (gens : List Polynomial) (mode : Mode) (H : List Polynomial) (entries : List Entry) (G : List Polynomial) → IsReplay A gens mode H entries G
    → Each (LineReaches G) (made_lines entries)
lines_reach A gens mode H [] G replay = tt
lines_reach A gens mode H (Skipped job k ∷ entries) G replay = lines_reach A gens mode H entries G replay.1
lines_reach A gens mode H (Zero job trace ∷ entries) G replay = lines_reach A gens mode H entries G replay.1
lines_reach A gens mode H (New job trace scale ∷ entries) G replay =
    let r : Polynomial = replay.0 in
    let t : IsTreatment A gens mode H job trace r = replay.2 in
    let b : Begins H G = replay_begins A gens mode H (New job trace scale ∷ entries) G replay in
    let over : Each (Reaches H) trace = subst (λ (r : Reduced). Each (Reaches H) r.trace) t.reduced (reduce_reaches A H t.start) in (
      trace_reaches G trace (Each-weaker (Reaches H) (Reaches G) (reaches_longer H G b) trace over),
      lines_reach A gens mode (H ++ poly_scale A.p (inverse A.p (leading_coefficient replay.0)) replay.0 ∷ []) entries G replay.4,
    )

step_term : (A : Algebra) (m : ℕ) (s : TraceStep) → IsStep A m s → IsTerm A s
step_term A m s h = record { some = h.some; small = h.small; vars = h.vars; low = h.within }

lines_are : (A : Algebra) (gens G : List Polynomial) (mode : Mode) (m : ℕ) (entries : List Entry) → AreSound A gens G mode m entries → Each (IsLine A) (made_lines entries)
lines_are A gens G mode m [] sound = tt
lines_are A gens G mode m (Skipped job k ∷ entries) sound = lines_are A gens G mode m entries sound.1
lines_are A gens G mode m (Zero job trace ∷ entries) sound = lines_are A gens G mode m entries sound.1
lines_are A gens G mode m (New job trace scale ∷ entries) sound =
    ((sound.0.4, Each-weaker (IsStep A m) (IsTerm A) (step_term A m) trace sound.0.2), lines_are A gens G mode (suc m) entries sound.1)

-- ---- the tails

module _ (A : Algebra) (ok : IsGAlgebra A) (G : List Polynomial) (elements : Each (IsElement A) G) where
  record IsTail (x : Final) : Type 0 where
    terms : Each (IsTerm A) x.tail
    reach : Each (Reaches G) x.tail

  -- a step over the kept elements is one over the basis
  reaches_kept : (s : TraceStep) → Reaches (kept G) s → Reaches G s
  reaches_kept s h =
      let number : IsNumber G s.index = (h.0.0, omega (arith, h.0.1, length-kept G)) in
      let same : element (kept G) s.index ≡ element G s.index = (kept-nonzero G s.index number h.1).1 in
      (number, subst (λ f. f ≢ []) same h.1, subst (λ f. is_within s.mono f ≡ true) same h.2)

  tail_is : (i : ℕ) (f : Polynomial) → IsPolynomial A.p A.order f
      → IsTail (record { polynomial = (reduce_tail A (kept G) f).rest; origin = i; tail = (reduce_tail A (kept G) f).trace })
  tail_is i f f_is = record {
    terms =
        Each-weaker (IsStep A (length (kept G))) (IsTerm A) (step_term A (length (kept G))) (reduce_tail A (kept G) f).trace
        (reduce_tail-steps A ok (kept G) (kept-sorted A G elements) f f_is);
    reach = Each-weaker (Reaches (kept G)) (Reaches G) reaches_kept (reduce_tail A (kept G) f).trace (reduce_tail_reaches A (kept G) f);
  }

  finals_are : (i : ℕ) (H : List Polynomial) (L : List Final) → Each (IsPolynomial A.p A.order) H → finals_from A (kept G) i H ≡ Some L → Each IsTail L
  finals_are i [] L H_is e = let none : [] ≡ L = cc in subst (Each IsTail) none tt
  finals_are i ([] ∷ H) L H_is e = finals_are (suc i) H L H_is.1 e
  finals_are i ((t ∷ f) ∷ H) L H_is e = by (finals_from A (kept G) (suc i) H) refl e (λ L' is. finals_are (suc i) H L' H_is.1 is)
    where
      r : Reduced
      r = reduce_tail A (kept G) (t ∷ f)

      x : Final
      x = record { polynomial = (reduce_tail A (kept G) (t ∷ f)).rest; origin = i; tail = (reduce_tail A (kept G) (t ∷ f)).trace }

      tested : (L' : List Final) → Each IsTail L' → (over : Bool)
          → (if over then None else Some (insert_final A (record { polynomial = (reduce_tail A (kept G) (t ∷ f)).rest; origin = i; tail = (reduce_tail A (kept G) (t ∷ f)).trace }) L')) ≡ Some L
          → Each IsTail L
      tested L' tails true e = cc
      tested L' tails false e =
          let is : insert_final A (record { polynomial = (reduce_tail A (kept G) (t ∷ f)).rest; origin = i; tail = (reduce_tail A (kept G) (t ∷ f)).trace }) L' ≡ L = cc in
          subst (Each IsTail) is
          (Each-insert_final A IsTail (record { polynomial = (reduce_tail A (kept G) (t ∷ f)).rest; origin = i; tail = (reduce_tail A (kept G) (t ∷ f)).trace }) L'
          (tail_is i (t ∷ f) H_is.0) tails)

      by : (o : Option (List Final)) → finals_from A (kept G) (suc i) H ≡ o → with_final A i (reduce_tail A (kept G) (t ∷ f)) o ≡ Some L
          → ((L' : List Final) → finals_from A (kept G) (suc i) H ≡ Some L' → Each IsTail L') → Each IsTail L
      by None is e later = cc
      by (Some L') is e later = tested L' (later L' is) (reduce_tail A (kept G) (t ∷ f)).over e

  tails_are : (L : List Final) → Each IsTail L → Each (Each (IsTerm A)) (list_of L).tails × Each (λ tail. trace_within G tail ≡ true) (list_of L).tails
  tails_are [] h = (tt, tt)
  tails_are (x ∷ L) h =
      let later : Each (Each (IsTerm A)) (list_of L).tails × Each (λ tail. trace_within G tail ≡ true) (list_of L).tails = tails_are L h.1 in
      ((h.0.terms, later.0), (trace_reaches G x.tail h.0.reach, later.1))

  list_tails : (F : FinishedList) → finished A G ≡ Some F → Each (Each (IsTerm A)) F.tails × Each (λ tail. trace_within G tail ≡ true) F.tails
  unfolding finished
  list_tails F e = by (finals_from A (kept G) 1 (kept G)) refl e
    where
      by : (o : Option (List Final)) → finals_from A (kept G) 1 (kept G) ≡ o → option_list o ≡ Some F
          → Each (Each (IsTerm A)) F.tails × Each (λ tail. trace_within G tail ≡ true) F.tails
      by None is e = cc
      by (Some L) is e =
          let made : list_of L ≡ F = cc in
          subst (λ (F : FinishedList). Each (Each (IsTerm A)) F.tails × Each (λ tail. trace_within G tail ≡ true) F.tails) made
          (tails_are L (finals_are 1 (kept G) L (kept-sorted A G elements) is))

-- ---- the run

module _ (A : Algebra) (ok : IsGAlgebra A) (gens : List Polynomial) (sorted : Each (IsPolynomial A.p A.order) gens) (mode : Mode) (budget : ℕ) (F : FinishedList)
    (listed : finished A (machine A gens mode budget).basis ≡ Some F) where
  pub run_checkable : IsCheckable A (record { lines = made_lines (machine A gens mode budget).entries; finished = F })
  run_checkable =
      let J : Journal = machine A gens mode budget in
      record {
        lines = lines_are A gens J.basis mode 0 J.entries (machine-journal A ok gens sorted mode budget).entries;
        tails = (list_tails A ok J.basis (machine-elements A ok gens sorted mode budget) F listed).0;
      }

  pub run_holds : chain_check A gens (record { lines = made_lines (machine A gens mode budget).entries; finished = F }) ≡ Holds
  run_holds =
      let J : Journal = machine A gens mode budget in
      let lines : List Entry = made_lines J.entries in
      let replay : IsReplay A gens mode [] J.entries J.basis = (machine-told A ok gens sorted mode budget).replay in
      let c : CertificateHolds A gens (made_lines (machine A gens mode budget).entries) F = run_certificate A ok gens sorted mode budget F listed in
      let same : J.basis ≡ c.0 = sym (lines_made A gens mode [] J.entries J.basis replay) ∙ lines_give A gens [] (made_lines (machine A gens mode budget).entries) c.0 c.1 in
      holding_checked A gens (record { lines = made_lines (machine A gens mode budget).entries; finished = F }) c
      (subst (λ G. Each (LineReaches G) (made_lines (machine A gens mode budget).entries)) same (lines_reach A gens mode [] J.entries J.basis replay))
      (subst (λ G. Each (λ tail. trace_within G tail ≡ true) F.tails) same (list_tails A ok J.basis (machine-elements A ok gens sorted mode budget) F listed).1)
