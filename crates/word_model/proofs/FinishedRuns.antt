-- What a run's journal tells: its entries make its basis, and where it is finished all jobs are settled.
use Rattle.std.proofs.Common.{◌≡◌, ◌≢◌, ℕ, zero, suc, ◌-◌, ◌⊎◌, inl, inr, nat_le, Bool, true, false, not, if◌then◌else◌, List, [], ◌∷◌, ◌++◌, length, Option, Some, None, refl, sym, ap, ◌∙◌, subst, arith}
use Rattle.prime_field.specs.Modular.{inverse}
use Rattle.monomials.specs.Leading.{leading_coefficient}
use Rattle.monomials.specs.Polynomials.{Polynomial, Each, IsPolynomial, poly_scale}
use Rattle.monomials.proofs.Keys.{Each-append}
use Rattle.word_model.specs.Words.{Algebra}
use Rattle.word_model.specs.Conditions.{IsGAlgebra}
use Rattle.word_model.specs.Reduction.{reduce}
use Rattle.word_model.specs.Jobs.{start_of, same_job, is_queued, without, least_job, is_witness, chain_witness}
use Rattle.word_model.specs.Machine.{State, Turn, On, Over, Journal, step, seeds_from, first_state, jobs_of, pairs_with, with_entry, with_element, turn_of_start, turn_of_job, most_elements, after_turn, ends_with, run_within, machine, IsElement}
use Rattle.word_model.specs.Inside.Sound.{IsOfMode}
use Rattle.word_model.specs.declared.records.Job.{Job}
use Rattle.word_model.specs.declared.records.Job.TheVariants.{Seed, Pair, Right}
use Rattle.word_model.specs.declared.records.Mode.{Mode}
use Rattle.word_model.specs.declared.records.Mode.TheVariants.{Left, TwoSided}
use Rattle.word_model.specs.declared.records.Entry.{Entry}
use Rattle.word_model.specs.declared.records.Entry.TheVariants.{Skipped, Zero, New}
use Rattle.word_model.specs.declared.records.Outcome.{Outcome}
use Rattle.word_model.specs.declared.records.Outcome.TheVariants.{Finished, BudgetSpent, BasisFull, DegreeOver}
use Rattle.word_model.proofs.Steps.{Each-filter, least_job-one, IsTreated, first_state-is, step-keeps}
use Rattle.word_model.proofs.JobLists.{queued-seeds_from}
use Rattle.word_model.proofs.Settled.{IsSettled, IsNumber, treats_last}
use Rattle.word_model.proofs.LeastNumbers.{IsLeast, least_number-found}
use Rattle.word_model.proofs.Replays.{IsDue, IsTreatment, IsReplay, replay_more, IsRun, entry_due, skipped_settled, element_due}

-- ---- the mode of jobs

pairs_with-mode : (m k : ℕ) → Each (IsOfMode Left) (pairs_with m k)
pairs_with-mode m zero = tt
pairs_with-mode m (suc k) = Each-append (IsOfMode Left) (pairs_with m k) (Pair (suc k) m ∷ []) (pairs_with-mode m k) (tt, tt)

all_two_sided : (queue : List Job) → Each (IsOfMode TwoSided) queue
all_two_sided [] = tt
all_two_sided (job ∷ queue) = (tt, all_two_sided queue)

jobs_of-mode : (mode : Mode) (n m : ℕ) → Each (IsOfMode mode) (jobs_of mode n m)
jobs_of-mode Left n m = pairs_with-mode m (m - 1)
jobs_of-mode TwoSided n m = all_two_sided _

seeds_from-mode : (mode : Mode) (s : ℕ) (H : List Polynomial) → Each (IsOfMode mode) (seeds_from s H)
seeds_from-mode TwoSided s H = all_two_sided _
seeds_from-mode Left s [] = tt
seeds_from-mode Left s ([] ∷ H) = seeds_from-mode Left (suc s) H
seeds_from-mode Left s ((t ∷ f) ∷ H) = (tt, seeds_from-mode Left (suc s) H)

-- a witness is one of the elements
witness-number : (G : List Polynomial) (queue : List Job) (job : Job) (k : ℕ) → chain_witness G queue job ≡ Some k → IsNumber G k
unfolding chain_witness
witness-number G queue (Seed s) k e = cc
witness-number G queue (Pair i j) k e =
    let least : IsLeast (is_witness G queue i j) 1 (length G) k = least_number-found (is_witness G queue i j) 1 (length G) k e in
    (least.low, omega (arith, least.high))
witness-number G queue (Right i v) k e = cc

module _ (A : Algebra) (ok : IsGAlgebra A) (gens : List Polynomial) (sorted : Each (IsPolynomial A.p A.order) gens) (mode : Mode) where
  -- what a run has but for its state
  record IsNext (s : State) : Type 0 where
    of_mode : Each (IsOfMode mode) s.queue
    replay : IsReplay A gens mode [] s.entries s.basis
    due : (job : Job) → IsDue A gens mode s.basis job → (is_queued s.queue job ≡ true) ⊎ IsSettled s.basis s.entries job

  -- where a turn leads to, and that a run is finished where no job is left
  abbrev AfterTurn : State → Turn → Type 0
  AfterTurn s (On s') = IsNext s'
  AfterTurn s (Over outcome) = outcome ≡ Finished → s.queue ≡ []

  module _ (s : State) (job : Job) (run : IsRun A gens mode s) (due : IsDue A gens mode s.basis job) where
    with_entry-next : (e : Entry) → IsReplay A gens mode s.basis (e ∷ []) s.basis → IsSettled s.basis (s.entries ++ e ∷ []) job → IsNext (with_entry s job e)
    with_entry-next e replay settled = record {
      of_mode = Each-filter (IsOfMode mode) (λ other. not (same_job job other)) s.queue run.of_mode;
      replay = replay_more A gens mode [] s.basis s.basis s.entries e run.replay replay;
      due = entry_due A gens mode s job e run (λ d. settled);
    }

    -- the job's treatment, by the reduction of its start
    treatment : (h : Polynomial) → start_of A gens s.basis job ≡ Some h → (reduce A s.basis h).over ≡ false → (r : Polynomial) → (reduce A s.basis h).rest ≡ r
        → IsTreatment A gens mode s.basis job (reduce A s.basis h).trace r
    treatment h e over r rest = record {
      due = due;
      start = h;
      start_is = e;
      reduced = λ k. record { trace = (reduce A s.basis h).trace; rest = rest k; over = over k };
    }

    with_element-next : (h : Polynomial) → start_of A gens s.basis job ≡ Some h → (reduce A s.basis h).over ≡ false → (reduce A s.basis h).rest ≢ []
        → IsNext (with_element A gens mode s job (reduce A s.basis h))
    with_element-next h e over nonzero =
        let r : Polynomial = (reduce A s.basis h).rest in
        let scale : ℕ = inverse A.p (leading_coefficient (reduce A s.basis h).rest) in
        let g : Polynomial = poly_scale A.p (inverse A.p (leading_coefficient (reduce A s.basis h).rest)) (reduce A s.basis h).rest in
        let entry : Entry = New job (reduce A s.basis h).trace (inverse A.p (leading_coefficient (reduce A s.basis h).rest)) in
        record {
          of_mode =
              Each-append (IsOfMode mode) (without job s.queue) (jobs_of mode A.order.vars (suc (length s.basis)))
              (Each-filter (IsOfMode mode) (λ other. not (same_job job other)) s.queue run.of_mode) (jobs_of-mode mode A.order.vars (suc (length s.basis)));
          replay =
              replay_more A gens mode [] s.basis (s.basis ++ g ∷ []) s.entries entry run.replay
              (r, nonzero, treatment h e over r refl, refl, refl);
          due = element_due A gens mode s job g entry run (inl refl);
        }

    turn_of_start-next : (h : Option Polynomial) → start_of A gens s.basis job ≡ h → AfterTurn s (turn_of_start A gens mode s job h)
    turn_of_start-next None e = λ no. cc
    turn_of_start-next (Some h) e = by (reduce A s.basis h).over (reduce A s.basis h).rest (nat_le most_elements (length s.basis)) refl refl
      where
        by : (over : Bool) (rest : Polynomial) (full : Bool) → (reduce A s.basis h).over ≡ over → (reduce A s.basis h).rest ≡ rest
            → AfterTurn s (if over then Over DegreeOver else elim rest [
              | [] ↦ On (with_entry s job (Zero job (reduce A s.basis h).trace))
              | t ∷ f ↦ if full then Over BasisFull else On (with_element A gens mode s job (reduce A s.basis h))
            ])
        by true rest full o r = λ no. cc
        by false [] full o r =
            with_entry-next (Zero job (reduce A s.basis h).trace) (treatment h e o [] r, refl)
            (IsSettled.treated job (treats_last s.entries (Zero job (reduce A s.basis h).trace) job (inl refl)))
        by false (t ∷ f) true o r = λ no. cc
        by false (t ∷ f) false o r = with_element-next h e o (λ none. (let no : t ∷ f ≡ [] = sym r ∙ none in cc))

    turn_of_job-next : (witness : Option ℕ) → chain_witness s.basis s.queue job ≡ witness → AfterTurn s (turn_of_job A gens mode s job witness)
    turn_of_job-next (Some k) e = with_entry-next (Skipped job k) ((due, witness-number s.basis s.queue job k e), refl) (skipped_settled A gens mode s job k run e due)
    turn_of_job-next None e = turn_of_start-next (start_of A gens s.basis job) refl

  step-next : (budget : ℕ) (s : State) → IsRun A gens mode s → AfterTurn s (step A gens mode budget s)
  unfolding step
  step-next budget s run = by s.queue refl (nat_le budget (length s.entries))
    where
      by : (queue : List Job) → s.queue ≡ queue → (spent : Bool) → AfterTurn s (elim queue [
        | [] ↦ Over Finished
        | first ∷ queue ↦ if spent then Over BudgetSpent
            else (let job : Job = least_job A gens s.basis s.sugars first queue in turn_of_job A gens mode s job (chain_witness s.basis s.queue job))
      ])
      by [] e spent = λ o. e
      by (first ∷ queue) e true = λ no. cc
      by (first ∷ queue) e false =
          let jobs : Each (IsTreated gens s.basis A.order.vars) (first ∷ queue) = subst (Each (IsTreated gens s.basis A.order.vars)) e run.state.jobs in
          let of_mode : Each (IsOfMode mode) (first ∷ queue) = subst (Each (IsOfMode mode)) e run.of_mode in
          let job : Job = least_job A gens s.basis s.sugars first queue in
          turn_of_job-next s job run (
            least_job-one (IsTreated gens s.basis A.order.vars) A gens s.basis s.sugars first queue jobs.0 jobs.1,
            least_job-one (IsOfMode mode) A gens s.basis s.sugars first queue of_mode.0 of_mode.1,
          ) (chain_witness s.basis s.queue job) refl

  -- ---- journals

  -- what a journal tells
  pub record IsTold (J : Journal) : Type 0 where
    pub elements : Each (IsElement A) J.basis
    pub replay : IsReplay A gens mode [] J.entries J.basis
    pub settled : J.outcome ≡ Finished → (job : Job) → IsDue A gens mode J.basis job → IsSettled J.basis J.entries job

  none_queued : (queue : List Job) (job : Job) (T : Type 0) → queue ≡ [] → (is_queued queue job ≡ true) ⊎ T → T
  none_queued queue job T none (inl e) = absurd (let no : false ≡ true = ap (λ q. is_queued q job) (sym none) ∙ e in cc)
  none_queued queue job T none (inr t) = t

  ended : (s : State) (outcome : Outcome) → IsRun A gens mode s → (outcome ≡ Finished → s.queue ≡ []) → IsTold (ends_with s outcome)
  ended s outcome run none = record {
    elements = run.state.elements;
    replay = run.replay;
    settled = λ o job due. none_queued s.queue job (IsSettled s.basis s.entries job) (none o) (run.due job due);
  }

  run_within-told : (budget k : ℕ) (s : State) → IsRun A gens mode s → IsTold (run_within A gens mode budget k s)
  unfolding run_within
  run_within-told budget zero s run = ended s BudgetSpent run (λ no. cc)
  run_within-told budget (suc k) s run = by (step A gens mode budget s) refl (step-next budget s run) (run_within-told budget k)
    where
      by : (turn : Turn) → step A gens mode budget s ≡ turn → AfterTurn s turn → ((s : State) → IsRun A gens mode s → IsTold (run_within A gens mode budget k s))
          → IsTold (after_turn (run_within A gens mode budget k) s turn)
      by (On s') e next ih = ih s' (record { state = step-keeps A ok gens sorted mode budget s s' run.state e; of_mode = next.of_mode; replay = next.replay; due = next.due })
      by (Over outcome) e next ih = ended s outcome run next

  first_due : (job : Job) → IsDue A gens mode [] job → (is_queued (seeds_from 1 gens) job ≡ true) ⊎ IsSettled [] [] job
  first_due (Seed s) due = inl (queued-seeds_from 1 gens s due.0.0.0 (omega (arith, due.0.0.1)) due.0.1)
  first_due (Pair i j) due = absurd (omega (arith, due.0.0.0, due.0.0.1, due.0.0.2))
  first_due (Right i v) due = absurd (omega (arith, due.0.0.0, due.0.0.1))

  -- the journal of each run is so
  pub machine-told : (budget : ℕ) → IsTold (machine A gens mode budget)
  unfolding machine
  machine-told budget =
      run_within-told budget (suc budget) (first_state gens)
      (record { state = first_state-is A ok gens sorted; of_mode = seeds_from-mode mode 1 gens; replay = refl; due = first_due })
