-- A lead and the machine: the turn of each state that a lead is at, and where the lead is after it.
use Rattle.std.proofs.Common.{◌≡◌, ℕ, suc, ◌+◌, ◌-◌, ◌*◌, ◌<◌, ◌≤◌, nat_le, ◌||◌, ◌⊎◌, inl, inr, Bool, true, false, List, [], ◌∷◌, ◌++◌, length, map, drop, Option, Some, None, IfSome, Ok, if◌then◌else◌, refl, sym, ap, ◌∙◌, subst, arith, length-append}
use Rattle.std.proofs.lemmas.Bool.Decides.{nat_tests}
use Rattle.prime_field.specs.Modular.{inverse}
use Rattle.monomials.specs.Polynomials.{Polynomial, Each, IsPolynomial, poly_scale}
use Rattle.monomials.proofs.Keys.{Each-weaker}
use Rattle.monomials.specs.Monomials.{Monomial}
use Rattle.monomials.specs.Orders.{RowOrder}
use Rattle.monomials.specs.Leading.{leading_coefficient}
use Rattle.word_model.specs.Words.{Algebra}
use Rattle.word_model.specs.Conditions.{IsGAlgebra}
use Rattle.word_model.specs.Reduction.{Reduced as Reduction}
use Rattle.word_model.specs.Jobs.{same_job, is_queued, without, job_sugar, element_sugar, least_job, chain_witness, AreSugars}
use Rattle.word_model.specs.Machine.{State, On, Over, Journal, turn_of_job, with_entry, with_element, jobs_of, most_elements, seeds_from, first_state, IsElement, IsState}
use Rattle.word_model.specs.declared.records.Job.{Job}
use Rattle.word_model.specs.declared.records.Job.TheVariants.{Seed, Pair, Right}
use Rattle.word_model.specs.declared.records.Mode.{Mode}
use Rattle.word_model.specs.declared.records.Entry.{Entry}
use Rattle.word_model.specs.declared.records.Entry.TheVariants.{New}
use Rattle.word_model.specs.declared.records.Outcome.{Outcome}
use Rattle.word_model.specs.declared.records.Outcome.TheVariants.{Finished, BudgetSpent, BasisFull}
use Rattle.word_model.proofs.JobLists.{same_job-is, same_job-itself}
use Rattle.word_model.proofs.Steps.{first_state-is, step-keeps}
use Rattle.pair_strategy.specs.Queues.{JobQueue, jobs_in, IsRising, IsQueue, IsSet, HasKey, SameJobs}
use Rattle.pair_strategy.specs.declared.keys.Keyed.{Keyed}
use Rattle.pair_strategy.proofs.Least.{Each-queued}
use Rattle.commit_core.specs.Leads.{Run, IsLead, IsAt, IsCommit, IsPart, AreLow, keyed, run_journal}
use Rattle.commit_core.specs.Named.{IsNamed}
use Rattle.commit_core.specs.Kept.{Turns, IsKeptRun, run_from}
use Rattle.commit_core.specs.declared.lead.Committed.TheVariants.{Added}
use Rattle.commit_core.proofs.Bringing.{queued-append, Each-rest}
use Rattle.commit_core.proofs.Turning.{step-finished, step-spent, step-job, with_element-is, run-goes_on, run-first}
use Rattle.commit_core.proofs.Growing.{run-part}
use Rattle.commit_core.proofs.Running.{run-over}

-- ---- sets of jobs

queued-first : (job : Job) (jobs : List Job) → is_queued (job ∷ jobs) job ≡ true
queued-first job jobs = rw (same_job-itself job) refl

-- what holds of each job of a list holds of each that is queued there
Each-at : (P : Job → Type 0) (jobs : List Job) (job : Job) → Each P jobs → is_queued jobs job ≡ true → P job
Each-at P [] job h e = cc
Each-at P (first ∷ jobs) job h e = by (same_job job first) refl e (Each-at P jobs job h.1)
  where
    by : (t : Bool) → same_job job first ≡ t → (t || is_queued jobs job) ≡ true → (is_queued jobs job ≡ true → P job) → P job
    by true is e behind = subst P (sym (same_job-is job first is)) h.0
    by false is e behind = behind e

-- and of each of a list with the same jobs
pub Each-same : (P : Job → Type 0) (jobs others : List Job) → SameJobs jobs others → Each P jobs → Each P others
Each-same P jobs others same h = Each-queued P others (λ job e. Each-at P jobs job h (same job ∙ e))

pub no_jobs : (jobs : List Job) → SameJobs jobs [] → jobs ≡ []
no_jobs [] same = refl
no_jobs (job ∷ jobs) same = let no : true ≡ false = sym (queued-first job jobs) ∙ same job in cc

pub some_jobs : (jobs : List Job) (job : Job) (rest : List Job) → SameJobs jobs (job ∷ rest) → (a : Job) × (queue : List Job) × (jobs ≡ a ∷ queue)
some_jobs [] job rest same = let no : false ≡ true = same job ∙ queued-first job rest in cc
some_jobs (a ∷ queue) job rest same = (a, queue, refl)

-- the law of a queue's first job, taken out of any list of the same jobs
abbrev pub Taking : Type 0
Taking = (first : Keyed) (rest : List Keyed) (jobs : List Job) → IsSet (jobs_in (first ∷ rest)) → SameJobs jobs (jobs_in (first ∷ rest)) → SameJobs (without first.job jobs) (jobs_in rest)

left_jobs : Taking → (items : List Keyed) (jobs rest : List Job) (job : Job) → IsSet (jobs_in items) → SameJobs jobs (jobs_in items) → jobs_in items ≡ job ∷ rest
    → SameJobs (without job jobs) (jobs_in (drop 1 items))
left_jobs taking [] jobs rest job set same e = cc
left_jobs taking (first ∷ items) jobs rest job set same e =
    let is : first.job ≡ job = cc in
    subst (λ j. SameJobs (without j jobs) (jobs_in items)) is (taking first items jobs set same)

-- ---- the turn of each state that a run is at

module _ (run : Run) where
  pub turn-finished : run.jobs ≡ [] → Turns run (λ s. Over Finished)
  turn-finished e s at =
      step-finished run.algebra run.generators run.mode run.budget s (no_jobs s.queue (subst (SameJobs s.queue) e at.jobs))

  pub turn-spent : (job : Job) (rest : List Job) → run.jobs ≡ job ∷ rest → run.budget ≤ length run.entries → Turns run (λ s. Over BudgetSpent)
  turn-spent job rest e spent s at =
      let some = some_jobs s.queue job rest (subst (SameJobs s.queue) e at.jobs) in
      step-spent run.algebra run.generators run.mode run.budget s some.0 some.1 some.2 (omega (arith, ap length at.entries))

  -- the first job's turn, with its witness
  pub turn-job : (job : Job) (rest : List Job) → run.jobs ≡ job ∷ rest → length run.entries < run.budget
      → ((s : State) (a : Job) (queue : List Job) → IsAt run s → s.queue ≡ a ∷ queue → least_job run.algebra run.generators run.basis run.sugars a queue ≡ job)
      → ((G : List Polynomial) (jobs others : List Job) (job : Job) → SameJobs jobs others → chain_witness G jobs job ≡ chain_witness G others job)
      → Turns run (λ s. turn_of_job run.algebra run.generators run.mode s job (chain_witness run.basis run.jobs job))
  turn-job job rest e room least witness s at =
      let some = some_jobs s.queue job rest (subst (SameJobs s.queue) e at.jobs) in
      let is : least_job run.algebra run.generators s.basis s.sugars some.0 some.1 ≡ job =
      (λ t. least_job run.algebra run.generators (at.basis t) (at.sugars t) some.0 some.1) ∙ least s some.0 some.1 at some.2 in
      let found : chain_witness s.basis s.queue job ≡ chain_witness run.basis run.jobs job =
      witness s.basis s.queue run.jobs job at.jobs ∙ ap (λ (G : List Polynomial). chain_witness G run.jobs job) at.basis in
      step-job run.algebra run.generators run.mode run.budget s some.0 some.1 some.2 (omega (arith, ap length at.entries))
      ∙ ap (λ j. turn_of_job run.algebra run.generators run.mode s j (chain_witness s.basis s.queue j)) is
      ∙ ap (turn_of_job run.algebra run.generators run.mode s job) found

  -- it is skipped by its witness, or its start is reduced
  pub turn-by : (job : Job) (found : Option ℕ) → found ≡ chain_witness run.basis run.jobs job
      → Turns run (λ s. turn_of_job run.algebra run.generators run.mode s job (chain_witness run.basis run.jobs job))
      → Turns run (λ s. turn_of_job run.algebra run.generators run.mode s job found)
  turn-by job found e turn s at = turn s at ∙ ap (turn_of_job run.algebra run.generators run.mode s job) (sym e)

-- the state with a new element
abbrev pub admits : Mode → ℕ → Job → Entry → Polynomial → ℕ → State → State
admits mode n job entry element sugar s = record {
  entries = s.entries ++ entry ∷ [];
  basis = s.basis ++ element ∷ [];
  sugars = s.sugars ++ sugar ∷ [];
  queue = without job s.queue ++ jobs_of mode n (suc (length s.basis));
}

module _ (run : Run) (job : Job) (r : Reduction)
    (turn : Turns run (λ s. if nat_le most_elements (length s.basis) then Over BasisFull else On (with_element run.algebra run.generators run.mode s job r))) where
  pub turn-element : (scale : ℕ) (element : Polynomial) (sugar : ℕ) → length run.basis < 2048 → scale ≡ inverse run.algebra.p (leading_coefficient r.rest)
      → element ≡ poly_scale run.algebra.p scale r.rest → sugar ≡ element_sugar run.sugars (job_sugar run.generators run.basis run.sugars job) r.trace
      → Turns run (λ s. On (admits run.mode run.algebra.order.vars job (New job r.trace scale) element sugar s))
  turn-element scale element sugar room is monic sweet s at =
      let t : nat_le most_elements (length s.basis) ≡ false = grind (arith, nat_tests, ap length at.basis) in
      let here : sugar ≡ element_sugar s.sugars (job_sugar run.generators s.basis s.sugars job) r.trace =
      sweet ∙ sym (λ t. element_sugar (at.sugars t) (job_sugar run.generators (at.basis t) (at.sugars t) job) r.trace) in
      turn s at
      ∙ rw t refl
      ∙ ap On
      (with_element-is run.algebra run.generators run.mode s job r scale (s.basis ++ element ∷ []) (s.sugars ++ sugar ∷ []) is (ap (λ g. s.basis ++ g ∷ []) monic)
      (ap (λ n. s.sugars ++ n ∷ []) here))

-- ---- where the lead is after a turn

-- a run of these generators at this state
abbrev pub run_at : Algebra → List Polynomial → Mode → ℕ → Option Outcome → State → Run
run_at A gens mode budget o s = record {
  algebra = A;
  generators = gens;
  mode = mode;
  budget = budget;
  entries = s.entries;
  basis = s.basis;
  sugars = s.sugars;
  jobs = s.queue;
  outcome = o;
}

module _ (A : Algebra) (gens : List Polynomial) (mode : Mode) (budget : ℕ) (o : Option Outcome) (s t : State) (q : JobQueue) (queue : s.queue ≡ jobs_in q.items)
    (set : IsSet (jobs_in q.items)) (job : Job) (rest : List Job) (first : s.queue ≡ job ∷ rest) (taking : Taking) (entry : Entry) (entries : t.entries ≡ s.entries ++ entry ∷ []) where
  admitted-at : (x : State) (element : Polynomial) (sugar : ℕ) → t.basis ≡ s.basis ++ element ∷ [] → t.sugars ≡ s.sugars ++ sugar ∷ [] → SameJobs (jobs_in (drop 1 q.items) ++ jobs_of mode A.order.vars (length t.basis)) t.queue
      → IsAt (run_at A gens mode budget o s) x → IsAt (run_at A gens mode budget o t) (admits mode A.order.vars job entry element sugar x)
  admitted-at x element sugar basis sugars more at = record {
    entries = ap (λ e. e ++ entry ∷ []) at.entries ∙ sym entries;
    basis = grown;
    sugars = ap (λ n. n ++ sugar ∷ []) at.sugars ∙ sym sugars;
    jobs = λ other. (
        queued-append (without job x.queue) (jobs_of mode A.order.vars (suc (length x.basis))) other
        ∙ ap (λ b. b || is_queued (jobs_of mode A.order.vars (suc (length x.basis))) other) (left other)
        ∙ sym (queued-append (jobs_in (drop 1 q.items)) (jobs_of mode A.order.vars (suc (length x.basis))) other)
        ∙ ap (λ m. is_queued (jobs_in (drop 1 q.items) ++ jobs_of mode A.order.vars m) other) count
        ∙ more other
        );
  }
    where
      grown : x.basis ++ element ∷ [] ≡ t.basis
      grown = ap (λ g. g ++ element ∷ []) at.basis ∙ sym basis

      count : suc (length x.basis) ≡ length t.basis
      count = sym (length-append x.basis (element ∷ []) ∙ omega arith) ∙ ap length grown

      left : SameJobs (without job x.queue) (jobs_in (drop 1 q.items))
      left = left_jobs taking q.items x.queue rest job set (subst (SameJobs x.queue) queue at.jobs) (sym queue ∙ first)

  pub admitted : (element : Polynomial) (sugar : ℕ) → t.basis ≡ s.basis ++ element ∷ [] → t.sugars ≡ s.sugars ++ sugar ∷ [] → SameJobs (jobs_in (drop 1 q.items) ++ jobs_of mode A.order.vars (length t.basis)) t.queue
      → Turns (run_at A gens mode budget o s) (λ x. On (admits mode A.order.vars job entry element sugar x))
      → IsCommit (run_at A gens mode budget o s) (run_at A gens mode budget o t) (Ok Added)
  admitted element sugar basis sugars more turn = (
    record { algebra = refl; generators = refl; mode = refl; budget = refl },
    refl,
    λ x at. (admits mode A.order.vars job entry element sugar x, turn x at, admitted-at x element sugar basis sugars more at),
  )

-- a run is at its own state
pub at_itself : (A : Algebra) (gens : List Polynomial) (mode : Mode) (budget : ℕ) (o : Option Outcome) (s : State) → IsAt (run_at A gens mode budget o s) s
at_itself A gens mode budget o s = record { entries = refl; basis = refl; sugars = refl; jobs = λ job. refl }

-- after a commit that goes on the lead is one
pub lead-on : (A : Algebra) (gens : List Polynomial) (mode : Mode) (budget : ℕ) (o : Option Outcome) (s t : State) (q new : JobQueue) → IsGAlgebra A → o ≡ None
    → IsKeptRun (run_at A gens mode budget o s) q → IsCommit (run_at A gens mode budget o s) (run_at A gens mode budget o t) (Ok Added)
    → new.order ≡ q.order → t.queue ≡ jobs_in new.items → Each (HasKey A gens t.basis t.sugars) new.items → AreLow 1 t.sugars → IsKeptRun (run_at A gens mode budget o t) new
lead-on A gens mode budget o s t q new ok going lead commit order queue keys low =
    let next = commit.2 s (at_itself A gens mode budget o s) in
    let is : IsState A gens next.0 = step-keeps A ok gens lead.sorted mode budget s next.0 lead.state next.1 in
    let reached = commit.2 lead.history.0 lead.history.1 in
    record {
      history = (reached.0, reached.2, lead.history.2 ∙ run-goes_on A gens mode budget lead.history.0 reached.0 reached.1);
      sorted = lead.sorted;
      few = lead.few;
      state = state_same next.0 next.2 is;
      order = order ∙ lead.order;
      jobs = queue;
      keys = keys;
      low = low;
      over = subst (λ (x : Option Outcome). IfSome x (λ outcome. Turns (run_at A gens mode budget o t) (λ y. Over outcome))) (sym going) tt;
    }
  where
    state_same : (x : State) → IsAt (run_at A gens mode budget o t) x → IsState A gens x → IsState A gens t
    state_same x at is = record {
      elements = subst (Each (IsElement A)) at.basis is.elements;
      few = omega (arith, ap length at.basis, is.few);
      sugars = subst (λ (G : List Polynomial). AreSugars G t.sugars) at.basis (subst (AreSugars x.basis) at.sugars is.sugars);
      jobs = subst (λ (G : List Polynomial). Each (IsNamed A gens G) t.queue) at.basis (Each-same (IsNamed A gens x.basis) x.queue t.queue at.jobs is.jobs);
    }

-- the jobs behind the first one
behind_first : (P : Job → Type 0) (items : List Keyed) → Each P (jobs_in items) → Each P (jobs_in (drop 1 items))
behind_first P [] h = h
behind_first P (k ∷ items) h = h.1

-- after a job that left with an entry alone the lead is one
pub lead-enters : (A : Algebra) (gens : List Polynomial) (mode : Mode) (budget : ℕ) (o : Option Outcome) (s t : State) (q new : JobQueue) (job : Job) (rest : List Job) (entry : Entry) → o ≡ None
    → Taking → IsSet (jobs_in q.items) → IsKeptRun (run_at A gens mode budget o s) q → s.queue ≡ job ∷ rest → Turns (run_at A gens mode budget o s) (λ x. On (with_entry x job entry))
    → t.entries ≡ s.entries ++ entry ∷ [] → t.basis ≡ s.basis → t.sugars ≡ s.sugars → new.order ≡ q.order → new.items ≡ drop 1 q.items → t.queue ≡ jobs_in new.items
    → IsKeptRun (run_at A gens mode budget o t) new
lead-enters A gens mode budget o s t q new job rest entry going taking set lead first turn entries basis sugars order items queue = record {
  sorted = lead.sorted;
  few = lead.few;
  state = record {
    elements = subst (Each (IsElement A)) (sym basis) lead.state.elements;
    few = omega (arith, ap length basis, lead.state.few);
    sugars = subst (λ (G : List Polynomial). AreSugars G t.sugars) (sym basis) (subst (AreSugars s.basis) (sym sugars) lead.state.sugars);
    jobs = subst (λ (G : List Polynomial). Each (IsNamed A gens G) t.queue) (sym basis) (subst (Each (IsNamed A gens s.basis)) (sym left)
        (behind_first (IsNamed A gens s.basis) q.items (subst (Each (IsNamed A gens s.basis)) lead.jobs lead.state.jobs)));
  };
  order = order ∙ lead.order;
  jobs = queue;
  keys = subst (λ (G : List Polynomial). Each (HasKey A gens G t.sugars) new.items) (sym basis)
      (subst (λ (n : List ℕ). Each (HasKey A gens s.basis n) new.items) (sym sugars)
      (subst (Each (HasKey A gens s.basis s.sugars)) (sym items) (Each-rest (HasKey A gens s.basis s.sugars) q.items lead.keys)));
  low = subst (AreLow 1) (sym sugars) lead.low;
  over = subst (λ (x : Option Outcome). IfSome x (λ outcome. Turns (run_at A gens mode budget o t) (λ y. Over outcome))) (sym going) tt;
  history = (
    with_entry lead.history.0 job entry,
    record {
      entries = ap (λ e. e ++ entry ∷ []) lead.history.1.entries ∙ sym entries;
      basis = lead.history.1.basis ∙ sym basis;
      sugars = lead.history.1.sugars ∙ sym sugars;
      jobs = subst (SameJobs (without job lead.history.0.queue)) (sym left)
          (left_jobs taking q.items lead.history.0.queue rest job set (subst (SameJobs lead.history.0.queue) lead.jobs lead.history.1.jobs) (sym lead.jobs ∙ first));
    },
    lead.history.2 ∙ run-goes_on A gens mode budget lead.history.0 (with_entry lead.history.0 job entry) (turn lead.history.0 lead.history.1),
  );
}
  where
    left : t.queue ≡ jobs_in (drop 1 q.items)
    left = queue ∙ ap jobs_in items

-- a lead that ends
pub lead-ends : (A : Algebra) (gens : List Polynomial) (mode : Mode) (budget : ℕ) (o : Option Outcome) (s : State) (q : JobQueue) (outcome : Outcome)
    → IsKeptRun (run_at A gens mode budget o s) q → Turns (run_at A gens mode budget o s) (λ x. Over outcome) → IsKeptRun (run_at A gens mode budget (Some outcome) s) q
lead-ends A gens mode budget o s q outcome lead turn = record {
  sorted = lead.sorted;
  few = lead.few;
  state = lead.state;
  order = lead.order;
  jobs = lead.jobs;
  keys = lead.keys;
  low = lead.low;
  over = λ x at. turn x (record { entries = at.entries; basis = at.basis; sugars = at.sugars; jobs = at.jobs });
  history =
      let at = lead.history.1 in
      (lead.history.0, record { entries = at.entries; basis = at.basis; sugars = at.sugars; jobs = at.jobs }, lead.history.2);
}

-- a lead at the first state
pub lead-first : (A alg : Algebra) (gens given : List Polynomial) (mode : Mode) (budget : ℕ) (s : State) (q : JobQueue) → A ≡ alg → gens ≡ given → IsGAlgebra alg
    → Each (IsPolynomial alg.p alg.order) given → length given ≤ 4096 → s.entries ≡ [] → s.basis ≡ [] → s.sugars ≡ [] → SameJobs (seeds_from 1 given) s.queue
    → q.order ≡ alg.order → s.queue ≡ jobs_in q.items → Each (HasKey alg given [] []) q.items → IsKeptRun (run_at A gens mode budget None s) q
lead-first A alg gens given mode budget s q made copied ok sorted few fresh empty none seeds order queue keys =
    subst (λ (x : Algebra). IsKeptRun (run_at x gens mode budget None s) q) (sym made) (
    subst (λ (x : List Polynomial). IsKeptRun (run_at alg x mode budget None s) q) (sym copied) record {
      sorted = sorted;
      few = few;
      state = record {
        elements = subst (Each (IsElement alg)) (sym empty) first.elements;
        few = omega (arith, ap length empty);
        sugars = subst (λ (G : List Polynomial). AreSugars G s.sugars) (sym empty) (subst (AreSugars []) (sym none) tt);
        jobs = subst (λ (G : List Polynomial). Each (IsNamed alg given G) s.queue) (sym empty) (Each-same (IsNamed alg given []) (seeds_from 1 given) s.queue seeds first.jobs);
      };
      order = order;
      jobs = queue;
      keys = subst (λ (G : List Polynomial). Each (HasKey alg given G s.sugars) q.items) (sym empty) (subst (λ (n : List ℕ). Each (HasKey alg given [] n) q.items) (sym none) keys);
      low = subst (AreLow 1) (sym none) tt;
      over = tt;
      history = (
        first_state given,
        record { entries = sym fresh; basis = sym empty; sugars = sym none; jobs = seeds },
        run-first alg given mode budget (first_state given) refl,
      );
    }
    )
  where
    first : IsState alg given (first_state given)
    first = first_state-is alg ok given sorted

-- ---- the first job

-- the law of a queue's first job: it is the least of any list of the same jobs
abbrev pub Leading : Type 0
Leading = (A : Algebra) (gens G : List Polynomial) (sugars : List ℕ) (first : Keyed) (rest : List Keyed) (job : Job) (jobs : List Job)
    → IsRising A.order (first ∷ rest) → Each (HasKey A gens G sugars) (first ∷ rest) → SameJobs (job ∷ jobs) (jobs_in (first ∷ rest)) → least_job A gens G sugars job jobs ≡ first.job

pub first-least : Leading → (run : Run) (q : JobQueue) (k : Keyed) (rest : List Keyed) → IsKeptRun run q → IsQueue q → q.items ≡ k ∷ rest
    → (s : State) (a : Job) (queue : List Job) → IsAt run s → s.queue ≡ a ∷ queue → least_job run.algebra run.generators run.basis run.sugars a queue ≡ k.job
first-least leading run q k rest lead is e s a queue at h =
    leading run.algebra run.generators run.basis run.sugars k rest a queue
    (subst (IsRising run.algebra.order) e (subst (λ (o : RowOrder). IsRising o q.items) lead.order is.rising))
    (subst (Each (HasKey run.algebra run.generators run.basis run.sugars)) e lead.keys)
    (subst (λ jobs. SameJobs jobs (jobs_in (k ∷ rest))) h (subst (SameJobs s.queue) (lead.jobs ∙ ap jobs_in e) at.jobs))

-- ---- what every lead has

-- items with their keys are the jobs with theirs
keyed-jobs : (A : Algebra) (gens G : List Polynomial) (sugars : List ℕ) (items : List Keyed) → Each (HasKey A gens G sugars) items
    → map (keyed A gens G sugars) (jobs_in items) ≡ items
keyed-jobs A gens G sugars [] keys = refl
keyed-jobs A gens G sugars (k ∷ items) keys =
    ap (λ first. first ∷ map (keyed A gens G sugars) (jobs_in items)) (λ t. with_parts (sym keys.0.0 t) (sym keys.0.1 t))
    ∙ ap (λ rest. k ∷ rest) (keyed-jobs A gens G sugars items keys.1)
  where
    with_parts : ℕ → Monomial → Keyed
    with_parts n m = record { sugar = n; mono = m; job = k.job }

-- what a run that is over did is the machine's journal
pub kept-over : (run : Run) (q : JobQueue) (outcome : Outcome) → IsKeptRun run q → run.outcome ≡ Some outcome
    → ◌≡◌ {A = Journal} (record { entries = run.entries; basis = run.basis; outcome = outcome }) (run_journal run)
kept-over run q outcome kept is =
    let h = kept.history in
    let turn : Turns run (λ s. Over outcome) = subst (λ (o : Option Outcome). IfSome o (λ x. Turns run (λ s. Over x))) is kept.over in
    run-over run run outcome (record { algebra = refl; generators = refl; mode = refl; budget = refl }) turn h.0 h.1 ∙ sym h.2

-- what a run did is the beginning of it
kept-part : (run : Run) (q : JobQueue) → IsKeptRun run q → IsPart run.entries run.basis run.outcome (run_journal run)
kept-part run q kept = record { entries = front.entries; basis = front.basis; over = by run.outcome refl }
  where
    front : IsPart run.entries run.basis None (run_journal run)
    front =
        let h = kept.history in
        subst (λ (j : Journal). IsPart run.entries run.basis None j) (sym h.2)
        (subst (λ (e : List Entry). IsPart e run.basis None (run_from run h.0)) h.1.entries
        (subst (λ (G : List Polynomial). IsPart h.0.entries G None (run_from run h.0)) h.1.basis
        (run-part run.algebra run.generators run.mode run.budget (suc (run.budget - length h.0.entries)) h.0)))

    by : (o : Option Outcome) → run.outcome ≡ o → IfSome o (λ x. run_journal run ≡ record { entries = run.entries; basis = run.basis; outcome = x })
    by None e = tt
    by (Some x) e = sym (kept-over run q x kept e)

pub lead-is : (run : Run) (q : JobQueue) → IsKeptRun run q → IsQueue q → IsLead run
lead-is run q kept is = record {
  generators = kept.sorted;
  few_generators = kept.few;
  elements = kept.state.elements;
  few_elements = kept.state.few;
  sugars = kept.state.sugars;
  low_sugars = kept.low;
  jobs = kept.state.jobs;
  set = subst IsSet (sym kept.jobs) is.set;
  rising = subst (IsRising run.algebra.order) (sym same) (subst (λ (o : RowOrder). IsRising o q.items) kept.order is.rising);
  part = kept-part run q kept;
}
  where
    same : map (keyed run.algebra run.generators run.basis run.sugars) run.jobs ≡ q.items
    same = ap (map (keyed run.algebra run.generators run.basis run.sugars)) kept.jobs ∙ keyed-jobs run.algebra run.generators run.basis run.sugars q.items kept.keys

-- ---- sugars

-- the sugars of elements up to number m are at most its bound
pub low-each : (k m : ℕ) (sugars : List ℕ) → AreLow k sugars → k + length sugars ≤ suc m → Each (λ n. n ≤ 4095 + 8190 * m) sugars
low-each k m [] low few = tt
low-each k m (n ∷ sugars) low few = (omega (arith, low.0, few), low-each (suc k) m sugars low.1 (omega (arith, few)))

-- and those of a basis are numbers that the calls on keys take
pub small-each : (sugars : List ℕ) → AreLow 1 sugars → length sugars ≤ 2048 → Each (λ n. n ≤ 33554432) sugars
small-each sugars low few = Each-weaker _ _ (λ n h. omega (arith, h)) sugars (low-each 1 2048 sugars low (omega (arith, few)))

-- one sugar more
pub low-append : (k : ℕ) (sugars : List ℕ) (n : ℕ) → AreLow k sugars → n ≤ 4095 + 8190 * (k + length sugars) → AreLow k (sugars ++ n ∷ [])
low-append k [] n low few = (omega (arith, few), tt)
low-append k (x ∷ sugars) n low few = (low.0, low-append (suc k) sugars n low.1 (omega (arith, few)))

-- the sugars with that of a new element
pub admitted-sugars : (A : Algebra) (gens : List Polynomial) (mode : Mode) (budget : ℕ) (o : Option Outcome) (s : State) (q : JobQueue) (job : Job) (entry : Entry) (element : Polynomial) (sugar : ℕ)
    → IsGAlgebra A → IsKeptRun (run_at A gens mode budget o s) q → Turns (run_at A gens mode budget o s) (λ x. On (admits mode A.order.vars job entry element sugar x))
    → AreSugars (s.basis ++ element ∷ []) (s.sugars ++ sugar ∷ [])
admitted-sugars A gens mode budget o s q job entry element sugar ok lead turn =
    let next : IsState A gens (admits mode A.order.vars job entry element sugar s) =
    step-keeps A ok gens lead.sorted mode budget s (admits mode A.order.vars job entry element sugar s) lead.state (turn s (at_itself A gens mode budget o s)) in
    next.sugars

-- a job that is no pair has no witness
pub no-witness : (G : List Polynomial) (jobs : List Job) (job : Job) → ((s : ℕ) × (job ≡ Seed s)) ⊎ ((i : ℕ) × (v : ℕ) × (job ≡ Right i v)) → None ≡ chain_witness G jobs job
unfolding chain_witness
no-witness G jobs (Seed s) h = refl
no-witness G jobs (Right i v) h = refl
no-witness G jobs (Pair i j) (inl h) = cc
no-witness G jobs (Pair i j) (inr h) = cc
