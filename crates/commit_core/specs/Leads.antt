-- A lead: a run of the machine that one thread goes on with, a step at a time.
use Rattle.std.specs.Prelude.{◌≡◌, ℕ, suc, ◌+◌, ◌*◌, ◌≤◌, ◌++◌, ◌∷◌, [], List, length, map, Option, Some, IfSome, Ok, Err}
use Rattle.std.specs.declared.alloc.AllocError.{AllocError}
use Rattle.std.specs.declared.result.Result.{Result}
use Rattle.monomials.specs.Polynomials.{Polynomial, Each, IsPolynomial}
use Rattle.word_model.specs.Words.{Algebra}
use Rattle.word_model.specs.Jobs.{job_sugar, key_monomial, AreSugars}
use Rattle.word_model.specs.Machine.{State, Turn, On, Over, Journal, step, machine, IsElement, most_elements}
use Rattle.word_model.specs.declared.records.Job.{Job}
use Rattle.word_model.specs.declared.records.Mode.{Mode}
use Rattle.word_model.specs.declared.records.Entry.{Entry}
use Rattle.word_model.specs.declared.records.Entry.TheVariants.{Skipped, Zero, New}
use Rattle.word_model.specs.declared.records.Outcome.{Outcome}
use Rattle.pair_strategy.specs.Queues.{SameJobs, IsRising, IsSet}
use Rattle.pair_strategy.specs.declared.keys.Keyed.{Keyed}
use Rattle.commit_core.specs.Named.{IsNamed}
use Rattle.commit_core.specs.declared.lead.Committed.{Committed}
use Rattle.commit_core.specs.declared.lead.Committed.TheVariants.{Added, Over as Ended}

-- what a lead runs over, what it did, the sugars of its elements, the jobs that wait, in rising order of their keys, and
-- its outcome where it is over
pub record Run : Type 0 where
  pub algebra : Algebra
  pub generators : List Polynomial
  pub mode : Mode
  pub budget : ℕ
  pub entries : List Entry
  pub basis : List Polynomial
  pub sugars : List ℕ
  pub jobs : List Job
  pub outcome : Option Outcome

-- a job with the sugar and the monomial of its key
abbrev pub keyed : Algebra → List Polynomial → List Polynomial → List ℕ → Job → Keyed
keyed A gens G sugars job = record { sugar = job_sugar gens G sugars job; mono = key_monomial A gens G job; job = job }

-- sugars of the elements from number k on, of which that of number k is at most 4095 + 8190 k
abbrev pub AreLow : ℕ → List ℕ → Type 0
AreLow k [] = Unit {0}
AreLow k (n ∷ sugars) = (n ≤ 4095 + 8190 * k) × AreLow (suc k) sugars

-- These entries and elements are the first ones of the journal, and where they have an outcome, they are the journal.
pub record IsPart (done : List Entry) (found : List Polynomial) (outcome : Option Outcome) (journal : Journal) : Type 0 where
  pub entries : (more : List Entry) × (journal.entries ≡ done ++ more)
  pub basis : (more : List Polynomial) × (journal.basis ≡ found ++ more)
  pub over : IfSome outcome (λ o. journal ≡ record { entries = done; basis = found; outcome = o })

-- the journal of the machine that the run is of
abbrev pub run_journal : Run → Journal
run_journal run = machine run.algebra run.generators run.mode run.budget

-- What every lead has. The generators are polynomials of the algebra, at most 4096, and the elements are nonzero
-- polynomials of it, at most as many as a basis may have. Each has a sugar, which is at least its degree, and for the
-- k-th at most 4095 + 8190 k. Each job that waits names a nonzero generator, or nonzero elements and variables that there
-- are; no job waits twice, and they stand in rising order of their keys. What the lead did is the beginning of the
-- machine's journal, and all of it where the lead is over.
pub record IsLead (run : Run) : Type 0 where
  pub generators : Each (IsPolynomial run.algebra.p run.algebra.order) run.generators
  pub few_generators : length run.generators ≤ 4096
  pub elements : Each (IsElement run.algebra) run.basis
  pub few_elements : length run.basis ≤ most_elements
  pub sugars : AreSugars run.basis run.sugars
  pub low_sugars : AreLow 1 run.sugars
  pub jobs : Each (IsNamed run.algebra run.generators run.basis) run.jobs
  pub set : IsSet run.jobs
  pub rising : IsRising run.algebra.order (map (keyed run.algebra run.generators run.basis run.sugars) run.jobs)
  pub part : IsPart run.entries run.basis run.outcome (run_journal run)

-- the run is at this state of the machine: its entries, its basis with its sugars, and the same jobs, in whatever order
-- the state has them
pub record IsAt (run : Run) (s : State) : Type 0 where
  pub entries : s.entries ≡ run.entries
  pub basis : s.basis ≡ run.basis
  pub sugars : s.sugars ≡ run.sugars
  pub jobs : SameJobs s.queue run.jobs

-- one step of the machine that the run is of
abbrev pub run_step : Run → State → Turn
run_step run s = step run.algebra run.generators run.mode run.budget s

-- the two are runs of the same machine
pub record IsSameRun (old new : Run) : Type 0 where
  pub algebra : new.algebra ≡ old.algebra
  pub generators : new.generators ≡ old.generators
  pub mode : new.mode ≡ old.mode
  pub budget : new.budget ≡ old.budget

-- What a commit does. Where it adds an entry, it is one step of the machine: whatever state the run is at, the step from
-- there leads to one that the new run is at. Where it ends, the machine ends there, and only the outcome is noted.
-- Where memory is wanting, nothing is changed.
abbrev pub IsCommit : Run → Run → Result Committed AllocError → Type 0
IsCommit old new (Ok Added) =
    IsSameRun old new × (new.outcome ≡ old.outcome)
    × ((s : State) → IsAt old s → (s' : State) × (run_step old s ≡ On s') × IsAt new s')
IsCommit old new (Ok (Ended outcome)) =
    ((s : State) → IsAt old s → run_step old s ≡ Over outcome) × (new ≡ record old { outcome = Some outcome })
IsCommit old new (Err e) = new ≡ old

-- ---- entries

-- the job that an entry tells of
abbrev pub job_of : Entry → Job
job_of (Skipped job by) = job
job_of (Zero job trace) = job
job_of (New job trace scale) = job
