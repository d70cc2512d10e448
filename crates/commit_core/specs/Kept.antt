-- What the code of a lead keeps, and the turns that it takes. Private contracts and the model of `Lead` alone cite this.
use Rattle.std.specs.Prelude.{◌≡◌, suc, ◌-◌, ◌≤◌, true, false, Bool, length, IfSome}
use Rattle.monomials.specs.Polynomials.{Each, IsPolynomial}
use Rattle.word_model.specs.Reduction.{Reduced as Reduction}
use Rattle.word_model.specs.Machine.{State, Turn, Over, Journal, run_within, IsState}
use Rattle.pair_strategy.specs.Queues.{JobQueue, jobs_in, HasKey}
use Rattle.left_reduce.specs.Reductions.{GoneOn}
use Rattle.left_reduce.specs.declared.reducing.Ended.{Ended}
use Rattle.left_reduce.specs.declared.reducing.Ended.TheVariants.{Zero, Irreducible, DegreeOver}
use Rattle.commit_core.specs.Leads.{Run, IsAt, AreLow, run_step, run_journal}
use Rattle.commit_core.specs.declared.lead.Lead.TheInside.{Inside}

-- the run as a state of the machine
abbrev pub state_of : Run → State
state_of run = record { entries = run.entries; basis = run.basis; sugars = run.sugars; queue = run.jobs }

-- at each state that the run is at, the step of the machine is this turn
abbrev pub Turns : Run → (State → Turn) → Type 0
Turns run turn = (s : State) → IsAt run s → run_step run s ≡ turn s

-- the journal of the run from this state on
abbrev pub run_from : Run → State → Journal
run_from run s = run_within run.algebra run.generators run.mode run.budget (suc (run.budget - length s.entries)) s

-- The generators are polynomials of the algebra, what the run has is a state of the machine, the queue has its jobs with
-- their keys, no sugar is above its bound, a run that is over ends where the machine does, and the machine came to some
-- state that the run is at. With what every queue has it makes an `IsLead`.
pub record IsKeptRun (run : Run) (queue : JobQueue) : Type 0 where
  pub sorted : Each (IsPolynomial run.algebra.p run.algebra.order) run.generators
  pub few : length run.generators ≤ 4096
  pub state : IsState run.algebra run.generators (state_of run)
  pub order : queue.order ≡ run.algebra.order
  pub jobs : run.jobs ≡ jobs_in queue.items
  pub keys : Each (HasKey run.algebra run.generators run.basis run.sugars) queue.items
  pub low : AreLow 1 run.sugars
  pub over : IfSome run.outcome (λ outcome. Turns run (λ s. Over outcome))
  pub history : (s : State) × IsAt run s × (run_journal run ≡ run_from run s)

-- the run of a lead as code keeps it
abbrev pub kept_run : Inside → Run
kept_run lead = record {
  algebra = lead.algebra.value;
  generators = lead.generators.items;
  mode = lead.mode;
  budget = lead.budget;
  entries = lead.progress.entries.items;
  basis = lead.progress.basis.items;
  sugars = lead.progress.sugars.items;
  jobs = jobs_in lead.progress.queue.items;
  outcome = lead.outcome;
}

abbrev pub IsKept : Inside → Type 0
IsKept lead = IsKeptRun (kept_run lead) lead.progress.queue

-- whether a reduction ended before a step that is undefined
abbrev pub is_over : Ended → Bool
is_over Zero = false
is_over Irreducible = false
is_over DegreeOver = true

-- a reduction that goes on from no steps, as that from the start
abbrev pub reduction_of : GoneOn → Reduction
reduction_of r = record { trace = r.trace; rest = r.rest; over = is_over r.ended }
