-- Starts of jobs that were reduced ahead, by the first elements of a basis.
use Rattle.std.specs.Prelude.{◌≡◌, ℕ, ◌+◌, ◌≤◌, ◌++◌, nat_le, Bool, true, [], List, length, take, Option, Some, None, if◌then◌else◌}
use Rattle.monomials.specs.Polynomials.{Polynomial}
use Rattle.word_model.specs.Words.{Algebra}
use Rattle.word_model.specs.Reduction.{reduce}
use Rattle.word_model.specs.Jobs.{start_of, IsJob}
use Rattle.word_model.specs.declared.records.Job.{Job}
use Rattle.word_model.specs.declared.records.Job.TheVariants.{Seed, Pair, Right}
use Rattle.word_model.specs.declared.records.TraceStep.{TraceStep}
use Rattle.word_model.specs.declared.records.Entry.{Entry}
use Rattle.word_model.specs.declared.records.Entry.TheVariants.{Skipped, Zero, New}
use Rattle.left_reduce.specs.Reductions.{start_count}
use Rattle.run_records.specs.Ahead.{ReducedStart}

-- The steps and the rest are those of the start of this job over these elements. Whether a step was left that is
-- undefined a Spec doesn't say: a commit finds it again.
abbrev pub IsAhead : Algebra → List Polynomial → List Polynomial → ReducedStart → Type 0
IsAhead A gens G spec =
    (start : Polynomial) × (start_of A gens G spec.job ≡ Some start)
    × ((reduce A G start).trace ≡ spec.trace) × ((reduce A G start).rest ≡ spec.rest)

-- A Spec is good for these generators and this basis where the basis has as many elements as its prefix, its job names a
-- generator that there is, or elements of the prefix and a variable, and it is the reduction of that job's start by the
-- elements of the prefix.
pub record IsGood (A : Algebra) (gens G : List Polynomial) (spec : ReducedStart) : Type 0 where
  pub within : spec.prefix ≤ length G
  pub named : IsJob (length gens) spec.prefix A.order.vars spec.job
  pub ahead : IsAhead A gens (take spec.prefix G) spec

-- whether the elements that a job names are among the first m
abbrev pub names_within : ℕ → Job → Bool
names_within m (Seed s) = true
names_within m (Pair i j) = nat_le j m
names_within m (Right i v) = nat_le i m

abbrev pub spec_from : Algebra → List Polynomial → ℕ → Job → Option Polynomial → Option ReducedStart
spec_from A H m job None = None
spec_from A H m job (Some start) =
    Some (record { job = job; prefix = m; trace = (reduce A H start).trace; rest = (reduce A H start).rest })

-- the Spec of a job by these m elements: none where they lack one that the job names, or the start is undefined
abbrev pub spec_over : Algebra → List Polynomial → List Polynomial → ℕ → Job → Option ReducedStart
spec_over A gens H m job = if names_within m job then spec_from A H m job (start_of A gens H job) else None

-- the steps that were made ahead
abbrev pub steps_of : Option ReducedStart → List TraceStep
steps_of None = []
steps_of (Some spec) = spec.trace

-- how many products make the start of a job, where it was not made ahead
abbrev pub start_left : Option ReducedStart → Job → ℕ
start_left None job = start_count job
start_left (Some spec) job = 0

-- the steps of an entry begin with those that were made ahead, and a product was made for its start, unless that was
-- made ahead, and for each further step
abbrev pub GoesOn : Option ReducedStart → Job → List TraceStep → ℕ → ℕ → Type 0
GoesOn spec job trace old new =
    (more : List TraceStep) × (trace ≡ steps_of spec ++ more) × (new ≡ old + (start_left spec job + length more))

-- how a commit that adds an entry counts products
abbrev pub IsCounted : Option ReducedStart → Entry → ℕ → ℕ → Type 0
IsCounted spec (Skipped job by) old new = new ≡ old
IsCounted spec (Zero job trace) old new = GoesOn spec job trace old new
IsCounted spec (New job trace scale) old new = GoesOn spec job trace old new
