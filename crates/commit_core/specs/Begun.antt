-- Where the reduction of a job begins, and the entry that it leaves. Private contracts alone cite this.
use Rattle.std.specs.Prelude.{◌≡◌, List, Some}
use Rattle.monomials.specs.Polynomials.{Polynomial}
use Rattle.word_model.specs.Words.{Algebra}
use Rattle.word_model.specs.Reduction.{reduce}
use Rattle.word_model.specs.Jobs.{start_of}
use Rattle.word_model.specs.declared.records.Job.{Job}
use Rattle.word_model.specs.declared.records.TraceStep.{TraceStep}
use Rattle.word_model.specs.declared.records.Entry.{Entry}
use Rattle.word_model.specs.declared.records.Entry.TheVariants.{Skipped, Zero, New}
use Rattle.left_reduce.specs.Inside.Steps.{after_steps}

-- the reduction of the job's start goes on from h, behind these steps
abbrev pub IsBegun : Algebra → List Polynomial → List Polynomial → Job → Polynomial → List TraceStep → Type 0
IsBegun A gens G job h trace =
    (start : Polynomial) × (start_of A gens G job ≡ Some start) × (reduce A G start ≡ after_steps trace (reduce A G h))

-- the entry of this job with these steps
abbrev pub Records : Entry → Job → List TraceStep → Type 0
Records (Skipped j by) job trace = ⊥
Records (Zero j t) job trace = (j ≡ job) × (t ≡ trace)
Records (New j t scale) job trace = (j ≡ job) × (t ≡ trace)
