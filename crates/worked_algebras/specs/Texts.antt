-- What is written of jobs, traces and entries.
use Rattle.std.specs.Prelude.{ℕ, List, [], ◌∷◌, ◌++◌, codes}
use Rattle.std.specs.Fmt.{decimal}
use Rattle.monomials.specs.Monomials.{Monomial}
use Rattle.word_model.specs.declared.records.Job.{Job}
use Rattle.word_model.specs.declared.records.Job.TheVariants.{Seed, Pair, Right}
use Rattle.word_model.specs.declared.records.TraceStep.{TraceStep}
use Rattle.word_model.specs.declared.records.Entry.{Entry}
use Rattle.word_model.specs.declared.records.Entry.TheVariants.{Skipped, Zero, New}

-- an exponent behind a dot
abbrev pub exponent_text : ℕ → List ℕ
exponent_text e = codes "." ++ decimal e

abbrev pub exponents_text : Monomial → List ℕ
exponents_text [] = []
exponents_text (e ∷ mono) = exponent_text e ++ exponents_text mono

-- a number and exponents, as ` 2.1.0`
abbrev pub term_text : ℕ → Monomial → List ℕ
term_text coef mono = (codes " " ++ decimal coef) ++ exponents_text mono

-- a job, as ` Pair 1 2`
abbrev pub job_text : Job → List ℕ
job_text (Seed s) = codes " Seed " ++ decimal s
job_text (Pair i j) = codes " Pair " ++ (decimal i ++ (codes " " ++ decimal j))
job_text (Right i v) = codes " Right " ++ (decimal i ++ (codes " " ++ decimal v))

-- a step, as ` 2.1.0 by 1` with the number of its element
abbrev pub step_text : TraceStep → List ℕ
step_text s = term_text s.coef s.mono ++ (codes " by " ++ decimal s.index)

abbrev pub trace_text : List TraceStep → List ℕ
trace_text [] = []
trace_text (s ∷ trace) = step_text s ++ trace_text trace

-- an entry: its job, its trace and what it brought
abbrev pub entry_text : Entry → List ℕ
entry_text (Skipped job by) = codes "Skipped" ++ (job_text job ++ (codes " by " ++ decimal by))
entry_text (Zero job trace) = codes "Zero" ++ (job_text job ++ trace_text trace)
entry_text (New job trace scale) = codes "New" ++ (job_text job ++ (trace_text trace ++ (codes " times " ++ decimal scale)))

-- entries, one a line
abbrev pub entries_text : List Entry → List ℕ
entries_text [] = []
entries_text (entry ∷ entries) = (entry_text entry ++ codes "\n") ++ entries_text entries
