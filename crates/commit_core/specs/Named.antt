-- The jobs of a run.
use Rattle.std.specs.Prelude.{List, length}
use Rattle.monomials.specs.Polynomials.{Polynomial}
use Rattle.word_model.specs.Words.{Algebra}
use Rattle.word_model.specs.Jobs.{IsJob, NamesNonzero}
use Rattle.word_model.specs.declared.records.Job.{Job}

-- the job names a nonzero generator, two nonzero elements, or one of them and a variable
abbrev pub IsNamed : Algebra → List Polynomial → List Polynomial → Job → Type 0
IsNamed A gens G job = IsJob (length gens) (length G) A.order.vars job × NamesNonzero gens G job
