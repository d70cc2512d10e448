-- Reductions that were made ahead.
use Rattle.std.specs.Prelude.{ℕ, List}
use Rattle.monomials.specs.Polynomials.{Polynomial}
use Rattle.word_model.specs.declared.records.Job.{Job}
use Rattle.word_model.specs.declared.records.TraceStep.{TraceStep}

-- the start of a job, reduced by the first elements of a basis, as many as the prefix says: the steps, and what they left
pub record ReducedStart : Type 0 where
  pub job : Job
  pub prefix : ℕ
  pub trace : List TraceStep
  pub rest : Polynomial
