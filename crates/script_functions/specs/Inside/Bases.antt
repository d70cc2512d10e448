-- What a run and its finished list are to the generators.
use Rattle.std.specs.Prelude.{◌≡◌, ℕ, ◌≤◌, List, length, Some}
use Rattle.monomials.specs.Polynomials.{Polynomial}
use Rattle.word_model.specs.Words.{Algebra}
use Rattle.word_model.specs.Finished.{finished}
use Rattle.word_model.specs.Machine.{machine}
use Rattle.word_model.specs.declared.records.Mode.{Mode}
use Rattle.word_model.specs.declared.records.Outcome.TheVariants.{Finished}
use Rattle.script_model.specs.Functions.{Basis}
use Rattle.script_values.specs.Values.{ArePolynomials}

-- the run is finished, and the list is that of its basis
pub record IsBasisOf (A : Algebra) (mode : Mode) (budget : ℕ) (gens : List Polynomial) (found : Basis) : Type 0 where
  pub run : found.0 ≡ machine A gens mode budget
  pub ended : found.0.outcome ≡ Finished
  pub list : finished A found.0.basis ≡ Some found.1
  pub polynomials : ArePolynomials A found.1.list
  pub short : length found.1.list ≤ 2048
