-- What a left ideal keeps of how its basis was made.
use Rattle.std.specs.Prelude.{◌≡◌, ℕ, ◌≤◌, List, length, Some}
use Rattle.monomials.specs.Polynomials.{Polynomial, Each, IsPolynomial}
use Rattle.word_model.specs.Words.{Algebra}
use Rattle.word_model.specs.Finished.{FinishedList, finished}
use Rattle.word_model.specs.Machine.{Journal, IsElement, machine}
use Rattle.word_model.specs.declared.records.Mode.TheVariants.{Left}
use Rattle.word_model.specs.declared.records.Outcome.TheVariants.{Finished}

-- J is a finished left run over the generators, and F is its finished list
pub record IsSolved (A : Algebra) (gens : List Polynomial) (J : Journal) (F : FinishedList) : Type 0 where
  pub sorted : Each (IsPolynomial A.p A.order) gens
  pub few : length gens ≤ 4096
  pub run : (budget : ℕ) × (J ≡ machine A gens Left budget)
  pub over : J.outcome ≡ Finished
  pub list : finished A J.basis ≡ Some F
  pub elements : Each (IsElement A) F.list
  pub short : length F.list ≤ 2048
