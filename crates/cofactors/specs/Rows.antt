-- Rows of polynomials of an algebra: words of the private functions and of lemmas, which no public contract cites.
use Rattle.std.specs.Prelude.{◌≡◌, ℕ, ◌<◌, ◌≤◌, length}
use Rattle.monomials.specs.Monomials.{Monomial}
use Rattle.monomials.specs.Polynomials.{Each, IsPolynomial}
use Rattle.word_model.specs.Words.{Algebra}
use Rattle.word_model.specs.Finished.{FinishedList}
use Rattle.word_model.specs.Cofactors.{Row}
use Rattle.word_model.specs.Inside.Sound.{IsStep}

-- a row over g generators, of polynomials of the algebra
pub record IsRow (A : Algebra) (g : ℕ) (row : Row) : Type 0 where
  pub one_each : length row ≡ g
  pub sorted : Each (IsPolynomial A.p A.order) row

-- a term by which rows are multiplied: a number of the field other than zero, and a monomial of the algebra
pub record IsFactor (A : Algebra) (c : ℕ) (m : Monomial) : Type 0 where
  pub some : 0 < c
  pub small : c < A.p
  pub vars : length m ≡ A.order.vars

-- the rows of finished elements go on from rows of the basis, by steps over the same rows
pub record AreTails (A : Algebra) (m : ℕ) (F : FinishedList) : Type 0 where
  pub origins : Each (λ o. (1 ≤ o) × (o ≤ m)) F.origin
  pub tails : Each (Each (IsStep A m)) F.tails
  pub one_each : length F.origin ≡ length F.tails
