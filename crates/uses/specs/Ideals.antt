-- What is seen of a left ideal.
use Rattle.std.specs.Prelude.{List}
use Rattle.monomials.specs.Polynomials.{Polynomial}
use Rattle.word_model.specs.Words.{Algebra}

-- its algebra, the operators that generate it, and its reduced basis
pub record Ideal : Type 0 where
  pub algebra : Algebra
  pub generators : List Polynomial
  pub basis : List Polynomial
