-- Desks: what leader and workers share, as far as contracts see it.
use Rattle.std.specs.Prelude.{◌≡◌, ℕ, List}
use Rattle.monomials.specs.Polynomials.{Polynomial, Each, IsPolynomial}
use Rattle.word_model.specs.Words.{Algebra}

-- the algebra and the generators of a desk, and its greatest seat. What its board, its table and its shelf have, other
-- threads may change at any time.
pub record DeskValue : Type 0 where
  pub algebra : Algebra
  pub generators : List Polynomial
  pub workers : ℕ

-- The table is of the desk's algebra, and the generators are polynomials of it.
pub record IsDesk (A : Algebra) (desk : DeskValue) : Type 0 where
  pub table : A ≡ desk.algebra
  pub sorted : Each (IsPolynomial desk.algebra.p desk.algebra.order) desk.generators
