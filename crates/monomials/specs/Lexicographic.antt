-- Orders that compare lists of whole numbers.
use Rattle.std.specs.Prelude.{◌≡◌, ℕ, List, length}
use Rattle.std.specs.Ordering.{nat_cmp}
use Rattle.std.specs.Cmp.Lexicographic.{slice_cmp}
use Rattle.monomials.specs.Monomials.{Monomial}
use Rattle.monomials.specs.Orders.{RowOrder, order_cmp}

-- Each monomial has a list of whole numbers, of one length at all monomials in the order's variables,
-- and two monomials compare as their lists do, lexicographically.
pub record IsLexicographic (order : RowOrder) : Type 0 where
  pub places : ℕ
  pub values : Monomial → List ℕ
  pub one_length : (m : Monomial) → length m ≡ order.vars → length (values m) ≡ places
  pub same : (a b : Monomial) → order_cmp order.rows a b ≡ slice_cmp nat_cmp (values a) (values b)
