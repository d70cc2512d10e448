-- Rows that tell all monomials apart.
use Rattle.std.specs.Prelude.{◌≡◌, length}
use Rattle.std.specs.declared.cmp.Ordering.TheVariants.{Equal}
use Rattle.monomials.specs.Monomials.{Monomial}
use Rattle.monomials.specs.Orders.{RowOrder, rows_cmp}

-- two monomials in the order's variables that have equal values in all its rows are equal
pub record IsSeparating (order : RowOrder) : Type 0 where
  pub same : (a b : Monomial) → length a ≡ order.vars → length b ≡ order.vars → rows_cmp order.rows a b ≡ Equal → a ≡ b
