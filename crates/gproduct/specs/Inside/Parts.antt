-- Sums of many polynomials.
use Rattle.std.specs.Prelude.{ℕ, List}
use Rattle.monomials.specs.Orders.{RowOrder, order_cmp}
use Rattle.monomials.specs.Polynomials.{Polynomial}
use Rattle.gpoly.specs.Sums.{poly_sum}
pub use Rattle.gpoly.specs.Sums.{AreSorted}

-- the sum of these polynomials
abbrev pub sum_of : ℕ → RowOrder → List Polynomial → Polynomial
sum_of p order fs = poly_sum (order_cmp order.rows) p fs
