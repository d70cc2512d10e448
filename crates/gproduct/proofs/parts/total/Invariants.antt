use Rattle.std.proofs.Common.{◌≡◌, length}
use Rattle.monomials.specs.Orders.{order_cmp}
use Rattle.monomials.specs.Polynomials.{IsPolynomial, poly_add}
use Rattle.gproduct.specs.Inside.Parts.{sum_of, AreSorted}
use Rattle.gproduct.proofs.parts.total.Given as goal

abbrev pub invariant-loop-part : goal.invariant-loop-part
invariant-loop-part l = record {
  parts : AreSorted l.field l.order l.parts.items;
  sorted : IsPolynomial l.field l.order l.sum;
  sum : poly_add (order_cmp l.order.rows) l.field (sum_of l.field l.order l.parts.items) l.sum ≡ sum_of l.field l.order l.fn.parts.items;
}

abbrev pub decreases-loop-part : goal.decreases-loop-part
decreases-loop-part l = length l.parts.items
