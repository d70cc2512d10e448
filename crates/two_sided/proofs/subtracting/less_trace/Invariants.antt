use Rattle.std.proofs.Common.{◌≡◌, true, drop, length}
use Rattle.monomials.specs.Orders.{order_cmp}
use Rattle.monomials.specs.Polynomials.{Each}
use Rattle.gpoly.specs.Sums.{poly_sum, AreSorted}
use Rattle.word_model.specs.Certificates.{less_trace}
use Rattle.gproduct.specs.Seats.{Keeps}
use Rattle.two_sided.specs.Checks.{IsTerm, names_elements, trace_within}
use Rattle.two_sided.proofs.subtracting.less_trace.Given as goal

abbrev pub invariant-loop-step : goal.invariant-loop-step
invariant-loop-step g l = record {
  value :
      less_trace l.fn.seat.algebra l.basis (poly_sum (order_cmp l.fn.seat.algebra.order.rows) l.fn.seat.algebra.p l.rest) (drop l.step-index l.made)
      ≡ less_trace l.fn.seat.algebra l.basis l.fn.start l.made;
  sorted : AreSorted l.fn.seat.algebra.p l.fn.seat.algebra.order l.rest;
  terms : Each (IsTerm l.fn.seat.algebra) (drop l.step-index l.made);
  named : names_elements (length l.basis) (drop l.step-index l.made) ≡ true;
  reach : trace_within l.basis l.made ≡ trace_within l.basis (drop l.step-index l.made);
  algebra : l.seat.algebra ≡ l.fn.seat.algebra;
  kept : Keeps l.fn.seat l.seat;
}
