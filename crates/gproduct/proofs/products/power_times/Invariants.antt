use Rattle.std.proofs.Common.{◌≡◌, ◌+◌, ◌-◌, ◌≤◌, [], ◌∷◌, length}
use Rattle.monomials.specs.Monomials.{power}
use Rattle.monomials.specs.Polynomials.{IsPolynomial, poly_degree}
use Rattle.word_model.specs.Products.{product}
use Rattle.gproduct.specs.Seats.{Keeps}
use Rattle.gproduct.specs.Inside.Factors.{factor_count}
use Rattle.gproduct.proofs.products.power_times.Given as goal

abbrev pub invariant-loop-left : goal.invariant-loop-left
invariant-loop-left l = record {
  counted : factor_count l.pending.open.items ≡ length l.pending.factors.items;
  empty : l.pending.open.items ≡ [];
  at_most : l.left ≤ l.fn.exponent;
  within : l.left + poly_degree l.product ≤ 4095;
  value : l.product ≡ product l.fn.seat.algebra ((1, power l.fn.seat.algebra.order.vars l.fn.v (l.fn.exponent - l.left)) ∷ []) l.fn.f;
  sorted : IsPolynomial l.fn.seat.algebra.p l.fn.seat.algebra.order l.product;
  algebra : l.seat.algebra ≡ l.fn.seat.algebra;
  kept : Keeps l.fn.seat l.seat;
}

abbrev pub decreases-loop-left : goal.decreases-loop-left
decreases-loop-left l = l.left
