use Rattle.std.proofs.Common.{◌≡◌, Ok}
use Rattle.monomials.specs.Polynomials.{IsPolynomial}
use Rattle.gproduct.specs.Seats.{Keeps}
use Rattle.script_model.specs.Operations.{power_of}
use Rattle.script_values.proofs.operations.power_of.Given as goal

abbrev pub invariant-loop-turn : goal.invariant-loop-turn
invariant-loop-turn l = record {
  value : power_of l.fn.seat.algebra l.f l._turn ≡ Ok l.power;
  polynomial : IsPolynomial l.fn.seat.algebra.p l.fn.seat.algebra.order l.power;
  seat : l.seat.algebra ≡ l.fn.seat.algebra;
  kept : Keeps l.fn.seat l.seat;
}
