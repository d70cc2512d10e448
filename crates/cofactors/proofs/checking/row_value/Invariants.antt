use Rattle.std.proofs.Common.{◌≡◌, ◌≤◌, drop, length}
use Rattle.monomials.specs.Polynomials.{IsPolynomial}
use Rattle.word_model.specs.Cofactors.{row_value}
use Rattle.gproduct.specs.Seats.{Keeps}
use Rattle.cofactors.proofs.checking.row_value.Given as goal

abbrev pub invariant-loop-place : goal.invariant-loop-place
invariant-loop-place g l = record {
  value : l.value ≡ row_value l.fn.seat.algebra (drop l.place l.entries) (drop l.place l.gens);
  sorted : IsPolynomial l.fn.seat.algebra.p l.fn.seat.algebra.order l.value;
  in_range : l.place ≤ length l.entries;
  algebra : l.seat.algebra ≡ l.fn.seat.algebra;
  kept : Keeps l.fn.seat l.seat;
}
