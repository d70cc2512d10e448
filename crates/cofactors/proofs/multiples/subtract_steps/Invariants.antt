use Rattle.std.proofs.Common.{◌≡◌, drop, length}
use Rattle.monomials.specs.Polynomials.{Each, IsPolynomial}
use Rattle.word_model.specs.Cofactors.{less_steps, steps_reach}
use Rattle.gproduct.specs.Seats.{Keeps}
use Rattle.cofactors.proofs.multiples.subtract_steps.Given as goal

abbrev pub invariant-loop-step : goal.invariant-loop-step
invariant-loop-step g l = record {
  value : less_steps l.fn.seat.algebra l.rows l.entries (drop l.step-index l.made) ≡ less_steps l.fn.seat.algebra l.rows l.fn.entries l.made;
  sorted : Each (IsPolynomial l.fn.seat.algebra.p l.fn.seat.algebra.order) l.entries;
  same_length : length l.entries ≡ length l.fn.entries;
  reach : steps_reach l.rows l.made ≡ steps_reach l.rows (drop l.step-index l.made);
  algebra : l.seat.algebra ≡ l.fn.seat.algebra;
  kept : Keeps l.fn.seat l.seat;
}
