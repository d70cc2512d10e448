use Rattle.std.proofs.Common.{◌≡◌, ◌++◌, take, drop, length}
use Rattle.monomials.specs.Polynomials.{Each, IsPolynomial}
use Rattle.word_model.specs.Cofactors.{row_sub, row_multiple, multiple_reaches}
use Rattle.gproduct.specs.Seats.{Keeps}
use Rattle.cofactors.proofs.multiples.subtract.Given as goal

abbrev pub invariant-loop-place : goal.invariant-loop-place
invariant-loop-place g l = record {
  value : take l.place l.entries ++ row_sub l.fn.seat.algebra (drop l.place l.entries) (row_multiple l.fn.seat.algebra l.term.coef l.term.mono (drop l.place l.others))
      ≡ row_sub l.fn.seat.algebra l.fn.entries (row_multiple l.fn.seat.algebra l.term.coef l.term.mono l.others);
  sorted : Each (IsPolynomial l.fn.seat.algebra.p l.fn.seat.algebra.order) l.entries;
  same_length : length l.entries ≡ length l.fn.entries;
  reach : multiple_reaches l.term.mono l.others ≡ multiple_reaches l.term.mono (drop l.place l.others);
  algebra : l.seat.algebra ≡ l.fn.seat.algebra;
  kept : Keeps l.fn.seat l.seat;
}
