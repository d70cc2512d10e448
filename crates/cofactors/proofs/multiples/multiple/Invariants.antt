use Rattle.std.proofs.Common.{◌≡◌, ◌++◌, drop}
use Rattle.monomials.specs.Polynomials.{Each, IsPolynomial}
use Rattle.word_model.specs.Cofactors.{row_multiple, multiple_reaches}
use Rattle.gproduct.specs.Seats.{Keeps}
use Rattle.cofactors.proofs.multiples.multiple.Given as goal

abbrev pub invariant-loop-entry : goal.invariant-loop-entry
invariant-loop-entry g l = record {
  value : l.multiples.items ++ row_multiple l.fn.seat.algebra l.term.coef l.term.mono (drop l.entry-index l.entries)
      ≡ row_multiple l.fn.seat.algebra l.term.coef l.term.mono l.entries;
  sorted : Each (IsPolynomial l.fn.seat.algebra.p l.fn.seat.algebra.order) l.multiples.items;
  reach : multiple_reaches l.term.mono l.entries ≡ multiple_reaches l.term.mono (drop l.entry-index l.entries);
  algebra : l.seat.algebra ≡ l.fn.seat.algebra;
  kept : Keeps l.fn.seat l.seat;
}
