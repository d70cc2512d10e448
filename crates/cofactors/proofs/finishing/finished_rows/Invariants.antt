use Rattle.std.proofs.Common.{◌≡◌, ℕ, ◌++◌, drop}
use Rattle.monomials.specs.Polynomials.{Each}
use Rattle.word_model.specs.Cofactors.{finished_rows, tails_reach}
use Rattle.gproduct.specs.Seats.{Keeps}
use Rattle.cofactors.specs.Rows.{IsRow}
use Rattle.cofactors.proofs.finishing.finished_rows.Given as goal

abbrev pub invariant-loop-place : goal.invariant-loop-place
invariant-loop-place g l = record {
  value : l.finished.items ++ finished_rows l.fn.seat.algebra l.rows (drop l.place l.origin.items) (drop l.place l.tails.items)
      ≡ finished_rows l.fn.seat.algebra l.rows l.origin.items l.tails.items;
  sorted : (n : ℕ) → Each (IsRow l.fn.seat.algebra n) l.rows → Each (IsRow l.fn.seat.algebra n) l.finished.items;
  reach : tails_reach l.rows l.tails.items ≡ tails_reach l.rows (drop l.place l.tails.items);
  algebra : l.seat.algebra ≡ l.fn.seat.algebra;
  kept : Keeps l.fn.seat l.seat;
}
