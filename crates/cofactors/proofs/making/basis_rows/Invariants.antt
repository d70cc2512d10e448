use Rattle.std.proofs.Common.{◌≡◌, drop, length, []}
use Rattle.monomials.specs.Polynomials.{Each}
use Rattle.word_model.specs.Cofactors.{rows_after, entries_reach}
use Rattle.word_model.specs.declared.records.Mode.TheVariants.{Left}
use Rattle.gproduct.specs.Seats.{Keeps}
use Rattle.word_model.specs.Inside.Sound.{AreSound, behind_all}
use Rattle.cofactors.specs.Rows.{IsRow}
use Rattle.cofactors.proofs.making.basis_rows.Given as goal

abbrev pub invariant-loop-entry : goal.invariant-loop-entry
invariant-loop-entry g l = record {
  value : rows_after l.fn.seat.algebra (length l.gens) l.basis l.rows.items (drop l.entry-index l.entries)
      ≡ rows_after l.fn.seat.algebra (length l.gens) l.basis [] l.entries;
  sorted : Each (IsRow l.fn.seat.algebra (length l.gens)) l.rows.items;
  sound : AreSound l.fn.seat.algebra l.gens l.basis Left (length l.rows.items) (drop l.entry-index l.entries);
  made : behind_all (length l.rows.items) (drop l.entry-index l.entries) ≡ length l.basis;
  reach : entries_reach l.basis (rows_after l.fn.seat.algebra (length l.gens) l.basis [] l.entries) l.entries
      ≡ entries_reach l.basis (rows_after l.fn.seat.algebra (length l.gens) l.basis [] l.entries) (drop l.entry-index l.entries);
  algebra : l.seat.algebra ≡ l.fn.seat.algebra;
  kept : Keeps l.fn.seat l.seat;
}
