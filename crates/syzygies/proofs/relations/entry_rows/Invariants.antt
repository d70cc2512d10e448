use Rattle.std.proofs.Common.{◌≡◌, ◌++◌, drop, length}
use Rattle.monomials.specs.Polynomials.{Each}
use Rattle.word_model.specs.Syzygies.{entry_syzygies}
use Rattle.gproduct.specs.Seats.{Keeps}
use Rattle.cofactors.specs.Rows.{IsRow}
use Rattle.syzygies.specs.Zeros.{zeros_reach}
use Rattle.syzygies.proofs.relations.entry_rows.Given as goal

abbrev pub invariant-loop-entry : goal.invariant-loop-entry
invariant-loop-entry g l = record {
  value : l.rows.items ++ entry_syzygies l.fn.seat.algebra (length l.gens) l.basis l.made (drop l.entry-index l.entries)
      ≡ entry_syzygies l.fn.seat.algebra (length l.gens) l.basis l.made l.entries;
  sorted : Each (IsRow l.fn.seat.algebra (length l.gens)) l.rows.items;
  reach : zeros_reach l.basis l.made l.entries ≡ zeros_reach l.basis l.made (drop l.entry-index l.entries);
  algebra : l.seat.algebra ≡ l.fn.seat.algebra;
  kept : Keeps l.fn.seat l.seat;
}
