use Rattle.std.proofs.Common.{◌≡◌, ℕ, None, length, slice_index_or}
use Rattle.gproduct.proofs.table.Table.seat.Given as goal

abbrev pub invariant-loop-slot : goal.invariant-loop-slot
invariant-loop-slot l = record {
  free : (k : ℕ) → slice_index_or l.seen.items k (record { cell = None }) ≡ record { cell = None };
  count : length l.seen.items ≡ l._slot;
}
