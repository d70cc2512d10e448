use Rattle.std.proofs.Common.{◌≡◌, ◌-◌, length, vec_capacity, IsPermutation}
use Rattle.pair_strategy.specs.Inside.Heaps.{IsTreeAbove}
use Rattle.pair_strategy.proofs.heap.sink.Given as goal

abbrev pub invariant-loop-place : goal.invariant-loop-place
invariant-loop-place l = record {
  moved : IsPermutation l.initial.items.items l.items.items;
  tree : IsTreeAbove l.order l.items.items l.place (length l.initial.items.items);
  room : vec_capacity l.items ≡ vec_capacity l.initial.items;
}

abbrev pub decreases-loop-place : goal.decreases-loop-place
decreases-loop-place l = length l.initial.items.items - l.place
