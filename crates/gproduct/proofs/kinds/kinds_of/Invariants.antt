use Rattle.std.proofs.Common.{◌≡◌, length}
use Rattle.gproduct.specs.Inside.Swaps.{AreFirstKinds}
use Rattle.gproduct.proofs.kinds.kinds_of.Given as goal

abbrev pub invariant-loop-place : goal.invariant-loop-place
invariant-loop-place l = record {
  places : length l.kinds.items ≡ l.place;
  kinds : AreFirstKinds l.alg l.kinds.items;
}
