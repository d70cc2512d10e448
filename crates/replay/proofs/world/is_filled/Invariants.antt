use Rattle.std.proofs.Common.{◌≡◌, drop}
use Rattle.std.specs.List.{list_any}
use Rattle.replay.specs.Worlds.{same_place}
use Rattle.replay.proofs.world.is_filled.Given as goal

abbrev pub invariant-loop-other : goal.invariant-loop-other
invariant-loop-other l = list_any (same_place l.place) (drop l.other-index l.filled.items) ≡ list_any (same_place l.place) l.filled.items
