use Rattle.std.proofs.Common.{◌≡◌, ◌++◌, drop}
use Rattle.replay.specs.Worlds.{without_hand}
use Rattle.replay.proofs.world.others.Given as goal

abbrev pub invariant-loop-hand : goal.invariant-loop-hand
invariant-loop-hand l = l.left.items ++ without_hand l.seat (drop l.hand-index l.hands.items) ≡ without_hand l.seat l.hands.items
