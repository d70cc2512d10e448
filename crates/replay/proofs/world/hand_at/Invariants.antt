use Rattle.std.proofs.Common.{◌≡◌, drop}
use Rattle.replay.specs.Worlds.{hand_at}
use Rattle.replay.proofs.world.hand_at.Given as goal

abbrev pub invariant-loop-hand : goal.invariant-loop-hand
invariant-loop-hand l = hand_at (drop l.hand-index l.hands.items) l.seat ≡ hand_at l.hands.items l.seat
