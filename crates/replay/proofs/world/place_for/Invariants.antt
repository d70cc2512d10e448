use Rattle.std.proofs.Common.{◌≡◌, ◌++◌, take, drop}
use Rattle.word_model.specs.declared.events.Hand.{Hand}
use Rattle.replay.specs.Worlds.{with_hand}
use Rattle.replay.proofs.world.place_for.Given as goal

abbrev pub invariant-loop-k : goal.invariant-loop-k
invariant-loop-k l = (hand : Hand) → hand.seat ≡ l.seat → take l.k l.hands.items ++ with_hand hand (drop l.k l.hands.items) ≡ with_hand hand l.hands.items
