use Rattle.board.specs.Slots.{NoneOffered}
use Rattle.board.proofs.slots.offered_from.Given as goal

abbrev pub invariant-loop-k : goal.invariant-loop-k
invariant-loop-k l = NoneOffered l.k l.slots.items
