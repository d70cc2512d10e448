use Rattle.std.proofs.Common.{◌≡◌}
use Rattle.gproduct.specs.Seats.{Keeps}
use Rattle.gproduct.proofs.powers.learn_column.Given as goal

abbrev pub invariant-loop-a : goal.invariant-loop-a
invariant-loop-a l = record {
  algebra : l.seat.algebra ≡ l.fn.seat.algebra;
  kept : Keeps l.fn.seat l.seat;
}
