use Rattle.std.proofs.Common.{◌≡◌}
use Rattle.gproduct.specs.Seats.{Keeps}
use Rattle.gproduct.proofs.powers.learn_row.Given as goal

abbrev pub invariant-loop-b : goal.invariant-loop-b
invariant-loop-b l = record {
  algebra : l.seat.algebra ≡ l.fn.seat.algebra;
  kept : Keeps l.fn.seat l.seat;
}
