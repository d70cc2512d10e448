use Rattle.std.proofs.Common.{◌≡◌}
use Rattle.crew.proofs.desk.Desk.help.Given as goal

abbrev pub invariant-loop : goal.invariant-loop
invariant-loop g l = l.seat.algebra ≡ l.self.algebra
