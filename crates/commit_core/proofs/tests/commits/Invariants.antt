use Rattle.std.proofs.Common.{◌≡◌}
use Rattle.commit_core.proofs.tests.commits.Given as goal

abbrev pub invariant-loop-turn : goal.invariant-loop-turn
invariant-loop-turn g l = l.seat.algebra ≡ l.lead.algebra
