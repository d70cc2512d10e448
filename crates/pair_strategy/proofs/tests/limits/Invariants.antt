use Rattle.std.proofs.Common.{◌≡◌}
use Rattle.pair_strategy.proofs.tests.limits.Given as goal

abbrev pub invariant-loop-place : goal.invariant-loop-place
invariant-loop-place l = l.queue.order ≡ l.order
