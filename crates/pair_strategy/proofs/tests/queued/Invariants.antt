use Rattle.std.proofs.Common.{◌≡◌}
use Rattle.pair_strategy.proofs.tests.queued.Given as goal

abbrev pub invariant-loop-text : goal.invariant-loop-text
invariant-loop-text l = l.queue.order ≡ l.order
