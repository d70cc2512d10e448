use Rattle.std.proofs.Common.{◌≡◌, length}
use Rattle.pair_strategy.specs.declared.keys.Keyed.{Keyed}
use Rattle.pair_strategy.proofs.InOrder.{Each-from_order, set-from_order}
use Rattle.pair_strategy.proofs.queue.Queue.ahead.Goals as goal

pub least_jobs-requires-clause-set : goal.least_jobs-requires-clause-set
least_jobs-requires-clause-set c = set-from_order c.self.inside.order c.self.inside.items.items c.self.invariant.queue.set

pub least_jobs-requires-clause-vars : goal.least_jobs-requires-clause-vars
least_jobs-requires-clause-vars c =
    Each-from_order c.self.inside.order (λ (k : Keyed). length k.mono ≡ c.self.inside.order.vars) c.self.inside.items.items c.self.invariant.queue.vars
