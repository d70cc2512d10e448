use Rattle.std.proofs.Common.{IsPermutation, sym, subst}
use Rattle.pair_strategy.specs.Queues.{JobQueue, IsHeap}
use Rattle.pair_strategy.specs.Kept.{in_order}
use Rattle.pair_strategy.proofs.Changes.{heap-order}
use Rattle.pair_strategy.proofs.InOrder.{order-permutation, set-from_order}
use Rattle.pair_strategy.proofs.queue.Queue.heap.Goals as goal

pub returns-clause-once : goal.returns-clause-once
returns-clause-once c =
    let q = c.self.inside in
    subst (λ (k : JobQueue). IsPermutation k.items c.deref.result.now) c.self.view_is
    (subst (IsPermutation (in_order q.order q.items.items)) (sym c.deref.ensures.value) (order-permutation q.order q.items.items))

pub returns-clause-heap : goal.returns-clause-heap
returns-clause-heap c =
    let q = c.self.inside in
    let v = q.items.items in
    subst (λ (k : JobQueue). IsHeap k.order c.deref.result.now) c.self.view_is
    (subst (IsHeap q.order) (sym c.deref.ensures.value) (heap-order q.order v c.self.invariant.tree (set-from_order q.order v c.self.invariant.queue.set)))
