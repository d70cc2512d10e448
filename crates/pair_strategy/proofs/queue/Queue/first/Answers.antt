use Rattle.std.proofs.Common.{◌≡◌, [], ◌∷◌, drop, MatchOption, slice_get, ap, ◌∙◌, subst}
use Rattle.pair_strategy.specs.Queues.{JobQueue}
use Rattle.pair_strategy.proofs.Changes.{first-is}
use Rattle.pair_strategy.proofs.InOrder.{set-from_order}
use Rattle.pair_strategy.proofs.queue.Queue.first.Goals as goal

pub returns-clause-first : goal.returns-clause-first
returns-clause-first c =
    let q = c.self.inside in
    let v = q.items.items in
    subst (λ (k : JobQueue). MatchOption c.first.result (k.items ≡ []) (λ first. k.items ≡ first.now ∷ drop 1 k.items)) c.self.view_is
    (first-is q.order v c.self.invariant.tree (set-from_order q.order v c.self.invariant.queue.set) c.first.result
    (c.first.ensures.value ∙ ap (λ list. slice_get list 0) c.deref.ensures.value))
