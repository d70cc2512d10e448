use Rattle.std.proofs.Common.{◌≡◌, ◌+◌, ◌-◌, ◌<◌, ◌&&◌, not, length, inr, vec_len, vec_capacity, sym, ap, ◌∙◌, subst, arith}
use Rattle.std.proofs.lemmas.List.Sorted.{length_permutation, IsPermutation-refl}
use Rattle.word_model.specs.Jobs.{same_job, IsJob}
use Rattle.pair_strategy.specs.Queues.{JobQueue}
use Rattle.pair_strategy.specs.Inside.Heaps.{IsTree}
use Rattle.pair_strategy.specs.declared.keys.Keyed.{Keyed}
use Rattle.pair_strategy.proofs.Changes.{taken-permutation, taken-tree, left-each, left-set, left-items, left-queued, top-at_most, queue-of}
use Rattle.pair_strategy.proofs.InOrder.{Each-from_order, set-from_order}
use Rattle.pair_strategy.proofs.queue.Queue.take_first.Goals as goal

pub sink-requires-clause-vars : goal.sink-requires-clause-vars
sink-requires-clause-vars c =
    let o = c.self.inside.order in
    let v = c.self.inside.items.items in
    let xs = c.swap_remove-first.new.self.items in
    let P = λ (k : Keyed). length k.mono ≡ o.vars in
    let some : 0 < length v = omega (arith, c.self.inside.items.ok.0, c.swap_remove-first.ensures.len) in
    let moved = taken-permutation v xs xs c.swap_remove-first.result some c.swap_remove-first.ensures.value c.swap_remove-first.ensures.items (IsPermutation-refl xs) in
    left-each v xs c.swap_remove-first.result moved P (Each-from_order o P v c.self.invariant.queue.vars)

pub sink-requires-clause-tree : goal.sink-requires-clause-tree
sink-requires-clause-tree c =
    let v = c.self.inside.items.items in
    let xs = c.swap_remove-first.new.self.items in
    let long : length xs + 1 ≡ length v =
    omega (arith, c.self.inside.items.ok.0, c.swap_remove-first.new.self.ok.0, c.swap_remove-first.ensures.len) in
    taken-tree c.self.inside.order v xs long (λ i d other low. c.swap_remove-first.ensures.by_index.1 i d other (omega (arith, c.self.inside.items.ok.0, low)))
    c.self.invariant.tree

pub invariant_of-self : goal.invariant_of-self
invariant_of-self c =
    let k = c.swap_remove-first.result in
    let o = c.self.inside.order in
    let v = c.self.inside.items.items in
    let xs = c.swap_remove-first.new.self.items in
    let w = c.sink.new.items.items in
    let P = λ (k : Keyed). length k.mono ≡ o.vars in
    let some : 0 < length v = omega (arith, c.self.inside.items.ok.0, c.swap_remove-first.ensures.len) in
    let moved = taken-permutation v xs w k some c.swap_remove-first.ensures.value c.swap_remove-first.ensures.items c.sink.ensures.moved in
    let set = set-from_order o v c.self.invariant.queue.set in
    let spare = vec_capacity c.sink.new.items - vec_len c.sink.new.items in
    record {
      queue = queue-of o w spare (left-set v w k moved set) (left-each v w k moved P (Each-from_order o P v c.self.invariant.queue.vars));
      tree = subst (IsTree o w) (sym (length_permutation xs w c.sink.ensures.moved)) c.sink.ensures.tree;
      numbers = left-each v w k moved (λ (k : Keyed). IsJob 4096 2048 16 k.job) c.self.invariant.numbers;
      marks = λ job in_range.
          c.clear.ensures.marks job in_range ∙ ap (λ t. not (same_job job k.job) && t) (c.self.invariant.marks job in_range) ∙ left-queued v w k moved set job;
      made = inr c.clear.ensures.made;
      sized = inr c.clear.ensures.made;
    }

pub returns-clause-first : goal.returns-clause-first
returns-clause-first c =
    let k = c.swap_remove-first.result in
    let o = c.self.inside.order in
    let v = c.self.inside.items.items in
    let xs = c.swap_remove-first.new.self.items in
    let w = c.sink.new.items.items in
    let some : 0 < length v = omega (arith, c.self.inside.items.ok.0, c.swap_remove-first.ensures.len) in
    let moved = taken-permutation v xs w k some c.swap_remove-first.ensures.value c.swap_remove-first.ensures.items c.sink.ensures.moved in
    let was : vec_capacity c.self.inside.items - vec_len c.self.inside.items ≡ c.args.self.now.spare = ap (λ (q : JobQueue). q.spare) c.self.view_is in (
      sym (ap (λ (q : JobQueue). q.items) c.self.view_is)
          ∙ left-items v w k moved o (set-from_order o v c.self.invariant.queue.set) (top-at_most o k v c.swap_remove-first.ensures.value c.self.invariant.tree),
      omega (
        arith,
        was,
        c.swap_remove-first.ensures.capacity,
        c.swap_remove-first.ensures.len,
        c.sink.ensures.room,
        c.swap_remove-first.new.self.ok,
        c.sink.new.items.ok,
        c.self.inside.items.ok,
        length_permutation xs w c.sink.ensures.moved,
      ),
    )
