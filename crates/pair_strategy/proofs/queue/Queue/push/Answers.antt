use Rattle.std.proofs.Common.{◌≡◌, ◌-◌, ◌||◌, false, [], ◌∷◌, ◌++◌, length, inr, vec_len, vec_capacity, IsPermutation, sym, ap, ◌∙◌, subst, arith}
use Rattle.std.proofs.lemmas.List.Sorted.{length_permutation}
use Rattle.monomials.specs.Polynomials.{Each}
use Rattle.monomials.proofs.Keys.{Each-append}
use Rattle.word_model.specs.Jobs.{is_queued, same_job, IsJob}
use Rattle.pair_strategy.specs.Queues.{JobQueue, jobs_in, with_item}
use Rattle.pair_strategy.specs.Inside.Heaps.{IsTree}
use Rattle.pair_strategy.specs.declared.keys.Keyed.{Keyed}
use Rattle.pair_strategy.proofs.Changes.{pushed-tree, pushed-each, pushed-set, pushed-items, pushed-queued, queue-of}
use Rattle.pair_strategy.proofs.InOrder.{queued-in_order, Each-from_order, set-from_order}
use Rattle.pair_strategy.proofs.queue.Queue.push.Goals as goal

pub rise-requires-clause-vars : goal.rise-requires-clause-vars
rise-requires-clause-vars c =
    let o = c.self.inside.order in
    let v = c.self.inside.items.items in
    let P = λ (k : Keyed). length k.mono ≡ o.vars in
    let here = subst (λ (q : JobQueue). P c.args.item) c.self.view_is (subst (λ (q : JobQueue). length c.args.item.mono ≡ q.order.vars) (sym c.self.view_is) c.requires.vars) in
    subst (Each P) (sym c.push_reserved.ensures.items) (Each-append P v (c.args.item ∷ []) (Each-from_order o P v c.self.invariant.queue.vars) (here, tt))

pub rise-requires-clause-tree : goal.rise-requires-clause-tree
rise-requires-clause-tree c =
    pushed-tree c.self.inside.order c.self.inside.items.items c.push_reserved.new.self.items c.args.item c.push_reserved.ensures.items c.self.invariant.tree

pub invariant_of-self : goal.invariant_of-self
invariant_of-self c =
    let k = c.args.item in
    let o = c.self.inside.order in
    let v = c.self.inside.items.items in
    let w = c.rise.new.items.items in
    let P = λ (k : Keyed). length k.mono ≡ o.vars in
    let moved : IsPermutation (v ++ k ∷ []) w = subst (λ list. IsPermutation list w) c.push_reserved.ensures.items c.rise.ensures.moved in
    let set = set-from_order o v c.self.invariant.queue.set in
    let absent : is_queued (jobs_in v) k.job ≡ false =
    sym (queued-in_order o v k.job) ∙ subst (λ (q : JobQueue). is_queued (jobs_in q.items) k.job ≡ false) (sym c.self.view_is) c.requires.absent in
    let here = subst (λ (q : JobQueue). length k.mono ≡ q.order.vars) (sym c.self.view_is) c.requires.vars in
    let spare = vec_capacity c.rise.new.items - vec_len c.rise.new.items in
    record {
      queue = queue-of o w spare (pushed-set v w k moved set absent) (pushed-each v w k moved P (Each-from_order o P v c.self.invariant.queue.vars) here);
      tree = subst (IsTree o w) (sym (length_permutation c.push_reserved.new.self.items w c.rise.ensures.moved)) c.rise.ensures.tree;
      numbers = pushed-each v w k moved (λ (k : Keyed). IsJob 4096 2048 16 k.job) c.self.invariant.numbers c.requires.numbers;
      marks = λ job in_range.
          c.set.ensures.marks job in_range ∙ ap (λ t. same_job job k.job || t) (c.self.invariant.marks job in_range) ∙ pushed-queued v w k moved job;
      made = inr c.set.ensures.made;
      sized = inr c.set.ensures.made;
    }

pub returns-clause-items : goal.returns-clause-items
returns-clause-items c =
    let k = c.args.item in
    let o = c.self.inside.order in
    let v = c.self.inside.items.items in
    let w = c.rise.new.items.items in
    let moved : IsPermutation (v ++ k ∷ []) w = subst (λ list. IsPermutation list w) c.push_reserved.ensures.items c.rise.ensures.moved in
    let absent : is_queued (jobs_in v) k.job ≡ false =
    sym (queued-in_order o v k.job) ∙ subst (λ (q : JobQueue). is_queued (jobs_in q.items) k.job ≡ false) (sym c.self.view_is) c.requires.absent in
    pushed-items v w k moved o (set-from_order o v c.self.invariant.queue.set) absent ∙ ap (λ (q : JobQueue). with_item q.order k q.items) c.self.view_is

pub returns-clause-spare : goal.returns-clause-spare
returns-clause-spare c =
    let was : vec_capacity c.self.inside.items - vec_len c.self.inside.items ≡ c.args.self.now.spare = ap (λ (q : JobQueue). q.spare) c.self.view_is in
    omega (
      arith,
      was,
      c.requires.spare,
      c.push_reserved.ensures.capacity,
      c.push_reserved.ensures.len,
      c.rise.ensures.room,
      c.push_reserved.new.self.ok.0,
      c.rise.new.items.ok.0,
      length_permutation c.push_reserved.new.self.items c.rise.new.items.items c.rise.ensures.moved,
    )
