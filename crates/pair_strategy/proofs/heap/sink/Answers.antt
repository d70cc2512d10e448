use Rattle.std.proofs.Common.{◌≡◌, ◌<◌, length, get_or, not, ap, ◌∙◌, subst, arith}
use Rattle.std.proofs.lemmas.List.Sorted.{IsPermutation-swap, IsPermutation-trans, length_permutation}
use Rattle.gpoly.proofs.Lists.{Each-IsPermutation}
use Rattle.pair_strategy.specs.Inside.Heaps.{IsLeastBelow}
use Rattle.pair_strategy.specs.declared.keys.Keyed.{Keyed}
use Rattle.pair_strategy.proofs.Heaps.{sink-steps, sink-rests, at_most-less}
use Rattle.pair_strategy.proofs.heap.sink.Goals as goal

pub least_below-below-requires-clause-vars : goal.least_below-below-requires-clause-vars
least_below-below-requires-clause-vars c =
    Each-IsPermutation (λ (k : Keyed). length k.mono ≡ c.args.order.now.vars) c.args.items.now.items c.loop-place.items.items c.loop-place.invariant.moved c.requires.vars

pub least_below-below-requires-clause-some : goal.least_below-below-requires-clause-some
least_below-below-requires-clause-some c =
    omega
    (arith, c.loop-place-test.true, c.len-half.ensures, c.args.items.now.ok.0, length_permutation c.args.items.now.items c.loop-place.items.items c.loop-place.invariant.moved)

pub at_most-requires-clause-vars : goal.at_most-requires-clause-vars
at_most-requires-clause-vars c =
    Each-IsPermutation (λ (k : Keyed). length k.mono ≡ c.args.order.now.vars) c.args.items.now.items c.loop-place.items.items c.loop-place.invariant.moved c.requires.vars

pub returns-then-at_most-clause-tree : goal.returns-then-at_most-clause-tree
returns-then-at_most-clause-tree c =
    let j = c.loop-place.place in
    let b = c.least_below-below.result in
    let start = c.args.items.now.items in
    let old = c.loop-place.items.items in
    let least = subst (IsLeastBelow c.args.order.now old j b) (length_permutation start old c.loop-place.invariant.moved) c.least_below-below.ensures.least in
    sink-rests c.args.order.now old j b (length start) (λ d. c.at_most.ensures d ∙ ap not c.if-at_most.true) least c.loop-place.invariant.tree

pub loop-place-preserved : goal.loop-place-preserved
loop-place-preserved c =
    let j = c.loop-place.place in
    let b = c.least_below-below.result in
    let start = c.args.items.now.items in
    let old = c.loop-place.items.items in
    let new = c.swap.new.self.items in
    let long : length old ≡ length start = length_permutation start old c.loop-place.invariant.moved in
    let high : b < length old = c.least_below-below.ensures.in_range in
    let low : j < length old = omega (arith, high, c.least_below-below.ensures.from) in
    let least = subst (IsLeastBelow c.args.order.now old j b) long c.least_below-below.ensures.least in
    record {
      moved = IsPermutation-trans start old new c.loop-place.invariant.moved (IsPermutation-swap old new j b low high c.swap.ensures.items);
      tree =
          sink-steps c.args.order.now old new j b (length start) c.least_below-below.ensures.from c.least_below-below.ensures.to (omega (arith, high, long))
          c.swap.ensures.by_index (λ d. at_most-less c.args.order.now (get_or old j d) (get_or old b d) (c.at_most.ensures d ∙ ap not c.if-at_most.false)) least
          c.loop-place.invariant.tree;
      room = c.swap.ensures.capacity ∙ c.loop-place.invariant.room;
    }
