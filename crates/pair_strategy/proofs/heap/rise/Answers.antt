use Rattle.std.proofs.Common.{◌≡◌, ◌-◌, ◌/◌, ◌<◌, length, get_or, not, ap, ◌∙◌, arith}
use Rattle.std.proofs.lemmas.List.Sorted.{IsPermutation-swap, IsPermutation-trans, length_permutation}
use Rattle.gpoly.proofs.Lists.{Each-IsPermutation}
use Rattle.pair_strategy.specs.declared.keys.Keyed.{Keyed}
use Rattle.pair_strategy.proofs.Heaps.{rise-steps, rise-rests, at_most-less}
use Rattle.pair_strategy.proofs.heap.rise.Goals as goal

pub at_most-requires-clause-vars : goal.at_most-requires-clause-vars
at_most-requires-clause-vars c =
    Each-IsPermutation (λ (k : Keyed). length k.mono ≡ c.args.order.now.vars) c.args.items.now.items c.loop-place.items.items c.loop-place.invariant.moved c.requires.vars

pub at_most-requires-clause-first : goal.at_most-requires-clause-first
at_most-requires-clause-first c =
    omega (arith, c.loop-place.invariant.in_range, length_permutation c.args.items.now.items c.loop-place.items.items c.loop-place.invariant.moved)

pub at_most-requires-clause-second : goal.at_most-requires-clause-second
at_most-requires-clause-second c =
    omega (arith, c.loop-place.invariant.in_range, length_permutation c.args.items.now.items c.loop-place.items.items c.loop-place.invariant.moved)

pub swap-requires-clause-i_in_bounds : goal.swap-requires-clause-i_in_bounds
swap-requires-clause-i_in_bounds c =
    omega
    (arith, c.loop-place.items.ok.0, c.loop-place.invariant.in_range, length_permutation c.args.items.now.items c.loop-place.items.items c.loop-place.invariant.moved)

pub swap-requires-clause-j_in_bounds : goal.swap-requires-clause-j_in_bounds
swap-requires-clause-j_in_bounds c =
    omega
    (arith, c.loop-place.items.ok.0, c.loop-place.invariant.in_range, length_permutation c.args.items.now.items c.loop-place.items.items c.loop-place.invariant.moved)

pub returns-then-at_most-clause-tree : goal.returns-then-at_most-clause-tree
returns-then-at_most-clause-tree c =
    let j = c.loop-place.place in
    rise-rests c.args.order.now c.loop-place.items.items ((j - 1) / 2) j (length c.args.items.now.items) (omega (arith, c.loop-place-test.true))
    (omega (arith, c.loop-place-test.true)) (λ d. c.at_most.ensures d ∙ ap not c.if-at_most.true) c.loop-place.invariant.tree

pub loop-place-preserved : goal.loop-place-preserved
loop-place-preserved c =
    let j = c.loop-place.place in
    let start = c.args.items.now.items in
    let old = c.loop-place.items.items in
    let new = c.swap.new.self.items in
    let long : length old ≡ length start = length_permutation start old c.loop-place.invariant.moved in
    let high : j < length old = omega (arith, c.loop-place.invariant.in_range, long) in
    let low : (j - 1) / 2 < length old = omega (arith, high) in
    record {
      in_range = omega (arith, c.loop-place.invariant.in_range);
      moved = IsPermutation-trans start old new c.loop-place.invariant.moved (IsPermutation-swap old new ((j - 1) / 2) j low high c.swap.ensures.items);
      tree =
          rise-steps c.args.order.now old new ((j - 1) / 2) j (length start) (omega (arith, c.loop-place-test.true)) (omega (arith, c.loop-place-test.true))
          c.loop-place.invariant.in_range c.swap.ensures.by_index
          (λ d. at_most-less c.args.order.now (get_or old ((j - 1) / 2) d) (get_or old j d) (c.at_most.ensures d ∙ ap not c.if-at_most.false))
          c.loop-place.invariant.tree;
      room = c.swap.ensures.capacity ∙ c.loop-place.invariant.room;
    }
