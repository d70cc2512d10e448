use Rattle.std.proofs.Common.{◌≡◌, ◌+◌, ◌-◌, ◌/◌, ◌<◌, true, false, length, drop, is_lt, get_or, sym, ap, ◌∙◌, subst, arith}
use Rattle.std.proofs.lemmas.List.{length-map}
use Rattle.std.proofs.Math.ListN.{get_or-map}
use Rattle.monomials.specs.Polynomials.{Each}
use Rattle.pair_strategy.specs.Queues.{keyed_cmp}
use Rattle.pair_strategy.specs.Inside.Fronts.{items_of}
use Rattle.pair_strategy.specs.declared.front.Candidate.{Candidate}
use Rattle.pair_strategy.proofs.Placing.{less_up_to, not_less_from, placed}
use Rattle.pair_strategy.proofs.front.place_of.Goals as goal

pub loop-low-preserved-then-is_lt : goal.loop-low-preserved-then-is_lt
loop-low-preserved-then-is_lt c =
    let o = c.args.order.now in
    let front = c.args.front.now.items in
    let v = items_of front in
    let x = c.index-other.result.now in
    let m = c.loop-low.low + (c.loop-low.high - c.loop-low.low) / 2 in
    let within : m < length v = omega (arith, c.loop-low-test.true, c.loop-low.invariant.in_range, length-map front (λ (k : Candidate). k.item)) in
    let is : x.item ≡ get_or v m x.item = ap (λ (k : Candidate). k.item) c.index-other.ensures ∙ sym (get_or-map (λ (k : Candidate). k.item) front m x) in
    let here : is_lt (keyed_cmp o c.args.item.now (get_or v m x.item)) ≡ true =
    ap (λ y. is_lt (keyed_cmp o c.args.item.now y)) (sym is) ∙ sym (ap is_lt c.key_cmp.ensures) ∙ sym c.is_lt.ensures ∙ c.if-is_lt.true in
    record {
      in_order = omega (arith, c.loop-low-test.true);
      in_range = c.loop-low.invariant.in_range;
      less = less_up_to o c.args.item.now v m x.item within c.requires.rising here;
      not_less = c.loop-low.invariant.not_less;
    }

pub loop-low-preserved : goal.loop-low-preserved
loop-low-preserved c =
    let o = c.args.order.now in
    let front = c.args.front.now.items in
    let v = items_of front in
    let x = c.index-other.result.now in
    let m = c.loop-low.low + (c.loop-low.high - c.loop-low.low) / 2 in
    let within : m < length v = omega (arith, c.loop-low-test.true, c.loop-low.invariant.in_range, length-map front (λ (k : Candidate). k.item)) in
    let is : x.item ≡ get_or v m x.item = ap (λ (k : Candidate). k.item) c.index-other.ensures ∙ sym (get_or-map (λ (k : Candidate). k.item) front m x) in
    let here : is_lt (keyed_cmp o c.args.item.now (get_or v m x.item)) ≡ false =
    ap (λ y. is_lt (keyed_cmp o c.args.item.now y)) (sym is) ∙ sym (ap is_lt c.key_cmp.ensures) ∙ sym c.is_lt.ensures ∙ c.if-is_lt.false in
    record {
      in_order = omega arith;
      in_range = omega (arith, c.loop-low-test.true, c.loop-low.invariant.in_range);
      less = c.loop-low.invariant.less;
      not_less = not_less_from o c.args.item.now v m x.item within c.requires.rising here;
    }

pub returns-clause-place : goal.returns-clause-place
returns-clause-place c =
    let o = c.args.order.now in
    let v = items_of c.args.front.now.items in
    let met : c.loop-low.high ≡ c.loop-low.low = omega (arith, c.loop-low-test.false, c.loop-low.invariant.in_order) in
    placed o c.args.item.now v c.loop-low.low c.loop-low.invariant.less
    (subst (λ i. Each (λ b. is_lt (keyed_cmp o c.args.item.now b) ≡ false) (drop i v)) met c.loop-low.invariant.not_less)
