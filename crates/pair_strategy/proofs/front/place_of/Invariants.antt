use Rattle.std.proofs.Common.{◌≡◌, ◌-◌, ◌≤◌, true, false, length, take, drop, is_lt}
use Rattle.monomials.specs.Polynomials.{Each}
use Rattle.pair_strategy.specs.Queues.{keyed_cmp}
use Rattle.pair_strategy.specs.Inside.Fronts.{items_of}
use Rattle.pair_strategy.proofs.front.place_of.Given as goal

abbrev pub invariant-loop-low : goal.invariant-loop-low
invariant-loop-low l = record {
  in_order : l.low ≤ l.high;
  in_range : l.high ≤ length l.front.items;
  less : Each (λ b. is_lt (keyed_cmp l.order l.item b) ≡ true) (take l.low (items_of l.front.items));
  not_less : Each (λ b. is_lt (keyed_cmp l.order l.item b) ≡ false) (drop l.high (items_of l.front.items));
}

abbrev pub decreases-loop-low : goal.decreases-loop-low
decreases-loop-low l = l.high - l.low
