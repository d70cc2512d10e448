use Rattle.std.proofs.Common.{◌≡◌, length}
use Rattle.gpoly.specs.Terms.{pairs_of}
use Rattle.word_model.specs.declared.events.Place.{Place}
use Rattle.gproduct.specs.Inside.Factors.{factor_count, products_in, words_of}
use Rattle.gproduct.proofs.MultipliedOut.{IsMultiplying, sum_measure}
use Rattle.gproduct.proofs.multiplying.sorted_terms.Given as goal

abbrev pub invariant-loop-sorted : goal.invariant-loop-sorted
invariant-loop-sorted g l = record {
  counted : factor_count l.pending.open.items ≡ length l.pending.factors.items;
  multiplying : IsMultiplying (g.E.Exchange.over l.fn.swaps) (products_in l.fn.pending.open.items l.fn.pending.factors.items)
      (products_in l.pending.open.items l.pending.factors.items) (pairs_of l.sorted.items);
  algebra : g.E.Exchange.over l.swaps ≡ (g.E.Exchange.over l.fn.swaps);
  kept : (place : Place) → g.E.Exchange.knows l.fn.swaps place → g.E.Exchange.knows l.swaps place;
}

abbrev pub decreases-loop-sorted : goal.decreases-loop-sorted
decreases-loop-sorted g l = sum_measure (g.E.Exchange.over l.fn.swaps) 4095 (words_of (products_in l.pending.open.items l.pending.factors.items))
