use Rattle.std.proofs.Common.{◌≡◌, [], ◌++◌, length, replicate}
use Rattle.word_model.specs.Words.{normal_form}
use Rattle.gproduct.specs.Inside.Factors.{factor_count}
use Rattle.gproduct.proofs.first.raised.Given as goal

abbrev pub invariant-loop-letter : goal.invariant-loop-letter
invariant-loop-letter g l = record {
  counted : factor_count l.pending.open.items ≡ length l.pending.factors.items;
  empty : l.pending.open.items ≡ [];
  algebra : g.E.Exchange.over l.swaps ≡ g.E.Exchange.over l.fn.swaps;
  value : l.value ≡ normal_form (g.E.Exchange.over l.fn.swaps) (replicate l._letter l.fn.swap.j ++ replicate l.fn.swap.b l.fn.swap.i);
}
