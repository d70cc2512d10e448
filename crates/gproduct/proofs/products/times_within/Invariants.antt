use Rattle.std.proofs.Common.{◌≡◌, [], ◌+◌, length, take}
use Rattle.gpoly.specs.Terms.{pairs_of}
use Rattle.word_model.specs.Products.{product}
use Rattle.gproduct.specs.Seats.{Keeps}
use Rattle.gproduct.specs.Inside.Factors.{factor_count}
use Rattle.gproduct.specs.Inside.Parts.{sum_of, AreSorted}
use Rattle.gproduct.proofs.products.times_within.Given as goal

abbrev pub invariant-loop-term : goal.invariant-loop-term
invariant-loop-term g l = record {
  counted : factor_count l.pending.open.items ≡ length l.pending.factors.items;
  empty : l.pending.open.items ≡ [];
  parts : AreSorted l.fn.seat.algebra.p l.fn.seat.algebra.order l.parts.items;
  sum : sum_of l.fn.seat.algebra.p l.fn.seat.algebra.order l.parts.items ≡ product l.fn.seat.algebra (pairs_of (take l.term-index l.term-items)) l.g;
  algebra : l.seat.algebra ≡ l.fn.seat.algebra;
  kept : Keeps l.fn.seat l.seat;
  steps : l.steps ≡ l.fn.steps + l.term-index;
}
