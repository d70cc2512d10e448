use Rattle.std.proofs.Common.{◌≡◌, ◌<◌, ◌∙◌, sym, ap, subst, List, reverse, take}
use Rattle.monomials.specs.Orders.{order_cmp}
use Rattle.monomials.specs.Polynomials.{insert_term, from_terms}
use Rattle.gpoly.specs.declared.Term.{Term}
use Rattle.gpoly.specs.Terms.{pairs_of}
use Rattle.gpoly.proofs.TermLists.{numbers_at}
use Rattle.gpoly.proofs.Sorting.{front_more, not_below_sums}
use Rattle.gpoly.proofs.sums.rising_sums.Goals as goal

pub add_last-requires-clause-in_range : goal.add_last-requires-clause-in_range
add_last-requires-clause-in_range c =
    subst (λ t. t.coef < c.args.field) (sym c.term-item.is)
    (numbers_at c.args.field c.args.rising.now c.loop-term.term-index _ c.loop-term-test.true c.requires)

pub loop-term-preserved : goal.loop-term-preserved
loop-term-preserved c = record {
  numbers = c.in_ok-add_last.ensures.numbers;
  sum = λ rows falls.
      let rising : List Term = c.args.rising.now in
      let i = c.loop-term.term-index in
      let t : Term = c.term-item.result in
      let so_far : reverse (pairs_of c.loop-term.sums.items) ≡ from_terms (order_cmp rows) c.args.field (reverse (pairs_of (take i rising))) =
      c.loop-term.invariant.sum rows falls in
      c.in_ok-add_last.ensures.sum rows (not_below_sums rows c.args.field rising c.loop-term.sums.items i t c.loop-term-test.true c.term-item.is falls so_far)
      ∙ ap (insert_term (order_cmp rows) c.args.field t.coef t.mono) so_far
      ∙ ap (from_terms (order_cmp rows) c.args.field) (sym (front_more rising i t c.loop-term-test.true c.term-item.is));
}
