use Rattle.std.proofs.Common.{◌≡◌, take, List, ℤ, reverse}
use Rattle.monomials.specs.Orders.{order_cmp}
use Rattle.monomials.specs.Polynomials.{from_terms, HasNumbers}
use Rattle.gpoly.specs.Terms.{pairs_of}
use Rattle.gpoly.specs.Inside.Sorting.{IsFalling}
use Rattle.gpoly.proofs.sums.rising_sums.Given as goal

abbrev pub invariant-loop-term : goal.invariant-loop-term
invariant-loop-term l = record {
  numbers : HasNumbers l.field (pairs_of l.sums.items);
  sum : (rows : List (List ℤ)) → IsFalling (order_cmp rows) (reverse (pairs_of l.rising)) →
      reverse (pairs_of l.sums.items) ≡ from_terms (order_cmp rows) l.field (reverse (pairs_of (take l.term-index l.rising)));
}
