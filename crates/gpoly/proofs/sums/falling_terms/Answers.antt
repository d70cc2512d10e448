use Rattle.std.proofs.Common.{◌∙◌, sym, ap, subst, List}
use Rattle.std.proofs.lemmas.List.Sorted.{IsPermutation-map, IsPermutation-trans}
use Rattle.monomials.specs.Orders.{order_cmp}
use Rattle.gpoly.specs.declared.Term.{Term}
use Rattle.gpoly.specs.Inside.Sorting.{IsFalling}
use Rattle.gpoly.specs.Terms.{pair_of, pairs_of}
use Rattle.gpoly.proofs.Lists.{map-reverse}
use Rattle.gpoly.proofs.sums.falling_terms.Goals as goal

pub returns-clause-moved : goal.returns-clause-moved
returns-clause-moved c =
    let rising : List Term = c.in_ok-falling.falling.items in
    IsPermutation-map pair_of c.args.terms.now c.reverse.new.self.items
    (IsPermutation-trans c.args.terms.now rising c.reverse.new.self.items c.in_ok-falling.ensures.moved c.reverse.ensures.permutation)

pub returns-clause-falls : goal.returns-clause-falls
returns-clause-falls c =
    subst (IsFalling (order_cmp c.args.order.now.rows))
    (sym (ap pairs_of c.reverse.ensures.items ∙ map-reverse pair_of c.in_ok-falling.falling.items)) c.in_ok-falling.ensures.rises
