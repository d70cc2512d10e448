use Rattle.std.proofs.Common.{rules, ◌≡◌, subst, List, length}
use Rattle.std.specs.List.Sorted.{IsPermutation, IsSortedBy}
use Rattle.std.proofs.lemmas.Fn.{always_returns_same}
use Rattle.std.proofs.lemmas.List.Sorted.{IsPermutation-map}
use Rattle.monomials.specs.Polynomials.{HasVars}
use Rattle.gpoly.specs.declared.Term.{Term}
use Rattle.gpoly.specs.Terms.{pair_of, pairs_of}
use Rattle.gpoly.proofs.Lists.{Each-IsPermutation}
use Rattle.gpoly.proofs.Sorting.{is_before, is_before_order, falling_sorted}
use Rattle.gpoly.proofs.sums.rising_terms.Goals as goal

pub returns-clause-moved : goal.returns-clause-moved
returns-clause-moved c =
    subst (λ (ts : List Term). IsPermutation ts c.sort_by.new.self.items) c.in_ok-rising.ensures.items c.in_ok-sort_by.ensures.permutation

pub returns-clause-rises : goal.returns-clause-rises
returns-clause-rises c =
    let rising : List Term = c.sort_by.new.self.items in
    let moved : IsPermutation c.args.terms.now rising =
    subst (λ (ts : List Term). IsPermutation ts rising) c.in_ok-rising.ensures.items c.in_ok-sort_by.ensures.permutation in
    let up : IsSortedBy (is_before c.args.order.now) rising =
    c.in_ok-sort_by.ensures.sorted (is_before c.args.order.now) (is_before_order c.args.order.now)
    (always_returns_same _ _ _ (λ a r f k. search rules)) in
    let vars : HasVars c.args.order.now.vars (pairs_of rising) =
    Each-IsPermutation (λ t. length t.1 ≡ c.args.order.now.vars) (pairs_of c.args.terms.now) (pairs_of rising)
    (IsPermutation-map pair_of c.args.terms.now rising moved) c.requires in
    falling_sorted c.args.order.now rising up vars
