use Rattle.std.proofs.Common.{◌∙◌, ap, subst}
use Rattle.std.specs.List.Sorted.{IsPermutation}
use Rattle.monomials.specs.Polynomials.{Polynomial}
use Rattle.gpoly.specs.Terms.{pairs_of, IsTermList}
use Rattle.gpoly.proofs.Reordering.{terms_reordered, numbers_reordered, sorted_reordered, value_reordered, vars_reordered, map_reordered}
use Rattle.gpoly.proofs.GPoly.reorder.Goals as goal

-- the sorted terms are those of the polynomial
moved : (c : goal.In_ok-terms) → IsPermutation c.args.self.now (pairs_of c.in_ok-terms.terms.items)
moved c =
    subst (λ (f : Polynomial). IsPermutation f (pairs_of c.in_ok-terms.terms.items)) (ap pairs_of c.deref.ensures.value ∙ c.self.view_is)
    c.in_ok-terms.ensures.moved

terms : (c : goal.In_ok-terms) → IsTermList c.args.self.now
terms c = subst IsTermList c.self.view_is c.self.invariant

pub invariant_of-result : goal.invariant_of-result
invariant_of-result c =
    terms_reordered c.args.order.now c.args.self.now (pairs_of c.in_ok-terms.terms.items) (terms c) (moved c) c.in_ok-terms.ensures.falls

pub returns-clause-value : goal.returns-clause-value
returns-clause-value c =
    value_reordered c.args.order.now c.args.self.now (pairs_of c.in_ok-terms.terms.items) (terms c) (moved c) c.in_ok-terms.ensures.falls

pub returns-clause-sorted : goal.returns-clause-sorted
returns-clause-sorted c =
    sorted_reordered c.args.order.now c.args.self.now (pairs_of c.in_ok-terms.terms.items) (terms c) (moved c) c.in_ok-terms.ensures.falls c.requires

pub returns-clause-numbers : goal.returns-clause-numbers
returns-clause-numbers c =
    numbers_reordered c.args.order.now c.args.self.now (pairs_of c.in_ok-terms.terms.items) (terms c) (moved c) c.in_ok-terms.ensures.falls

pub returns-clause-map : goal.returns-clause-map
returns-clause-map c =
    map_reordered c.args.order.now c.args.self.now (pairs_of c.in_ok-terms.terms.items) (terms c) (moved c) c.in_ok-terms.ensures.falls

pub returns-clause-vars : goal.returns-clause-vars
returns-clause-vars c =
    vars_reordered c.args.order.now c.args.self.now (pairs_of c.in_ok-terms.terms.items) (terms c) (moved c) c.in_ok-terms.ensures.falls c.requires
