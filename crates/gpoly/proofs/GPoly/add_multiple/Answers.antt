use Rattle.std.proofs.Common.{◌≡◌, ◌<◌, ◌∙◌, sym, ap, subst, arith, rules}
use Rattle.monomials.specs.Orders.{order_cmp}
use Rattle.monomials.specs.Polynomials.{IsPolynomial, poly_add, poly_scale, coefficient_at}
use Rattle.monomials.proofs.Operations.{HasNumbers-polynomial, IsPolynomial-poly_add, IsPolynomial-poly_scale}
use Rattle.gpoly.specs.Terms.{pairs_of, IsTermList}
use Rattle.gpoly.proofs.Multiples.{coefficient_of_sum_with}
use Rattle.gpoly.proofs.TermLists.{IsTermList-poly_add, IsTermList-poly_scale}
use Rattle.gpoly.proofs.GPoly.add_multiple.Goals as goal

-- the merged terms are the sum with the multiple
whole : (c : goal.In_ok-terms)
    → pairs_of c.in_ok-terms.terms.items ≡ poly_add (order_cmp c.args.order.now.rows) c.args.field c.args.self.now (poly_scale c.args.field c.args.k c.args.other.now)
whole c = search rules

positive : (c : goal.In_ok-terms) → 0 < c.args.field
positive c = omega (arith, c.p-p.ensures.prime.above_one)

-- the multiple is sorted
multiple : (c : goal.In_ok-terms) → IsPolynomial c.args.field c.args.order.now (poly_scale c.args.field c.args.k c.args.other.now)
multiple c = IsPolynomial-poly_scale c.args.field c.args.order.now (positive c) c.args.k c.args.other.now c.requires.other_sorted

pub invariant_of-result : goal.invariant_of-result
invariant_of-result c =
    subst IsTermList (sym (whole c))
    (IsTermList-poly_add c.args.field c.args.order.now c.args.self.now (poly_scale c.args.field c.args.k c.args.other.now) (positive c)
    (subst IsTermList c.self.view_is c.self.invariant)
    (IsTermList-poly_scale c.args.field c.args.k c.args.other.now (subst IsTermList c.other.view_is c.other.invariant))
    c.requires.self_sorted (multiple c))

pub returns-clause-sorted : goal.returns-clause-sorted
returns-clause-sorted c =
    subst (IsPolynomial c.args.field c.args.order.now) (sym (whole c))
    (IsPolynomial-poly_add c.args.field c.args.order.now (positive c) c.args.self.now (poly_scale c.args.field c.args.k c.args.other.now) c.requires.self_sorted (multiple c))

pub returns-clause-numbers : goal.returns-clause-numbers
returns-clause-numbers c =
    HasNumbers-polynomial c.args.field c.args.order.now (pairs_of c.in_ok-terms.terms.items) (returns-clause-sorted c)

pub returns-clause-map : goal.returns-clause-map
returns-clause-map c m =
    ap (coefficient_at m) (whole c)
    ∙ coefficient_of_sum_with c.args.field c.args.order.now (positive c) c.args.k m c.args.self.now c.args.other.now c.requires.self_sorted c.requires.other_sorted
