use Rattle.std.proofs.Common.{rules, ◌≡◌, ◌<◌, ◌*◌, ◌%◌, ◌∙◌, sym, ap, subst, arith}
use Rattle.monomials.specs.Polynomials.{HasNumbers, IsPolynomial, poly_scale, coefficient_at}
use Rattle.monomials.proofs.Operations.{HasNumbers-poly_scale, IsPolynomial-poly_scale, coefficient_of_multiple}
use Rattle.gpoly.specs.Terms.{pairs_of, IsTermList}
use Rattle.gpoly.proofs.TermLists.{IsTermList-poly_scale}
use Rattle.gpoly.proofs.GPoly.into_monic.Goals as goal

-- the terms are the multiple
whole : (c : goal.After-scaled-terms) → pairs_of c.scaled-terms.result.items ≡ poly_scale c.args.field c.inv-k.result (pairs_of c.self.inside.terms.items)
whole c = search rules

positive : (c : goal.After-scaled-terms) → 0 < c.args.field
positive c = omega (arith, c.inv-k.ensures.in_range)

pub invariant_of-result : goal.invariant_of-result
invariant_of-result c =
    subst IsTermList (sym (whole c)) (IsTermList-poly_scale c.args.field c.inv-k.result (pairs_of c.self.inside.terms.items) c.self.invariant)

pub returns-clause-sorted : goal.returns-clause-sorted
returns-clause-sorted c o h =
    subst (IsPolynomial c.args.field o) (sym (whole c ∙ ap (poly_scale c.args.field c.inv-k.result) c.self.view_is))
    (IsPolynomial-poly_scale c.args.field o (positive c) c.inv-k.result c.args.self h)

pub returns-clause-numbers : goal.returns-clause-numbers
returns-clause-numbers c =
    subst (HasNumbers c.args.field) (sym (whole c))
    (HasNumbers-poly_scale c.args.field c.inv-k.result (pairs_of c.self.inside.terms.items) (positive c))

pub returns-clause-map : goal.returns-clause-map
returns-clause-map c m =
    ap (coefficient_at m) (whole c)
    ∙ coefficient_of_multiple c.args.field c.inv-k.result m (pairs_of c.self.inside.terms.items) (positive c) c.self.invariant.apart
    ∙ ap (λ f. c.inv-k.result * coefficient_at m f % c.args.field) c.self.view_is
