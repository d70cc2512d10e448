use Rattle.std.proofs.Common.{rules, ◌≡◌, ◌*◌, ◌%◌, ◌∙◌, sym, ap, subst, arith}
use Rattle.monomials.specs.Polynomials.{HasNumbers, IsPolynomial, poly_scale, coefficient_at}
use Rattle.monomials.proofs.Operations.{HasNumbers-poly_scale, IsPolynomial-poly_scale, coefficient_of_multiple}
use Rattle.gpoly.specs.Terms.{pairs_of, IsTermList}
use Rattle.gpoly.proofs.TermLists.{IsTermList-poly_scale}
use Rattle.gpoly.proofs.GPoly.scale.Goals as goal

-- the terms that were pushed are the multiple
whole : (c : goal.In_ok-push_multiples) → pairs_of c.push_multiples.new.multiples.items ≡ poly_scale c.args.field c.args.k (pairs_of c.self.inside.terms.items)
whole c = search rules

pub invariant_of-result : goal.invariant_of-result
invariant_of-result c =
    subst IsTermList (sym (whole c)) (IsTermList-poly_scale c.args.field c.args.k (pairs_of c.self.inside.terms.items) c.self.invariant)

pub returns-clause-sorted : goal.returns-clause-sorted
returns-clause-sorted c o h =
    subst (IsPolynomial c.args.field o) (sym (whole c ∙ ap (poly_scale c.args.field c.args.k) c.self.view_is))
    (IsPolynomial-poly_scale c.args.field o (omega (arith, c.p-p.ensures.prime.above_one)) c.args.k c.args.self.now h)

pub returns-clause-numbers : goal.returns-clause-numbers
returns-clause-numbers c =
    subst (HasNumbers c.args.field) (sym (whole c))
    (HasNumbers-poly_scale c.args.field c.args.k (pairs_of c.self.inside.terms.items) (omega (arith, c.p-p.ensures.prime.above_one)))

pub returns-clause-map : goal.returns-clause-map
returns-clause-map c m =
    ap (coefficient_at m) (whole c)
    ∙ coefficient_of_multiple c.args.field c.args.k m (pairs_of c.self.inside.terms.items) (omega (arith, c.p-p.ensures.prime.above_one)) c.self.invariant.apart
    ∙ ap (λ f. c.args.k * coefficient_at m f % c.args.field) c.self.view_is
