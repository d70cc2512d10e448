use Rattle.std.proofs.Common.{rules, ◌≡◌, ◌∙◌, sym, ap, subst, arith}
use Rattle.monomials.specs.Polynomials.{IsPolynomial, poly_scale}
use Rattle.monomials.proofs.Operations.{IsPolynomial-poly_scale}
use Rattle.gpoly.specs.Terms.{pairs_of, IsTermList}
use Rattle.gpoly.proofs.TermLists.{IsTermList-poly_scale}
use Rattle.gpoly.proofs.GPoly.into_multiple.Goals as goal

-- the terms are the multiple
whole : (c : goal.After-scaled-terms) → pairs_of c.scaled-terms.result.items ≡ poly_scale c.args.field c.args.k (pairs_of c.self.inside.terms.items)
whole c = search rules

pub invariant_of-result : goal.invariant_of-result
invariant_of-result c =
    subst IsTermList (sym (whole c)) (IsTermList-poly_scale c.args.field c.args.k (pairs_of c.self.inside.terms.items) c.self.invariant)

pub returns-clause-sorted : goal.returns-clause-sorted
returns-clause-sorted c o h =
    subst (IsPolynomial c.args.field o) (sym (whole c ∙ ap (poly_scale c.args.field c.args.k) c.self.view_is))
    (IsPolynomial-poly_scale c.args.field o (omega (arith, c.requires.in_range)) c.args.k c.args.self h)
