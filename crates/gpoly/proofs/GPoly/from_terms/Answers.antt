use Rattle.std.proofs.Common.{◌∙◌, sym, ap, subst, arith}
use Rattle.monomials.specs.Polynomials.{IsPolynomial, coefficient_at}
use Rattle.monomials.proofs.Operations.{HasNumbers-polynomial, IsPolynomial-from_terms, coefficient_of_terms}
use Rattle.gpoly.specs.Terms.{pairs_of, IsTermList}
use Rattle.gpoly.proofs.TermLists.{IsTermList-from_terms}
use Rattle.gpoly.proofs.GPoly.from_terms.Goals as goal

pub invariant_of-result : goal.invariant_of-result
invariant_of-result c =
    subst IsTermList (sym c.in_ok-terms.ensures)
    (IsTermList-from_terms c.args.field c.args.order.now (pairs_of c.args.terms.now) (omega (arith, c.p-p.ensures.prime.above_one)) c.requires.small)

pub returns-clause-sorted : goal.returns-clause-sorted
returns-clause-sorted c =
    subst (IsPolynomial c.args.field c.args.order.now) (sym c.in_ok-terms.ensures)
    (IsPolynomial-from_terms c.args.field c.args.order.now (omega (arith, c.p-p.ensures.prime.above_one)) (pairs_of c.args.terms.now) c.requires.vars)

pub returns-clause-numbers : goal.returns-clause-numbers
returns-clause-numbers c = HasNumbers-polynomial c.args.field c.args.order.now (pairs_of c.in_ok-terms.terms.items) (returns-clause-sorted c)

pub returns-clause-map : goal.returns-clause-map
returns-clause-map c m =
    ap (coefficient_at m) c.in_ok-terms.ensures
    ∙ coefficient_of_terms c.args.field c.args.order.now (omega (arith, c.p-p.ensures.prime.above_one)) m (pairs_of c.args.terms.now)
