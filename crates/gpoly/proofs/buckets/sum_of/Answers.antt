use Rattle.std.proofs.Common.{◌≡◌, ◌∙◌, sym, ap, subst, arith}
use Rattle.monomials.specs.Orders.{order_cmp}
use Rattle.monomials.specs.Polynomials.{poly_add}
use Rattle.gpoly.specs.Terms.{pairs_of, IsTermList}
use Rattle.gpoly.proofs.Multiples.{poly_scale-one}
use Rattle.gpoly.proofs.TermLists.{IsTermList-poly_add}
use Rattle.gpoly.proofs.buckets.sum_of.Goals as goal

-- the merged terms are the sum
whole : (c : goal.In_ok-terms)
    → pairs_of c.in_ok-terms.terms.items ≡ poly_add (order_cmp c.args.order.now.rows) c.args.field (pairs_of c.args.left.now) (pairs_of c.args.right.now)
whole c =
    c.in_ok-terms.ensures
    ∙ ap (poly_add (order_cmp c.args.order.now.rows) c.args.field (pairs_of c.args.left.now))
    (poly_scale-one (order_cmp c.args.order.now.rows) c.args.field (pairs_of c.args.right.now) c.requires.right.canonical)

pub invariant_of-result : goal.invariant_of-result
invariant_of-result c =
    subst IsTermList (sym (whole c))
    (IsTermList-poly_add c.args.field c.args.order.now (pairs_of c.args.left.now) (pairs_of c.args.right.now) (omega (arith, c.p-p.ensures.prime.above_one))
    c.requires.left_terms c.requires.right_terms c.requires.left c.requires.right)

pub returns : goal.returns
returns c = whole c
