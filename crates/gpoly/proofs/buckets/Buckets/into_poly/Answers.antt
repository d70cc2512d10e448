use Rattle.std.proofs.Common.{drop, sym, subst, arith}
use Rattle.monomials.specs.Polynomials.{IsPolynomial}
use Rattle.gpoly.specs.Sums.{AreSorted}
use Rattle.gpoly.proofs.Gathered.{IsPolynomial-poly_sum, Each-drop}
use Rattle.gpoly.proofs.buckets.Buckets.into_poly.Goals as goal
use Rattle.gpoly.proofs.buckets.Buckets.into_poly.Goals.{At-loop-k}

-- the sum so far is sorted
sorted : (c : At-loop-k) → IsPolynomial c.args.field c.args.order.now c.loop-k.sum
sorted c =
    let p = c.args.field in
    let o = c.args.order.now in
    let bs = c.self.inside.buckets.items in
    subst (IsPolynomial p o) (sym c.loop-k.invariant.sum)
    (IsPolynomial-poly_sum p o (omega (arith, c.p-p.ensures.prime.above_one)) (drop c.loop-k.k bs)
    (Each-drop (IsPolynomial p o) c.loop-k.k bs (subst (AreSorted p o) (sym c.self.view_is) c.requires.sorted)))

pub added_to-requires-clause-f_sorted : goal.added_to-requires-clause-f_sorted
added_to-requires-clause-f_sorted c = sorted (goal.at.added_to-requires-clause-f_sorted c).At-loop-k

pub returns-clause-sorted : goal.returns-clause-sorted
returns-clause-sorted c = sorted (goal.at.returns-clause-sorted c).At-loop-k
