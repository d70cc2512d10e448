use Rattle.std.proofs.Common.{◌≡◌, ◌+◌, ◌<◌, [], length, get_or, set, sym, ap, ◌∙◌, subst, arith}
use Rattle.monomials.specs.Orders.{order_cmp}
use Rattle.monomials.specs.Polynomials.{poly_add}
use Rattle.gpoly.specs.Sums.{poly_sum, AreSorted, HasRoom}
use Rattle.gpoly.specs.Inside.Spilling.{Fits}
use Rattle.gpoly.proofs.Gathered.{sum_added}
use Rattle.gpoly.proofs.Rooms.{HasRoom-added}
use Rattle.gpoly.proofs.buckets.Buckets.put.Goals as goal
use Rattle.gpoly.proofs.buckets.Buckets.put.Goals.{After-of}

-- the new bucket
bucket_is : (c : After-of)
    → c.of.result ≡ poly_add (order_cmp c.args.order.now.rows) c.args.field (get_or c.self.inside.buckets.items c.args.k c.index.result.now) c.args.f
bucket_is c =
    c.of.ensures ∙ c.in_ok-sum.ensures ∙ ap (λ b. poly_add (order_cmp c.args.order.now.rows) c.args.field b c.args.f) c.index.ensures

-- with it the buckets are sorted, and their sum is that with f
added : (c : After-of)
    → (AreSorted c.args.field c.args.order.now (set c.self.inside.buckets.items c.args.k c.of.result))
    × (poly_sum (order_cmp c.args.order.now.rows) c.args.field (set c.self.inside.buckets.items c.args.k c.of.result)
    ≡ poly_add (order_cmp c.args.order.now.rows) c.args.field (poly_sum (order_cmp c.args.order.now.rows) c.args.field c.self.inside.buckets.items) c.args.f)
added c =
    let p = c.args.field in
    let o = c.args.order.now in
    let bs = c.self.inside.buckets.items in
    let inside : c.args.k < length bs = omega (arith, c.requires.inside, ap length c.self.view_is) in
    subst
    (λ b. (AreSorted p o (set bs c.args.k b)) × (poly_sum (order_cmp o.rows) p (set bs c.args.k b) ≡ poly_add (order_cmp o.rows) p (poly_sum (order_cmp o.rows) p bs) c.args.f))
    (sym (bucket_is c))
    (sum_added p o (omega (arith, c.p-p.ensures.prime.above_one)) bs c.args.k c.args.f c.index.result.now
    (subst (AreSorted p o) (sym c.self.view_is) c.requires.sorted) c.requires.f_sorted inside)

pub invariant_of-self : goal.invariant_of-self
invariant_of-self c =
    let bs = c.self.inside.buckets.items in
    let inside : c.args.k < length bs = omega (arith, c.requires.inside, ap length c.self.view_is) in
    subst (λ b. HasRoom (set bs c.args.k b)) (sym (bucket_is (goal.at.invariant_of-self c).After-of))
    (HasRoom-added (order_cmp c.args.order.now.rows) c.args.field bs c.args.k c.args.f c.index.result.now inside c.self.invariant
    (subst (λ fs. Fits c.args.k (length (get_or fs c.args.k []) + length c.args.f)) (sym c.self.view_is) c.requires.room))

pub returns-clause-sorted : goal.returns-clause-sorted
returns-clause-sorted c = (added (goal.at.returns-clause-sorted c).After-of).0

pub returns-clause-value : goal.returns-clause-value
returns-clause-value c =
    let p = c.args.field in
    let o = c.args.order.now in
    (added (goal.at.returns-clause-value c).After-of).1
    ∙ ap (λ bs. poly_add (order_cmp o.rows) p (poly_sum (order_cmp o.rows) p bs) c.args.f) c.self.view_is
