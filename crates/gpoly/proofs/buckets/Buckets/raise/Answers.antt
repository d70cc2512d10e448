use Rattle.std.proofs.Common.{◌≡◌, ◌≢◌, ◌+◌, ◌<◌, [], length, get_or, set, sym, ap, ◌∙◌, subst, arith}
use Rattle.monomials.specs.Orders.{order_cmp}
use Rattle.monomials.specs.Polynomials.{poly_add}
use Rattle.gpoly.specs.Sums.{poly_sum, AreSorted, HasRoom}
use Rattle.gpoly.specs.Inside.Spilling.{Fits}
use Rattle.gpoly.proofs.Gathered.{sum_raised}
use Rattle.gpoly.proofs.Rooms.{HasRoom-raised}
use Rattle.gpoly.proofs.buckets.Buckets.raise.Goals as goal
use Rattle.gpoly.proofs.buckets.Buckets.raise.Goals.{After-new}

-- the new bucket
sum_is : (c : After-new)
    → c.in_ok-sum.sum
    ≡ poly_add (order_cmp c.args.order.now.rows) c.args.field (get_or c.self.inside.buckets.items c.args.k c.index.result.now)
    (get_or c.self.inside.buckets.items (c.args.k + 1) c.index-2.result.now)
sum_is c =
    c.in_ok-sum.ensures ∙ (λ j. poly_add (order_cmp c.args.order.now.rows) c.args.field (c.index.ensures j) (c.index-2.ensures j))

-- with both buckets replaced, each has room
has_room : (c : After-new)
    → HasRoom (set (set c.self.inside.buckets.items (c.args.k + 1) c.in_ok-sum.sum) c.args.k c.new.result)
has_room c =
    let p = c.args.field in
    let o = c.args.order.now in
    let k = c.args.k in
    let bs = c.self.inside.buckets.items in
    let above : k + 1 < length bs = omega (arith, c.requires.inside, ap length c.self.view_is) in
    subst (λ b. HasRoom (set (set bs (k + 1) c.in_ok-sum.sum) k b)) (sym c.new.ensures)
    (subst (λ s. HasRoom (set (set bs (k + 1) s) k [])) (sym (sum_is c))
    (HasRoom-raised (order_cmp o.rows) p bs k c.index.result.now c.index-2.result.now above c.self.invariant
    (subst (λ fs. Fits (k + 1) (length (get_or fs k []) + length (get_or fs (k + 1) []))) (sym c.self.view_is) c.requires.room)))

-- with both buckets replaced, the buckets are sorted, and their sum is as before
raised : (c : After-new)
    → (AreSorted c.args.field c.args.order.now (set (set c.self.inside.buckets.items (c.args.k + 1) c.in_ok-sum.sum) c.args.k c.new.result))
    × (poly_sum (order_cmp c.args.order.now.rows) c.args.field (set (set c.self.inside.buckets.items (c.args.k + 1) c.in_ok-sum.sum) c.args.k c.new.result)
    ≡ poly_sum (order_cmp c.args.order.now.rows) c.args.field c.self.inside.buckets.items)
raised c =
    let p = c.args.field in
    let o = c.args.order.now in
    let k = c.args.k in
    let bs = c.self.inside.buckets.items in
    let low = c.index.result.now in
    let high = c.index-2.result.now in
    let above : k + 1 < length bs = omega (arith, c.requires.inside, ap length c.self.view_is) in
    let differ : k ≢ k + 1 = λ e. omega (arith, e) in
    subst (λ b. (AreSorted p o (set (set bs (k + 1) c.in_ok-sum.sum) k b)) × (poly_sum (order_cmp o.rows) p (set (set bs (k + 1) c.in_ok-sum.sum) k b) ≡ poly_sum (order_cmp o.rows) p bs))
    (sym c.new.ensures)
    (subst (λ s. (AreSorted p o (set (set bs (k + 1) s) k [])) × (poly_sum (order_cmp o.rows) p (set (set bs (k + 1) s) k []) ≡ poly_sum (order_cmp o.rows) p bs))
    (sym (sum_is c))
    (sum_raised p o (omega (arith, c.p-p.ensures.prime.above_one)) bs k (k + 1) low high
    (subst (AreSorted p o) (sym c.self.view_is) c.requires.sorted) (omega (arith, above)) above differ))

pub returns-clause-sorted : goal.returns-clause-sorted
returns-clause-sorted c = (raised (goal.at.returns-clause-sorted c).After-new).0

pub returns-clause-value : goal.returns-clause-value
returns-clause-value c =
    (raised (goal.at.returns-clause-value c).After-new).1 ∙ ap (poly_sum (order_cmp c.args.order.now.rows) c.args.field) c.self.view_is

pub invariant_of-self : goal.invariant_of-self
invariant_of-self c = has_room (goal.at.invariant_of-self c).After-new

pub returns-clause-short : goal.returns-clause-short
returns-clause-short c = has_room (goal.at.returns-clause-short c).After-new
