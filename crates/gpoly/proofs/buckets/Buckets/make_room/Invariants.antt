use Rattle.std.proofs.Common.{◌≡◌, ◌-◌, ◌<◌, ◌≤◌, length}
use Rattle.monomials.specs.Orders.{order_cmp}
use Rattle.gpoly.specs.Sums.{poly_sum, AreSorted}
use Rattle.gpoly.specs.Inside.Spilling.{Takes}
use Rattle.gpoly.proofs.buckets.Buckets.make_room.Given as goal

abbrev pub invariant-loop-top : goal.invariant-loop-top
invariant-loop-top l = record {
  above : l.k ≤ l.top;
  inside : l.top < length l.self;
  sorted : AreSorted l.field l.order l.self;
  value : poly_sum (order_cmp l.order.rows) l.field l.self ≡ poly_sum (order_cmp l.order.rows) l.field l.initial.self;
  takes : Takes l.k l.count l.self l.top;
}

abbrev pub decreases-loop-top : goal.decreases-loop-top
decreases-loop-top l = l.top - l.k
