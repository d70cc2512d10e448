use Rattle.std.proofs.Common.{◌≡◌, ℕ, ◌+◌, ◌-◌, [], length, get_or}
use Rattle.monomials.specs.Orders.{order_cmp}
use Rattle.gpoly.specs.Sums.{poly_sum, AreSorted, HasRoom}
use Rattle.gpoly.proofs.buckets.Buckets.reach.Given as goal

abbrev pub invariant-loop-alloc : goal.invariant-loop-alloc
invariant-loop-alloc l = record {
  sorted : AreSorted l.fn.field l.order l.self-inside.buckets.items;
  value : poly_sum (order_cmp l.order.rows) l.fn.field l.self-inside.buckets.items ≡ poly_sum (order_cmp l.order.rows) l.fn.field l.initial.self-inside.buckets.items;
  room : HasRoom l.self-inside.buckets.items;
  same : (j : ℕ) → get_or l.self-inside.buckets.items j [] ≡ get_or l.initial.self-inside.buckets.items j [];
}

abbrev pub decreases-loop-alloc : goal.decreases-loop-alloc
decreases-loop-alloc l = (l.k + 1) - length l.self-inside.buckets.items
