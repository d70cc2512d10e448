use Rattle.std.proofs.Common.{◌≡◌, ◌≤◌, drop, length}
use Rattle.monomials.specs.Orders.{order_cmp}
use Rattle.gpoly.specs.Sums.{poly_sum}
use Rattle.gpoly.proofs.buckets.Buckets.into_poly.Given as goal

abbrev pub invariant-loop-k : goal.invariant-loop-k
invariant-loop-k l = record {
  inside : l.k ≤ length l.self-inside.buckets.items;
  sum : l.sum ≡ poly_sum (order_cmp l.order.rows) l.field (drop l.k l.self-inside.buckets.items);
  same : l.self-inside.buckets.items ≡ l.initial.self-inside.buckets.items;
}

abbrev pub decreases-loop-k : goal.decreases-loop-k
decreases-loop-k l = l.k
