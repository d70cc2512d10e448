use Rattle.std.proofs.Common.{◌≡◌, ◌++◌, map, take, drop, length}
use Rattle.monomials.specs.Orders.{order_cmp}
use Rattle.gpoly.specs.Inside.Leads.{without}
use Rattle.gpoly.proofs.buckets.Buckets.take_off.Given as goal

abbrev pub invariant-loop-k : goal.invariant-loop-k
invariant-loop-k l = record {
  items :
      l.self-inside.buckets.items
      ≡ map (without (order_cmp l.order.rows) l.mono) (take l.k l.initial.self-inside.buckets.items) ++ drop l.k l.initial.self-inside.buckets.items;
  length : length l.self-inside.buckets.items ≡ length l.initial.self-inside.buckets.items;
}
