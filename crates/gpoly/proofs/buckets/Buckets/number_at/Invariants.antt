use Rattle.std.proofs.Common.{◌≡◌, ◌<◌, drop}
use Rattle.monomials.specs.Orders.{order_cmp}
use Rattle.gpoly.specs.Inside.Leads.{numbers_from}
use Rattle.gpoly.proofs.buckets.Buckets.number_at.Given as goal

abbrev pub invariant-loop-bucket : goal.invariant-loop-bucket
invariant-loop-bucket l = record {
  value :
      numbers_from (order_cmp l.order.rows) l.field l.mono l.number (drop l.bucket-index l.bucket-items)
      ≡ numbers_from (order_cmp l.order.rows) l.field l.mono 0 l.self;
  in_range : l.number < l.field;
}
