use Rattle.std.proofs.Common.{◌≡◌}
use Rattle.monomials.specs.Orders.{order_cmp}
use Rattle.gpoly.specs.Sums.{poly_sum, AreSorted}
use Rattle.gpoly.proofs.Gathered.{terms_in}
use Rattle.gpoly.proofs.buckets.Buckets.lead.Given as goal

abbrev pub invariant-loop-mono : goal.invariant-loop-mono
invariant-loop-mono l = record {
  sorted : AreSorted l.field l.order l.self;
  value : poly_sum (order_cmp l.order.rows) l.field l.self ≡ poly_sum (order_cmp l.order.rows) l.field l.initial.self;
}

abbrev pub decreases-loop-mono : goal.decreases-loop-mono
decreases-loop-mono l = terms_in l.self
