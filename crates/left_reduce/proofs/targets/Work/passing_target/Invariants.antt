use Rattle.std.proofs.Common.{◌≡◌, length}
use Rattle.monomials.specs.Orders.{order_cmp}
use Rattle.gpoly.specs.Sums.{poly_sum}
use Rattle.left_reduce.specs.Inside.Steps.{whole_of, IsWork}
use Rattle.left_reduce.proofs.targets.Work.passing_target.Given as goal

abbrev pub invariant-loop-term : goal.invariant-loop-term
invariant-loop-term g l = record {
  work : IsWork l.field l.order l.aim (g.B.Elements.elements l.basis) l.self;
  whole : whole_of l.field l.order l.self ≡ whole_of l.field l.order l.initial.self;
}

abbrev pub decreases-loop-term : goal.decreases-loop-term
decreases-loop-term g l = length (poly_sum (order_cmp l.order.rows) l.field l.self.rest)
