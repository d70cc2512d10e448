use Rattle.std.proofs.Common.{◌≡◌, [], ◌≤◌, length}
use Rattle.gproduct.specs.Seats.{Keeps}
use Rattle.gproduct.specs.Inside.Factors.{factor_count}
use Rattle.gproduct.proofs.Stages.{IsStage}
use Rattle.gproduct.proofs.products.staged_times.Given as goal

abbrev pub invariant-loop-v : goal.invariant-loop-v
invariant-loop-v l = record {
  counted : factor_count l.pending.open.items ≡ length l.pending.factors.items;
  empty : l.pending.open.items ≡ [];
  at_most : l.v ≤ l.fn.seat.algebra.order.vars;
  stage : IsStage l.fn.seat.algebra l.coef l.mono l.f l.v l.product;
  algebra : l.seat.algebra ≡ l.fn.seat.algebra;
  kept : Keeps l.fn.seat l.seat;
}

abbrev pub decreases-loop-v : goal.decreases-loop-v
decreases-loop-v l = l.v
