use Rattle.std.proofs.Common.{◌≡◌, ◌+◌, ◌≤◌, max, length}
use Rattle.monomials.specs.Polynomials.{poly_degree}
use Rattle.word_model.specs.Products.{degree_limit}
use Rattle.gproduct.specs.Seats.{Keeps}
use Rattle.left_reduce.specs.Inside.Steps.{target_by, reduction_by, after_steps, whole_of, IsWork}
use Rattle.left_reduce.proofs.Falling.{steps_after}
use Rattle.left_reduce.proofs.stepping.all_steps.Given as goal

abbrev pub invariant-loop-work : goal.invariant-loop-work
invariant-loop-work g l =
    let A = l.initial.seat.algebra in
    let G = g.B.Elements.elements l.basis in
    record {
      algebra : l.seat.algebra ≡ A;
      kept : Keeps l.initial.seat l.seat;
      work : IsWork A.p A.order l.aim G l.work;
      low : poly_degree (whole_of A.p A.order l.work) ≤ max degree_limit (poly_degree (whole_of A.p A.order l.initial.work));
      value :
          after_steps l.initial.trace (reduction_by l.aim A G (whole_of A.p A.order l.initial.work))
          ≡ after_steps l.trace (reduction_by l.aim A G (whole_of A.p A.order l.work));
      counted : l.steps + length l.initial.trace ≡ l.initial.steps + length l.trace;
    }

abbrev pub decreases-loop-work : goal.decreases-loop-work
decreases-loop-work g l =
    let A = l.initial.seat.algebra in
    steps_after A (max degree_limit (poly_degree (whole_of A.p A.order l.initial.work))) (target_by l.aim (g.B.Elements.elements l.basis) (whole_of A.p A.order l.work))
