use Rattle.std.proofs.Common.{◌≡◌, drop}
use Rattle.monomials.specs.Polynomials.{Each}
use Rattle.gproduct.specs.Seats.{Keeps}
use Rattle.two_sided.specs.Checks.{IsTerm, first_answer, finals_answers}
use Rattle.two_sided.proofs.lists.list_holds.Given as goal

abbrev pub invariant-loop-place : goal.invariant-loop-place
invariant-loop-place g l = record {
  answers :
      first_answer (finals_answers l.fn.seat.algebra l.basis l.list.items l.origin.items l.tails.items)
      ≡ first_answer (finals_answers l.fn.seat.algebra l.basis (drop l.place l.list.items) (drop l.place l.origin.items) (drop l.place l.tails.items));
  terms : Each (Each (IsTerm l.fn.seat.algebra)) (drop l.place l.tails.items);
  algebra : l.seat.algebra ≡ l.fn.seat.algebra;
  kept : Keeps l.fn.seat l.seat;
}
