use Rattle.std.proofs.Common.{◌≡◌}
use Rattle.monomials.specs.Polynomials.{Each}
use Rattle.word_model.specs.Machine.{IsElement}
use Rattle.crew.proofs.desk.Desk.worked.Given as goal

abbrev pub invariant-loop : goal.invariant-loop
invariant-loop g l = record {
  seat : l.seat.algebra ≡ l.self.algebra;
  view : Each (IsElement l.self.algebra) l.view;
}
