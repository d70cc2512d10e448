use Rattle.std.proofs.Common.{◌≡◌, ◌-◌, length}
use Rattle.monomials.specs.Polynomials.{Each}
use Rattle.word_model.specs.Machine.{IsElement}
use Rattle.commit_core.specs.Leads.{IsSameRun}
use Rattle.crew.proofs.desk.Desk.led.Given as goal

abbrev pub invariant-loop-lead : goal.invariant-loop-lead
invariant-loop-lead g l = record {
  seat : l.seat.algebra ≡ l.self.algebra;
  algebra : l.lead.algebra ≡ l.self.algebra;
  view : Each (IsElement l.self.algebra) l.view;
  same : IsSameRun l.fn.lead l.lead;
}

abbrev pub decreases-loop-lead : goal.decreases-loop-lead
decreases-loop-lead g l = l.lead.budget - length l.lead.entries
