use Rattle.std.proofs.Common.{◌≡◌, ◌-◌, length, None}
use Rattle.commit_core.specs.Leads.{IsSameRun}
use Rattle.commit_core.proofs.led.Given as goal

abbrev pub invariant-loop-lead : goal.invariant-loop-lead
invariant-loop-lead g l = record {
  algebra : l.seat.algebra ≡ l.lead.algebra;
  going : l.lead.outcome ≡ None;
  same : IsSameRun l.fn.lead l.lead;
}

abbrev pub decreases-loop-lead : goal.decreases-loop-lead
decreases-loop-lead g l = l.lead.budget - length l.lead.entries
