use Rattle.std.proofs.Common.{◌≡◌, drop}
use Rattle.commit_core.specs.Leads.{IsSameRun}
use Rattle.replay.specs.Worlds.{CoreWorld, after_events}
use Rattle.replay.specs.Shown.{Shows, Fits}
use Rattle.replay.proofs.world.replayed.Given as goal

abbrev pub invariant-loop-k : goal.invariant-loop-k
invariant-loop-k g l = record {
  seat : l.seat.algebra ≡ l.world.lead.algebra;
  same : IsSameRun l.fn.world.lead l.world.lead;
  shown : (w : CoreWorld) → Shows l.fn.world w → Fits l.fn.world w → (v : CoreWorld) × Shows l.world v × Fits l.world v
      × (after_events l.fn.world.lead.algebra l.fn.world.lead.generators l.fn.world.lead.mode l.fn.world.lead.budget v (drop l.k l.events)
      ≡ after_events l.fn.world.lead.algebra l.fn.world.lead.generators l.fn.world.lead.mode l.fn.world.lead.budget w l.events);
}
