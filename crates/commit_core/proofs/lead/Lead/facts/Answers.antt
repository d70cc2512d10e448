use Rattle.std.proofs.Common.{subst}
use Rattle.commit_core.specs.Leads.{IsLead}
use Rattle.commit_core.specs.Kept.{kept_run}
use Rattle.commit_core.proofs.Leading.{lead-is}
use Rattle.commit_core.proofs.lead.Lead.facts.Goals as goal

pub returns : goal.returns
returns c = subst IsLead c.self.view_is (lead-is (kept_run c.self.inside) c.self.inside.progress.queue c.self.invariant c.first.ensures.facts)
