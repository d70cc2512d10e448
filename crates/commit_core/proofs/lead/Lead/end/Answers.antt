use Rattle.std.proofs.Common.{sym, subst}
use Rattle.word_model.specs.Machine.{Over}
use Rattle.commit_core.specs.Leads.{Run}
use Rattle.commit_core.specs.Kept.{Turns, state_of, kept_run}
use Rattle.commit_core.proofs.Leading.{lead-ends}
use Rattle.commit_core.proofs.lead.Lead.end.Goals as goal

pub invariant_of-self : goal.invariant_of-self
invariant_of-self c =
    let lead = c.self.inside in
    lead-ends lead.algebra.value lead.generators.items lead.mode lead.budget lead.outcome (state_of (kept_run lead)) lead.progress.queue c.args.outcome c.self.invariant
    (subst (λ (run : Run). Turns run (λ s. Over c.args.outcome)) (sym c.self.view_is) c.requires.over)
