use Rattle.std.proofs.Common.{refl, sym, ap, ◌∙◌, subst}
use Rattle.word_model.specs.Machine.{State, On, with_entry}
use Rattle.pair_strategy.specs.Queues.{jobs_in}
use Rattle.commit_core.specs.Leads.{Run}
use Rattle.commit_core.specs.Kept.{Turns, state_of, kept_run}
use Rattle.commit_core.proofs.Leading.{lead-enters}
use Rattle.commit_core.proofs.lead.Lead.enter.Goals as goal

pub invariant_of-self-2 : goal.invariant_of-self-2
invariant_of-self-2 c =
    let lead = c.self.inside in
    let now = c.enter.new.self in
    let is = c.in_ok-enter.ensures in
    let after : State = record { entries = now.entries.items; basis = now.basis.items; sugars = now.sugars.items; queue = jobs_in now.queue.items } in
    let turn = subst (λ (run : Run). Turns run (λ x. On (with_entry x c.args.job c.args.entry))) (sym c.self.view_is) c.requires.turn in
    lead-enters lead.algebra.value lead.generators.items lead.mode lead.budget lead.outcome (state_of (kept_run lead)) after lead.progress.queue now.queue c.args.job c.requires.first.0 c.args.entry
    (ap (λ (run : Run). run.outcome) c.self.view_is ∙ c.requires.going) c.queues_are_sets.ensures.taken is.set c.self.invariant
    (ap (λ (run : Run). run.jobs) c.self.view_is ∙ c.requires.first.1) turn is.entries (ap (λ v. v.items) is.basis) (ap (λ v. v.items) is.sugars) is.order is.queue refl
