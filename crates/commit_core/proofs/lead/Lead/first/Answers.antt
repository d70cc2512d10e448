use Rattle.std.proofs.Common.{◌≡◌, drop, sym, ap, ◌∙◌, subst}
use Rattle.word_model.specs.Jobs.{least_job}
use Rattle.pair_strategy.specs.Queues.{jobs_in}
use Rattle.commit_core.specs.Leads.{Run, IsAt}
use Rattle.commit_core.specs.Kept.{kept_run}
use Rattle.commit_core.proofs.Leading.{first-least}
use Rattle.commit_core.proofs.lead.Lead.first.Goals as goal

pub returns-in-Some-clause-value : goal.returns-in-Some-clause-value
returns-in-Some-clause-value c =
    let rest = drop 1 c.self.inside.progress.queue.items in
    (jobs_in rest, ap (λ (run : Run). run.jobs) (sym c.self.view_is) ∙ ap jobs_in c.in-Some.ensures.first)

pub returns-in-Some-clause-least : goal.returns-in-Some-clause-least
returns-in-Some-clause-least c = λ s a queue at e. (
    let q = c.self.inside.progress.queue in
    subst (λ (run : Run). least_job run.algebra run.generators run.basis run.sugars a queue ≡ c.in-Some.item.now.job) c.self.view_is
    (first-least c.first_is_least.ensures (kept_run c.self.inside) q c.in-Some.item.now (drop 1 q.items) c.self.invariant c.in-Some.ensures.facts c.in-Some.ensures.first s a queue
    (subst (λ (run : Run). IsAt run s) (sym c.self.view_is) at) e)
    )
