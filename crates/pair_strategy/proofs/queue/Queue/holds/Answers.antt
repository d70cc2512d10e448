use Rattle.std.proofs.Common.{sym, ap, ◌∙◌, true≢false}
use Rattle.word_model.specs.Jobs.{is_queued}
use Rattle.pair_strategy.specs.Queues.{JobQueue, jobs_in}
use Rattle.pair_strategy.proofs.Changes.{unnumbered}
use Rattle.pair_strategy.proofs.InOrder.{queued-in_order}
use Rattle.pair_strategy.proofs.queue.Queue.holds.Goals as goal

pub returns-then-has_number : goal.returns-then-has_number
returns-then-has_number c =
    let q = c.self.inside in
    let job = c.args.job.now in
    c.has.ensures
    ∙ c.self.invariant.marks job (c.has_number.ensures.yes c.if-has_number.true)
    ∙ sym (queued-in_order q.order q.items.items job)
    ∙ ap (λ (k : JobQueue). is_queued (jobs_in k.items) job) c.self.view_is

pub returns-else-has_number : goal.returns-else-has_number
returns-else-has_number c =
    let q = c.self.inside in
    let job = c.args.job.now in
    c.if-has_number.false
    ∙ sym (unnumbered q.items.items job c.self.invariant.numbers (λ numbers. true≢false (sym (c.has_number.ensures.no numbers) ∙ c.if-has_number.false)))
    ∙ sym (queued-in_order q.order q.items.items job)
    ∙ ap (λ (k : JobQueue). is_queued (jobs_in k.items) job) c.self.view_is
