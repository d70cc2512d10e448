use Rattle.std.proofs.Common.{◌≡◌, length, Some, None, sym, ap, ◌∙◌, arith}
use Rattle.commit_core.specs.Leads.{Run}
use Rattle.commit_core.proofs.Leading.{turn-finished, turn-spent, turn-job, turn-by}
use Rattle.commit_core.proofs.lead.Lead.commit.Goals as goal

pub end-requires : goal.end-requires
end-requires g c = record { over = turn-finished c.args.self.now c.in_default-first.ensures.value }

pub end-requires-then-self-len : goal.end-requires-then-self-len
end-requires-then-self-len g c =
    let run = c.args.self.now in
    let some = c.in-Some-first.ensures.value in
    let count : length run.entries ≡ c.len.result = ap (λ (run : Run). length run.entries) (sym c.self.view_is) ∙ omega (arith, c.len.ensures, c.self.inside.progress.entries.ok.0) in
    let budget : run.budget ≡ c.self.inside.budget = ap (λ (run : Run). run.budget) (sym c.self.view_is) in
    record { over = turn-spent run c.in-Some-first.first.now some.0 some.1 (omega (arith, count, budget, c.if-self-len.true)) }

pub enter-requires-clause-turn : goal.enter-requires-clause-turn
enter-requires-clause-turn g c =
    let run = c.args.self.now in
    let some = c.in-Some-first.ensures.value in
    let count : length run.entries ≡ c.len.result = ap (λ (run : Run). length run.entries) (sym c.self.view_is) ∙ omega (arith, c.len.ensures, c.self.inside.progress.entries.ok.0) in
    let budget : run.budget ≡ c.self.inside.budget = ap (λ (run : Run). run.budget) (sym c.self.view_is) in
    let job = c.in-Some-first.first.now in
    turn-by run job (Some c.in-Some-witness.by) c.in-Some-witness.ensures
    (turn-job run job some.0 some.1 (omega (arith, count, budget, c.if-self-len.false)) c.in-Some-first.ensures.least c.queues_are_sets.ensures.witness)

pub reduce_job-requires-clause-turn : goal.reduce_job-requires-clause-turn
reduce_job-requires-clause-turn g c =
    let run = c.args.self.now in
    let some = c.in-Some-first.ensures.value in
    let count : length run.entries ≡ c.len.result = ap (λ (run : Run). length run.entries) (sym c.self.view_is) ∙ omega (arith, c.len.ensures, c.self.inside.progress.entries.ok.0) in
    let budget : run.budget ≡ c.self.inside.budget = ap (λ (run : Run). run.budget) (sym c.self.view_is) in
    let job = c.in-Some-first.first.now in
    turn-by run job None c.in-None.ensures
    (turn-job run job some.0 some.1 (omega (arith, count, budget, c.if-self-len.false)) c.in-Some-first.ensures.least c.queues_are_sets.ensures.witness)
