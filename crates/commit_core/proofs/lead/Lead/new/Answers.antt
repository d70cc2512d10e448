use Rattle.std.proofs.Common.{refl}
use Rattle.word_model.specs.Machine.{State}
use Rattle.pair_strategy.specs.Queues.{jobs_in}
use Rattle.commit_core.proofs.Leading.{lead-first}
use Rattle.commit_core.proofs.lead.Lead.new.Goals as goal

pub invariant_of-result : goal.invariant_of-result
invariant_of-result c =
    let made = c.in_ok-progress.progress in
    let s : State = record { entries = made.entries.items; basis = made.basis.items; sugars = made.sugars.items; queue = jobs_in made.queue.items } in
    let is = c.in_ok-progress.ensures in
    lead-first c.of.result.value c.args.alg.now c.in_ok-copies.field-0.items c.args.gens.now c.args.mode c.args.budget s made.queue c.of.ensures c.in_ok-copies.ensures
    c.n-n.ensures.accepted c.requires.sorted c.requires.few is.entries is.basis is.sugars is.jobs is.order refl is.keys
