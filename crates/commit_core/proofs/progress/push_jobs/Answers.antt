use Rattle.std.proofs.Common.{◌-◌, ◌≤◌, length, sym, ◌∙◌, subst, arith}
use Rattle.word_model.specs.Machine.{pairs_with, jobs_of}
use Rattle.word_model.specs.declared.records.Mode.TheVariants.{TwoSided}
use Rattle.word_model.specs.declared.records.Mode.{Mode}
use Rattle.word_model.specs.declared.records.Job.TheVariants.{Right}
use Rattle.pair_strategy.specs.Queues.{jobs_in}
use Rattle.commit_core.proofs.Bringing.{length-brought, absent-append, pair-absent, right-absent, right-no_pair, brought-pairs}
use Rattle.commit_core.proofs.progress.push_jobs.Goals as goal

pub push_pairs-requires-clause-spare : goal.push_pairs-requires-clause-spare
push_pairs-requires-clause-spare c =
    let m = length c.args.basis.now.items in
    omega (arith, c.len-m.ensures, c.requires.spare, brought-pairs c.args.mode c.args.alg.now.order.vars m)

pub push_pairs-requires-clause-absent : goal.push_pairs-requires-clause-absent
push_pairs-requires-clause-absent c = λ i.
    pair-absent (length c.args.gens.now) (length c.args.basis.now.items - 1) c.len-m.result (omega (arith, c.len-m.ensures, c.requires.some)) (jobs_in c.args.queue.now.items) i c.requires.jobs

pub push_rights-requires-clause-spare : goal.push_rights-requires-clause-spare
push_rights-requires-clause-spare c =
    let m = length c.args.basis.now.items in
    let n = c.args.alg.now.order.vars in
    let room : length (jobs_of TwoSided n m) ≤ c.args.queue.now.spare = subst (λ (mode : Mode). length (jobs_of mode n m) ≤ c.args.queue.now.spare) c.in-TwoSided.is c.requires.spare in
    let count = length-brought n m in
    omega (arith, c.len-m.ensures, room, count.1, c.push_pairs.ensures.spare)

pub push_rights-requires-clause-absent : goal.push_rights-requires-clause-absent
push_rights-requires-clause-absent c = λ v.
    let m = c.len-m.result in
    let job = Right m v in
    sym (c.push_pairs.ensures.jobs job)
    ∙ absent-append (jobs_in c.args.queue.now.items) (pairs_with m (m - 1)) job
    (right-absent (length c.args.gens.now) (length c.args.basis.now.items - 1) m (omega (arith, c.len-m.ensures, c.requires.some)) (jobs_in c.args.queue.now.items) v c.requires.jobs)
    (right-no_pair m (m - 1) m v)
