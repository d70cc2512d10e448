use Rattle.std.proofs.Common.{◌-◌, sym, ◌∙◌, arith}
use Rattle.word_model.specs.Machine.{pairs_with}
use Rattle.word_model.specs.declared.records.Job.TheVariants.{Pair}
use Rattle.pair_strategy.specs.Queues.{jobs_in}
use Rattle.commit_core.proofs.Bringing.{absent-append, pairs-absent, pairs-step, named-pair}
use Rattle.commit_core.proofs.progress.push_pairs.Goals as goal

pub push_job-requires-clause-named : goal.push_job-requires-clause-named
push_job-requires-clause-named c =
    named-pair c.args.alg.now c.args.gens.now c.args.basis.now.items c.loop-i.i c.args.m c.requires.elements c.requires.last c.loop-i.auto.i c.loop-i-test.true

pub push_job-requires-clause-range : goal.push_job-requires-clause-range
push_job-requires-clause-range c = (c.loop-i.auto.i, c.loop-i-test.true, c.requires.few)

pub push_job-requires-clause-absent : goal.push_job-requires-clause-absent
push_job-requires-clause-absent c =
    let job = Pair c.loop-i.i c.args.m in
    sym (c.loop-i.invariant.jobs job)
    ∙ absent-append (jobs_in c.args.queue.now.items) (pairs_with c.args.m (c.loop-i.i - 1)) job (c.requires.absent c.loop-i.i)
    (pairs-absent c.args.m (c.loop-i.i - 1) c.loop-i.i (omega (arith, c.loop-i.auto.i)))

pub loop-i-preserved : goal.loop-i-preserved
loop-i-preserved c = record {
  order = cc;
  spare = omega (arith, c.push_job.ensures.spare, c.loop-i.invariant.spare, c.loop-i.auto.i);
  jobs =
      pairs-step c.args.m c.loop-i.i (jobs_in c.args.queue.now.items) (jobs_in c.loop-i.queue.items) (jobs_in c.push_job.new.queue.items) c.loop-i.auto.i
      c.loop-i.invariant.jobs c.push_job.ensures.jobs;
  keys = λ keys. c.push_job.ensures.keys (c.loop-i.invariant.keys keys);
}
