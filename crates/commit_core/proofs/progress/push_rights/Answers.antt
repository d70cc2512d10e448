use Rattle.std.proofs.Common.{◌≡◌, ◌+◌, ◌-◌, ◌++◌, sym, ◌∙◌, subst, arith}
use Rattle.word_model.specs.Machine.{rights_of}
use Rattle.word_model.specs.declared.records.Job.TheVariants.{Right}
use Rattle.pair_strategy.specs.Queues.{jobs_in, SameJobs}
use Rattle.commit_core.proofs.Bringing.{absent-append, rights-absent, rights-step, named-right}
use Rattle.commit_core.proofs.progress.push_rights.Goals as goal

pub push_job-requires-clause-named : goal.push_job-requires-clause-named
push_job-requires-clause-named c =
    named-right c.args.alg.now c.args.gens.now c.args.basis.now.items c.args.m c.loop-v.v c.requires.elements c.requires.last c.requires.some c.loop-v.auto.v
    (omega (arith, c.loop-v.auto, c.loop-v-test.true, c.n-v-end.ensures.value, c.n-v-end.ensures.at_most))

pub push_job-requires-clause-range : goal.push_job-requires-clause-range
push_job-requires-clause-range c = (
  c.requires.some,
  c.requires.few,
  c.loop-v.auto.v,
  omega (arith, c.loop-v.auto, c.loop-v-test.true, c.n-v-end.ensures.value, c.n-v-end.ensures.at_most),
)

pub push_job-requires-clause-absent : goal.push_job-requires-clause-absent
push_job-requires-clause-absent c =
    let job = Right c.args.m c.loop-v.v in
    sym (c.loop-v.invariant.jobs job)
    ∙ absent-append (jobs_in c.args.queue.now.items) (rights_of c.args.m (c.loop-v.v - 1)) job (c.requires.absent c.loop-v.v)
    (rights-absent c.args.m (c.loop-v.v - 1) c.loop-v.v (omega (arith, c.loop-v.auto.v)))

pub loop-v-preserved : goal.loop-v-preserved
loop-v-preserved c = record {
  order = cc;
  spare = omega (arith, c.push_job.ensures.spare, c.loop-v.invariant.spare, c.loop-v.auto.v);
  jobs =
      rights-step c.args.m c.loop-v.v (jobs_in c.args.queue.now.items) (jobs_in c.loop-v.queue.items) (jobs_in c.push_job.new.queue.items) c.loop-v.auto.v
      c.loop-v.invariant.jobs c.push_job.ensures.jobs;
  keys = λ keys. c.push_job.ensures.keys (c.loop-v.invariant.keys keys);
}

pub returns-2-clause-jobs : goal.returns-2-clause-jobs
returns-2-clause-jobs c =
    let last : (c.loop-v.v + 1) - 1 ≡ c.args.alg.now.order.vars = omega (arith, c.n-v-end.ensures.value, c.n-v-end.ensures.at_most) in
    subst (λ n. SameJobs (jobs_in c.args.queue.now.items ++ rights_of c.args.m n) (jobs_in c.push_job.new.queue.items)) last
    (rights-step c.args.m c.loop-v.v (jobs_in c.args.queue.now.items) (jobs_in c.loop-v.queue.items) (jobs_in c.push_job.new.queue.items) c.loop-v.auto.v
    c.loop-v.invariant.jobs c.push_job.ensures.jobs)
