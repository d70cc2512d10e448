use Rattle.std.proofs.Common.{◌+◌, take, sym, ◌∙◌, arith}
use Rattle.std.proofs.lemmas.List.{length-take-le}
use Rattle.word_model.specs.declared.records.Job.TheVariants.{Seed}
use Rattle.pair_strategy.specs.Queues.{jobs_in}
use Rattle.commit_core.proofs.Seeding.{seed-absent, seeds-step}
use Rattle.commit_core.proofs.progress.push_seeds.Goals as goal

pub push_seed-requires-clause-absent : goal.push_seed-requires-clause-absent
push_seed-requires-clause-absent c =
    let before = take c.loop-place.place c.args.gens.now in
    sym (c.loop-place.invariant.jobs (Seed (c.loop-place.place + 1)))
    ∙ seed-absent 1 (c.loop-place.place + 1) before (omega (arith, length-take-le c.loop-place.place c.args.gens.now (omega arith)))

pub loop-place-preserved : goal.loop-place-preserved
loop-place-preserved c = record {
  order = cc;
  spare = omega (arith, c.push_seed.ensures.spare, c.loop-place.invariant.spare);
  jobs =
      seeds-step c.args.gens.now c.loop-place.place (jobs_in c.loop-place.queue.items) (jobs_in c.push_seed.new.queue.items) c.loop-place-test.true
      c.loop-place.invariant.jobs c.push_seed.ensures.jobs;
  keys = c.push_seed.ensures.keys c.loop-place.invariant.keys;
}
