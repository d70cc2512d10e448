use Rattle.std.proofs.Common.{◌≡◌, ◌+◌, ◌-◌, ◌++◌}
use Rattle.monomials.specs.Polynomials.{Each}
use Rattle.word_model.specs.Machine.{pairs_with}
use Rattle.pair_strategy.specs.Queues.{jobs_in, HasKey, SameJobs}
use Rattle.commit_core.proofs.progress.push_pairs.Given as goal

abbrev pub invariant-loop-i : goal.invariant-loop-i
invariant-loop-i l = record {
  order : l.queue.order ≡ l.initial.queue.order;
  spare : l.queue.spare + (l.i - 1) ≡ l.initial.queue.spare;
  jobs : SameJobs (jobs_in l.initial.queue.items ++ pairs_with l.m (l.i - 1)) (jobs_in l.queue.items);
  keys : Each (HasKey l.alg l.gens l.basis.items l.sugars) l.initial.queue.items → Each (HasKey l.alg l.gens l.basis.items l.sugars) l.queue.items;
}
