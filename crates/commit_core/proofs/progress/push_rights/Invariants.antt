use Rattle.std.proofs.Common.{◌≡◌, ◌+◌, ◌-◌, ◌++◌}
use Rattle.monomials.specs.Polynomials.{Each}
use Rattle.word_model.specs.Machine.{rights_of}
use Rattle.pair_strategy.specs.Queues.{jobs_in, HasKey, SameJobs}
use Rattle.commit_core.proofs.progress.push_rights.Given as goal

abbrev pub invariant-loop-v : goal.invariant-loop-v
invariant-loop-v l = record {
  order : l.queue.order ≡ l.initial.queue.order;
  spare : l.queue.spare + (l.v - 1) ≡ l.initial.queue.spare;
  jobs : SameJobs (jobs_in l.initial.queue.items ++ rights_of l.m (l.v - 1)) (jobs_in l.queue.items);
  keys : Each (HasKey l.alg l.gens l.basis.items l.sugars) l.initial.queue.items → Each (HasKey l.alg l.gens l.basis.items l.sugars) l.queue.items;
}
