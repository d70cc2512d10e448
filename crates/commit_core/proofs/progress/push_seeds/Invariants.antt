use Rattle.std.proofs.Common.{◌≡◌, ◌+◌, ◌≤◌, [], length, take}
use Rattle.monomials.specs.Polynomials.{Each}
use Rattle.word_model.specs.Machine.{seeds_from}
use Rattle.pair_strategy.specs.Queues.{jobs_in, HasKey, SameJobs}
use Rattle.commit_core.proofs.progress.push_seeds.Given as goal

abbrev pub invariant-loop-place : goal.invariant-loop-place
invariant-loop-place l = record {
  order : l.queue.order ≡ l.initial.queue.order;
  spare : length l.gens ≤ l.queue.spare + l.place;
  jobs : SameJobs (seeds_from 1 (take l.place l.gens)) (jobs_in l.queue.items);
  keys : Each (HasKey l.alg l.gens [] []) l.queue.items;
}
