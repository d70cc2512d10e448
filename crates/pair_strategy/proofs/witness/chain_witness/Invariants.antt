use Rattle.std.proofs.Common.{◌≡◌, ℕ, ◌<◌, ◌≤◌, false}
use Rattle.word_model.specs.Jobs.{is_witness}
use Rattle.pair_strategy.specs.Queues.{jobs_in}
use Rattle.pair_strategy.proofs.witness.chain_witness.Given as goal

abbrev pub invariant-loop-k : goal.invariant-loop-k
invariant-loop-k g l = record {
  low : 1 ≤ l.k;
  none : (x : ℕ) → 1 ≤ x → x < l.k → is_witness (g.B.Elements.elements l.basis) (jobs_in l.queue.items) l.i l.j x ≡ false;
}
