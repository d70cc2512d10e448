use Rattle.std.proofs.Common.{◌≡◌, ℕ, ◌<◌, ◌≤◌, false}
use Rattle.word_model.specs.Reduction.{element, lead_divides}
use Rattle.left_reduce.proofs.first_divisor.Given as goal

abbrev pub invariant-loop-k : goal.invariant-loop-k
invariant-loop-k g l = record {
  low : 1 ≤ l.k;
  none : (x : ℕ) → 1 ≤ x → x < l.k → lead_divides (element (g.B.Elements.elements l.basis) x) l.mono ≡ false;
}
