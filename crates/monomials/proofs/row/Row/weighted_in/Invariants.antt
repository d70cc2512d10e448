use Rattle.std.proofs.Common.{◌≡◌, ℕ, ◌+◌, ◌<◌, ◌≤◌, get_or, length}
use Rattle.monomials.proofs.row.Row.weighted_in.Given as goal

abbrev pub invariant-loop-i : goal.invariant-loop-i
invariant-loop-i l = record {
  whole : length l.places ≡ 16;
  before : (k : ℕ) → k < l.at → get_or l.places k 0 ≡ 0;
  done : (k : ℕ) → k < l.i → get_or l.places (l.at + k) 0 ≡ get_or l.weights k 0;
  rest : (k : ℕ) → l.at + l.i ≤ k → get_or l.places k 0 ≡ 0;
}
