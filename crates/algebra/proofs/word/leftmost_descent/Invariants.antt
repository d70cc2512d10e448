use Rattle.std.proofs.Common.{ℕ, suc, ◌<◌, ◌≤◌, get_or}
use Rattle.algebra.proofs.word.leftmost_descent.Given as goal

abbrev pub invariant-loop-k : goal.invariant-loop-k
invariant-loop-k l = (q : ℕ) → suc q < l.k → get_or l.word q 0 ≤ get_or l.word (suc q) 0
