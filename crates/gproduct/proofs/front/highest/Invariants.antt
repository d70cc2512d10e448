use Rattle.std.proofs.Common.{◌≡◌, ℕ, ◌≤◌, length, get_or}
use Rattle.gproduct.proofs.front.highest.Given as goal

abbrev pub invariant-loop-v : goal.invariant-loop-v
invariant-loop-v l = record { within : l.v ≤ length l.mono; last : (k : ℕ) → l.v ≤ k → get_or l.mono k 0 ≡ 0 }

abbrev pub decreases-loop-v : goal.decreases-loop-v
decreases-loop-v l = l.v
