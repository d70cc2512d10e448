use Rattle.std.proofs.Common.{◌≡◌, ℕ, ◌+◌, ◌-◌, ◌<◌, ◌≤◌, length, get_or}
use Rattle.gproduct.proofs.front.lowest.Given as goal

abbrev pub invariant-loop-v : goal.invariant-loop-v
invariant-loop-v l = record { some : 1 ≤ l.v; within : l.v ≤ length l.mono + 1; first : (k : ℕ) → k + 1 < l.v → get_or l.mono k 0 ≡ 0 }

abbrev pub decreases-loop-v : goal.decreases-loop-v
decreases-loop-v l = l.n + 1 - l.v
