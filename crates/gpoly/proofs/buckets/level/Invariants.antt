use Rattle.std.proofs.Common.{◌-◌, ◌≤◌}
use Rattle.gpoly.proofs.buckets.level.Given as goal

abbrev pub invariant-loop-k : goal.invariant-loop-k
invariant-loop-k l = l.k ≤ 13

abbrev pub decreases-loop-k : goal.decreases-loop-k
decreases-loop-k l = 13 - l.k
