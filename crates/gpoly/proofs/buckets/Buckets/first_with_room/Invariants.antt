use Rattle.std.proofs.Common.{◌≡◌, ℕ, ◌+◌, ◌-◌, ◌≤◌, [], length, get_or}
use Rattle.gpoly.proofs.buckets.Buckets.first_with_room.Given as goal

abbrev pub invariant-loop-top : goal.invariant-loop-top
invariant-loop-top l = record {
  above : l.k ≤ l.top;
  level : l.top ≤ 13;
  first : l.top ≡ l.k → l.coming ≡ l.count;
  later : (j : ℕ) → l.k ≤ j → l.top ≡ j + 1 → l.coming ≡ length (get_or l.self j []);
}

abbrev pub decreases-loop-top : goal.decreases-loop-top
decreases-loop-top l = 13 - l.top
