use Rattle.std.proofs.Common.{◌≢◌, ℕ, ◌<◌, ◌≤◌, get_or}
use Rattle.closed_forms.proofs.binomials.base_of.Given as goal

abbrev pub invariant-loop-t : goal.invariant-loop-t
invariant-loop-t l = (t : ℕ) → 1 ≤ t → t < l.t → get_or l.q_numbers t 0 ≢ 0
