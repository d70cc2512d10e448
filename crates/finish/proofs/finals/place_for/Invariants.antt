use Rattle.std.proofs.Common.{◌≡◌, ℕ, ◌<◌, false, [], slice_index_or}
use Rattle.finish.proofs.Finishing.{is_before}
use Rattle.finish.proofs.finals.place_for.Given as goal

abbrev pub invariant-loop-place : goal.invariant-loop-place
invariant-loop-place l =
    (j : ℕ) → j < l.place → is_before l.algebra l.polynomial (slice_index_or l.finals j (record { polynomial = []; origin = 0; tail = [] })) ≡ false
