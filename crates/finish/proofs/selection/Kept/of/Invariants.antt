use Rattle.std.proofs.Common.{◌≡◌}
use Rattle.finish.proofs.Finishing.{kept_flags}
use Rattle.finish.proofs.selection.Kept.of.Given as goal

abbrev pub invariant-loop-place : goal.invariant-loop-place
invariant-loop-place l = l.kept.items ≡ kept_flags l.basis.items l.place
