use Rattle.std.proofs.Common.{◌≡◌, ℕ, ◌<◌, ◌≤◌, false}
use Rattle.word_model.specs.Finished.{displaces}
use Rattle.finish.proofs.selection.is_displaced.Given as goal

abbrev pub invariant-loop-j : goal.invariant-loop-j
invariant-loop-j l = (x : ℕ) → 1 ≤ x → x < l.j → displaces l.basis l.i x ≡ false
