use Rattle.std.proofs.Common.{◌≡◌, ℕ, ◌<◌, None}
use Rattle.algebra.specs.Inside.Tests.{row_fault}
use Rattle.algebra.proofs.presentation.Presentation.test_pairs.Given as goal

abbrev pub invariant-loop-i : goal.invariant-loop-i
invariant-loop-i l = (x : ℕ) → 0 < x → x < l.i → row_fault l.self x ≡ None
