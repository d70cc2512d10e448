use Rattle.std.proofs.Common.{◌≡◌, ℕ, ◌<◌, None}
use Rattle.algebra.specs.Inside.Tests.{line_fault}
use Rattle.algebra.proofs.presentation.Presentation.test_plane.Given as goal

abbrev pub invariant-loop-j : goal.invariant-loop-j
invariant-loop-j l = (x : ℕ) → l.i < x → x < l.j → line_fault l.self l.i x ≡ None
