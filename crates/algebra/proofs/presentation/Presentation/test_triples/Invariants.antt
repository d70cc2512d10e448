use Rattle.std.proofs.Common.{◌≡◌, ℕ, ◌<◌, None}
use Rattle.algebra.specs.Inside.Tests.{plane_fault}
use Rattle.algebra.proofs.presentation.Presentation.test_triples.Given as goal

abbrev pub invariant-loop-i : goal.invariant-loop-i
invariant-loop-i l = (x : ℕ) → 0 < x → x < l.i → plane_fault l.self x ≡ None
