use Rattle.std.proofs.Common.{◌≡◌, ℕ, ◌<◌, None}
use Rattle.word_model.specs.Conditions.{triple_fault}
use Rattle.algebra.proofs.presentation.Presentation.test_line.Given as goal

abbrev pub invariant-loop-k : goal.invariant-loop-k
invariant-loop-k l = (x : ℕ) → l.j < x → x < l.k → triple_fault l.self l.i l.j x ≡ None
