use Rattle.std.proofs.Common.{◌≡◌, ℕ, ◌<◌, None}
use Rattle.word_model.specs.Conditions.{pair_fault}
use Rattle.algebra.proofs.presentation.Presentation.test_row.Given as goal

abbrev pub invariant-loop-j : goal.invariant-loop-j
invariant-loop-j l = (x : ℕ) → l.i < x → x < l.j → pair_fault l.self l.i x ≡ None
