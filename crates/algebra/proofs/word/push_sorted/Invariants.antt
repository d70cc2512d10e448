use Rattle.std.proofs.Common.{◌≡◌, suc, ◌++◌, drop}
use Rattle.word_model.specs.Words.{word_from}
use Rattle.algebra.proofs.word.push_sorted.Given as goal

abbrev pub invariant-loop-place : goal.invariant-loop-place
invariant-loop-place l = l.word.items ++ word_from (suc l.place) (drop l.place l.mono) ≡ l.initial.word.items ++ word_from 1 l.mono
