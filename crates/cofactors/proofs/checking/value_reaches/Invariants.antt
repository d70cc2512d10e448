use Rattle.std.proofs.Common.{◌≡◌, drop}
use Rattle.word_model.specs.Cofactors.{value_reaches}
use Rattle.cofactors.proofs.checking.value_reaches.Given as goal

abbrev pub invariant-loop-place : goal.invariant-loop-place
invariant-loop-place l = value_reaches l.entries l.gens ≡ value_reaches (drop l.place l.entries) (drop l.place l.gens)
