use Rattle.std.proofs.Common.{◌≡◌, drop}
use Rattle.word_model.specs.Cofactors.{values_reach}
use Rattle.cofactors.proofs.checking.values_reach.Given as goal

abbrev pub invariant-loop-row : goal.invariant-loop-row
invariant-loop-row l = values_reach l.rows l.gens ≡ values_reach (drop l.row-index l.rows) l.gens
