use Rattle.std.proofs.Common.{◌≡◌, drop}
use Rattle.word_model.specs.Syzygies.{is_zero_row}
use Rattle.syzygies.proofs.relations.is_zero_row.Given as goal

abbrev pub invariant-loop-entry : goal.invariant-loop-entry
invariant-loop-entry l = is_zero_row l.entries ≡ is_zero_row (drop l.entry-index l.entries)
