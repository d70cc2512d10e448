use Rattle.std.proofs.Common.{◌≡◌, ◌++◌, drop}
use Rattle.word_model.specs.Certificates.{made_lines}
use Rattle.two_sided.proofs.making.new_entries.Given as goal

abbrev pub invariant-loop-entry : goal.invariant-loop-entry
invariant-loop-entry l = record {
  value : l.lines.items ++ made_lines (drop l.entry-index l.entries) ≡ made_lines l.entries;
}
