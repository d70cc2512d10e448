use Rattle.std.proofs.Common.{◌≡◌, ◌+◌, drop}
use Rattle.script_model.specs.Functions.{how_many, is_new, is_zero, is_skipped}
use Rattle.script_functions.proofs.summary.Kinds.of.Given as goal

abbrev pub invariant-loop-entry : goal.invariant-loop-entry
invariant-loop-entry l = record {
  new : l.new + how_many is_new (drop l.entry-index l.entries) ≡ how_many is_new l.entries;
  zero : l.zero + how_many is_zero (drop l.entry-index l.entries) ≡ how_many is_zero l.entries;
  skipped : l.skipped + how_many is_skipped (drop l.entry-index l.entries) ≡ how_many is_skipped l.entries;
  all : l.new + l.zero + l.skipped ≡ l.entry-index;
}
