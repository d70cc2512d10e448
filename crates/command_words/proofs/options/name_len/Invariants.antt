use Rattle.std.proofs.Common.{◌≡◌, ◌+◌, drop}
use Rattle.std.specs.List.{prefix_len}
use Rattle.command_words.specs.Settings as spec
use Rattle.command_words.proofs.options.name_len.Given as goal

abbrev pub invariant-loop-byte : goal.invariant-loop-byte
invariant-loop-byte l = (l.n ≡ l.byte-index) × (l.n + prefix_len spec.is_in_name (drop l.n l.word) ≡ prefix_len spec.is_in_name l.word)
