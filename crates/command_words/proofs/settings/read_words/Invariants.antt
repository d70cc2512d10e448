use Rattle.std.proofs.Common.{◌≡◌, drop, map, string_bytes}
use Rattle.command_words.specs.Settings as spec
use Rattle.command_words.proofs.settings.read_words.Given as goal

abbrev pub invariant-loop-word : goal.invariant-loop-word
invariant-loop-word l = spec.read_on l.program l.reading (map string_bytes (drop l.word-index l.words)) ≡ spec.read_on l.program spec.nothing_read (map string_bytes l.words)
