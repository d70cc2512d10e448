use Rattle.std.proofs.Common.{◌≡◌, ◌≤◌, drop}
use Rattle.plural_text.specs.Readings.{read_digits}
use Rattle.plural_text.proofs.reading.read_number.Given as goal

-- what is left goes on with the number so far
abbrev pub invariant-loop-byte : goal.invariant-loop-byte
invariant-loop-byte l =
    (l.number ≤ l.most)
    × (read_digits l.most 0 l.text ≡ read_digits l.most l.number (drop l.byte-index l.text))
