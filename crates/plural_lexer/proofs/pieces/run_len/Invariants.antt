use Rattle.std.proofs.Common.{◌≡◌, ◌+◌, drop}
use Rattle.std.specs.List.{prefix_len}
use Rattle.plural_lexer.specs.Pieces as spec
use Rattle.plural_lexer.proofs.pieces.run_len.Given as goal

abbrev pub invariant-loop-byte : goal.invariant-loop-byte
invariant-loop-byte l = (l.n ≡ l.byte-index) × (l.n + prefix_len (spec.is_in l.class) (drop l.n l.bytes) ≡ prefix_len (spec.is_in l.class) l.bytes)
