use Rattle.std.proofs.Common.{◌≡◌, ◌++◌, map, drop, string_bytes}
use Rattle.std.specs.Prelude.{codes}
use Rattle.std.specs.List.{join_with_byte}
use Rattle.plural_text.specs.Pieces.{pieces_from}
use Rattle.plural_text.proofs.rings.write_variables.Given as goal

abbrev pub invariant-loop-index : goal.invariant-loop-index
invariant-loop-index l =
    l.text.items ++ (pieces_from l.index (map string_bytes (drop l.index l.names)) ++ codes "\n")
    ≡ l.fn.text.items ++ (codes "// variables " ++ (join_with_byte 44 (map string_bytes l.names) ++ codes "\n"))
