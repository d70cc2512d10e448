use Rattle.std.proofs.Common.{◌≡◌, ◌++◌, map, drop}
use Rattle.std.specs.Prelude.{codes}
use Rattle.word_model.specs.RingTexts.{block_text, order_text}
use Rattle.plural_text.specs.Pieces.{pieces_from}
use Rattle.plural_text.proofs.rings.write_order_line.Given as goal

abbrev pub invariant-loop-index : goal.invariant-loop-index
invariant-loop-index l =
    l.text.items ++ (pieces_from l.index (map block_text (drop l.index l.blocks)) ++ codes ")\n")
    ≡ l.fn.text.items ++ (codes "// order " ++ (order_text l.blocks ++ codes "\n"))
