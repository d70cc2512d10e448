use Rattle.std.proofs.Common.{◌≡◌, ◌++◌, map, drop}
use Rattle.std.specs.Prelude.{codes}
use Rattle.std.specs.Fmt.{decimal}
use Rattle.word_model.specs.RingTexts.{numbers_text}
use Rattle.plural_text.specs.Pieces.{pieces_from}
use Rattle.plural_text.proofs.rings.write_named.Given as goal

abbrev pub invariant-loop-index : goal.invariant-loop-index
invariant-loop-index l =
    l.text.items ++ (pieces_from l.index (map decimal (drop l.index l.numbers)) ++ codes ")")
    ≡ l.fn.text.items ++ (l.name ++ numbers_text l.numbers)
