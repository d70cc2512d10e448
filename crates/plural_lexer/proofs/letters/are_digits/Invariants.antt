use Rattle.std.proofs.Common.{◌≡◌, drop}
use Rattle.std.specs.List.{list_all}
use Rattle.plural_lexer.specs.Letters.{is_digit}
use Rattle.plural_lexer.proofs.letters.are_digits.Given as goal

abbrev pub invariant-loop-byte : goal.invariant-loop-byte
invariant-loop-byte l = list_all is_digit (drop l.byte-index l.text) ≡ list_all is_digit l.text
