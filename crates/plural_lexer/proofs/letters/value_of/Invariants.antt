use Rattle.std.proofs.Common.{◌≡◌, ◌^◌, ◌<◌, take}
use Rattle.plural_lexer.specs.Letters.{digits_value}
use Rattle.plural_lexer.proofs.letters.value_of.Given as goal

abbrev pub invariant-loop-digit : goal.invariant-loop-digit
invariant-loop-digit l = record {
  value : l.value ≡ digits_value (take l.digit-index l.digits);
  small : l.value < 10 ^ l.digit-index;
}
