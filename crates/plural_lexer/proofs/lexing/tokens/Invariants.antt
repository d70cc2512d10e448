use Rattle.std.proofs.Common.{◌≡◌, ◌-◌, ◌≤◌, length, take}
use Rattle.plural_lexer.specs.Places.{place_of}
use Rattle.plural_lexer.proofs.Lexings.{GoesOn}
use Rattle.plural_lexer.proofs.lexing.tokens.Given as goal

-- what the rest gives, behind the tokens so far, is what the script gives
abbrev pub invariant-loop-at : goal.invariant-loop-at
invariant-loop-at l = record {
  within : l.at ≤ length l.bytes;
  place : l.place ≡ place_of (take l.at l.bytes);
  goes_on : GoesOn l.bytes l.at l.found.items;
}

abbrev pub decreases-loop-at : goal.decreases-loop-at
decreases-loop-at l = length l.bytes - l.at
