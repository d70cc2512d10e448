use Rattle.std.proofs.Common.{◌≡◌, ◌≤◌, length}
use Rattle.plural_syntax.specs.declared.word.Word.TheVariants as w
use Rattle.plural_syntax.specs.Words.{is, lexemes}
use Rattle.plural_syntax.specs.Inside.Reading as spec
use Rattle.plural_syntax.proofs.Readers.{prepend}
use Rattle.plural_syntax.proofs.reading.tokens_after.Given as goal

abbrev pub invariant-loop-wanted : goal.invariant-loop-wanted
invariant-loop-wanted l = record {
  shorter : length l.rest ≤ length l.initial.rest;
  value : prepend l.found (spec.many (is w.Comma) (spec.token_after l.wanted) (lexemes l.bytes l.rest)) ≡ spec.many (is w.Comma) (spec.token_after l.wanted) (lexemes l.bytes l.initial.rest);
}

abbrev pub decreases-loop-wanted : goal.decreases-loop-wanted
decreases-loop-wanted l = length l.rest
