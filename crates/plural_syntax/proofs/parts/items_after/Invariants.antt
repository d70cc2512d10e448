use Rattle.std.proofs.Common.{◌≡◌, ◌≤◌, length}
use Rattle.plural_syntax.specs.declared.word.Word.TheVariants as w
use Rattle.plural_syntax.specs.Words.{is, lexemes}
use Rattle.plural_syntax.specs.Inside.Reading as spec
use Rattle.plural_syntax.proofs.Readers.{prepend}
use Rattle.plural_syntax.proofs.parts.items_after.Given as goal

abbrev pub invariant-loop-alloc : goal.invariant-loop-alloc
invariant-loop-alloc l = record {
  shorter : length l.rest ≤ length l.initial.rest;
  value : prepend l.found (spec.many (is w.Comma) spec.item_after (lexemes l.bytes l.rest)) ≡ spec.many (is w.Comma) spec.item_after (lexemes l.bytes l.initial.rest);
}

abbrev pub decreases-loop-alloc : goal.decreases-loop-alloc
decreases-loop-alloc l = length l.rest
