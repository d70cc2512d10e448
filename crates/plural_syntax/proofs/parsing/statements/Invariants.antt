use Rattle.std.proofs.Common.{◌≡◌, ◌≤◌, length}
use Rattle.plural_syntax.specs.Words.{lexemes}
use Rattle.plural_syntax.specs.Inside.Reading as spec
use Rattle.plural_syntax.proofs.Readers.{prepend}
use Rattle.plural_syntax.proofs.parsing.statements.Given as goal

abbrev pub invariant-loop-alloc : goal.invariant-loop-alloc
invariant-loop-alloc l = record {
  same : l.levels ≡ l.initial.levels;
  shorter : length l.rest ≤ length l.initial.rest;
  value : prepend l.found (spec.many spec.not_end (spec.statement_with (spec.inside l.initial.levels)) (lexemes l.bytes l.rest)) ≡ spec.many spec.not_end (spec.statement_with (spec.inside l.initial.levels)) (lexemes l.bytes l.initial.rest);
}

abbrev pub decreases-loop-alloc : goal.decreases-loop-alloc
decreases-loop-alloc l = length l.rest
