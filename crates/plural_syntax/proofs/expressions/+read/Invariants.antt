use Rattle.std.proofs.Common.{◌≡◌, ◌+◌, ◌*◌, ◌-◌, ◌≤◌, length}
use Rattle.plural_syntax.specs.declared.word.Word.TheVariants as w
use Rattle.plural_syntax.specs.Words.{is, is_either, lexemes}
use Rattle.plural_syntax.specs.Inside.Reading as spec
use Rattle.plural_syntax.proofs.Readers.{prepend}
use Rattle.plural_syntax.proofs.expressions.+read.Given as goal

abbrev pub decreases-group : goal.decreases-group
decreases-group l = l.levels.now * 16 + 0

abbrev pub decreases-arguments : goal.decreases-arguments
decreases-arguments l = l.levels.now * 16 + 0

abbrev pub decreases-called : goal.decreases-called
decreases-called l = l.levels.now * 16 + 1

abbrev pub decreases-base : goal.decreases-base
decreases-base l = l.levels.now * 16 + 2

abbrev pub decreases-factor : goal.decreases-factor
decreases-factor l = l.levels.now * 16 + 3

abbrev pub decreases-scaled : goal.decreases-scaled
decreases-scaled l = l.levels.now * 16 + 4

abbrev pub decreases-all_scaled : goal.decreases-all_scaled
decreases-all_scaled l = l.levels.now * 16 + 5

abbrev pub decreases-term : goal.decreases-term
decreases-term l = l.levels.now * 16 + 6

abbrev pub decreases-added : goal.decreases-added
decreases-added l = l.levels.now * 16 + 7

abbrev pub decreases-all_added : goal.decreases-all_added
decreases-all_added l = l.levels.now * 16 + 8

abbrev pub decreases-sum : goal.decreases-sum
decreases-sum l = l.levels.now * 16 + 9

abbrev pub decreases-expr : goal.decreases-expr
decreases-expr l = l.levels.now * 16 + 10

abbrev pub decreases-expr_after : goal.decreases-expr_after
decreases-expr_after l = l.levels.now * 16 + 11

abbrev pub decreases-exprs_after : goal.decreases-exprs_after
decreases-exprs_after l = l.levels.now * 16 + 12

abbrev pub decreases-list : goal.decreases-list
decreases-list l = l.levels.now * 16 + 13

abbrev pub decreases-inner_group : goal.decreases-inner_group
decreases-inner_group l = l.levels.now * 16 - 1

abbrev pub decreases-inner_arguments : goal.decreases-inner_arguments
decreases-inner_arguments l = l.levels.now * 16 - 1

abbrev pub invariant-all_scaled-loop-alloc : goal.invariant-all_scaled-loop-alloc
invariant-all_scaled-loop-alloc l = record {
  same : l.levels ≡ l.initial.levels;
  shorter : length l.rest ≤ length l.initial.rest;
  value : prepend l.found (spec.many (is_either w.Times w.Over) (spec.scaled_with (spec.inside l.initial.levels)) (lexemes l.bytes l.rest)) ≡ spec.many (is_either w.Times w.Over) (spec.scaled_with (spec.inside l.initial.levels)) (lexemes l.bytes l.initial.rest);
}

abbrev pub decreases-all_scaled-loop-alloc : goal.decreases-all_scaled-loop-alloc
decreases-all_scaled-loop-alloc l = length l.rest

abbrev pub invariant-all_added-loop-alloc : goal.invariant-all_added-loop-alloc
invariant-all_added-loop-alloc l = record {
  same : l.levels ≡ l.initial.levels;
  shorter : length l.rest ≤ length l.initial.rest;
  value : prepend l.found (spec.many (is_either w.Plus w.Minus) (spec.added_with (spec.inside l.initial.levels)) (lexemes l.bytes l.rest)) ≡ spec.many (is_either w.Plus w.Minus) (spec.added_with (spec.inside l.initial.levels)) (lexemes l.bytes l.initial.rest);
}

abbrev pub decreases-all_added-loop-alloc : goal.decreases-all_added-loop-alloc
decreases-all_added-loop-alloc l = length l.rest

abbrev pub invariant-exprs_after-loop-alloc : goal.invariant-exprs_after-loop-alloc
invariant-exprs_after-loop-alloc l = record {
  same : l.levels ≡ l.initial.levels;
  shorter : length l.rest ≤ length l.initial.rest;
  value : prepend l.found (spec.many (is w.Comma) (spec.expr_after_with (spec.expr_with (spec.inside l.initial.levels))) (lexemes l.bytes l.rest)) ≡ spec.many (is w.Comma) (spec.expr_after_with (spec.expr_with (spec.inside l.initial.levels))) (lexemes l.bytes l.initial.rest);
}

abbrev pub decreases-exprs_after-loop-alloc : goal.decreases-exprs_after-loop-alloc
decreases-exprs_after-loop-alloc l = length l.rest
