use Rattle.std.proofs.Common.{◌∙◌, sym, arith}
use Rattle.std.proofs.lemmas.Result.{err_from_is_err_and}
use Rattle.plural_syntax.specs.declared.word.Word.TheVariants as w
use Rattle.plural_syntax.specs.Words.{is, is_either, lexemes}
use Rattle.plural_syntax.proofs.ExprRules.{scaled_starts, added_starts, expr_after_starts}
use Rattle.plural_syntax.proofs.Strict.{blocked_deep, blocked_unexpected}
use Rattle.plural_syntax.proofs.Loops.{repeats_end, repeats_fail, repeats_go, scaled_rule, added_rule, expr_after_rule, inside_zero, inside_step}
use Rattle.plural_syntax.proofs.expressions.+read.Goals as goal

pub all_scaled-returns-clause-value : goal.all_scaled-returns-clause-value
all_scaled-returns-clause-value t c = repeats_end (is_either w.Times w.Over) scaled_starts (scaled_rule c.args.levels.now) c.loop-alloc.found _ (lexemes c.args.bytes.now c.loop-alloc.rest.now) c.loop-alloc.invariant.value (sym c.next_is_either.ensures ∙ c.loop-alloc-test.false)

pub all_scaled-returns-in_err-one-clause-value : goal.all_scaled-returns-in_err-one-clause-value
all_scaled-returns-in_err-one-clause-value t c =
    let p = err_from_is_err_and c.from_residual.result c.from_residual.ensures.1 in
    rw (p.1, p.2) (repeats_fail (is_either w.Times w.Over) scaled_starts (scaled_rule c.args.levels.now) c.loop-alloc.found _ (lexemes c.args.bytes.now c.loop-alloc.rest.now) c.loop-alloc.invariant.value (sym c.next_is_either.ensures ∙ c.loop-alloc-test.true) c.args.bytes.now c.in_err-one.field-0.0 (rw c.loop-alloc.invariant.same at c.in_err-one.ensures.value))

pub all_scaled-loop-alloc-preserved : goal.all_scaled-loop-alloc-preserved
all_scaled-loop-alloc-preserved t c =
    let go = repeats_go (is_either w.Times w.Over) scaled_starts (scaled_rule c.args.levels.now) c.loop-alloc.found _ (lexemes c.args.bytes.now c.loop-alloc.rest.now) c.loop-alloc.invariant.value (sym c.next_is_either.ensures ∙ c.loop-alloc-test.true) c.in_ok-one.one _ (rw c.loop-alloc.invariant.same at c.in_ok-one.ensures.value) in
    record { same = c.in_ok-one.ensures.same ∙ c.loop-alloc.invariant.same; shorter = omega (arith, c.in_ok-one.ensures.shorter); value = rw c.in_ok-push.ensures.ok go }

pub all_added-returns-clause-value : goal.all_added-returns-clause-value
all_added-returns-clause-value t c = repeats_end (is_either w.Plus w.Minus) added_starts (added_rule c.args.levels.now) c.loop-alloc.found _ (lexemes c.args.bytes.now c.loop-alloc.rest.now) c.loop-alloc.invariant.value (sym c.next_is_either.ensures ∙ c.loop-alloc-test.false)

pub all_added-returns-in_err-one-clause-value : goal.all_added-returns-in_err-one-clause-value
all_added-returns-in_err-one-clause-value t c =
    let p = err_from_is_err_and c.from_residual.result c.from_residual.ensures.1 in
    rw (p.1, p.2) (repeats_fail (is_either w.Plus w.Minus) added_starts (added_rule c.args.levels.now) c.loop-alloc.found _ (lexemes c.args.bytes.now c.loop-alloc.rest.now) c.loop-alloc.invariant.value (sym c.next_is_either.ensures ∙ c.loop-alloc-test.true) c.args.bytes.now c.in_err-one.field-0.0 (rw c.loop-alloc.invariant.same at c.in_err-one.ensures.value))

pub all_added-loop-alloc-preserved : goal.all_added-loop-alloc-preserved
all_added-loop-alloc-preserved t c =
    let go = repeats_go (is_either w.Plus w.Minus) added_starts (added_rule c.args.levels.now) c.loop-alloc.found _ (lexemes c.args.bytes.now c.loop-alloc.rest.now) c.loop-alloc.invariant.value (sym c.next_is_either.ensures ∙ c.loop-alloc-test.true) c.in_ok-one.one _ (rw c.loop-alloc.invariant.same at c.in_ok-one.ensures.value) in
    record { same = c.in_ok-one.ensures.same ∙ c.loop-alloc.invariant.same; shorter = omega (arith, c.in_ok-one.ensures.shorter); value = rw c.in_ok-push.ensures.ok go }

pub exprs_after-returns-clause-value : goal.exprs_after-returns-clause-value
exprs_after-returns-clause-value t c = repeats_end (is w.Comma) expr_after_starts (expr_after_rule c.args.levels.now) c.loop-alloc.found _ (lexemes c.args.bytes.now c.loop-alloc.rest.now) c.loop-alloc.invariant.value (sym c.next_is.ensures ∙ c.loop-alloc-test.false)

pub exprs_after-returns-in_err-one-clause-value : goal.exprs_after-returns-in_err-one-clause-value
exprs_after-returns-in_err-one-clause-value t c =
    let p = err_from_is_err_and c.from_residual.result c.from_residual.ensures.1 in
    rw (p.1, p.2) (repeats_fail (is w.Comma) expr_after_starts (expr_after_rule c.args.levels.now) c.loop-alloc.found _ (lexemes c.args.bytes.now c.loop-alloc.rest.now) c.loop-alloc.invariant.value (sym c.next_is.ensures ∙ c.loop-alloc-test.true) c.args.bytes.now c.in_err-one.field-0.0 (rw c.loop-alloc.invariant.same at c.in_err-one.ensures.value))

pub exprs_after-loop-alloc-preserved : goal.exprs_after-loop-alloc-preserved
exprs_after-loop-alloc-preserved t c =
    let go = repeats_go (is w.Comma) expr_after_starts (expr_after_rule c.args.levels.now) c.loop-alloc.found _ (lexemes c.args.bytes.now c.loop-alloc.rest.now) c.loop-alloc.invariant.value (sym c.next_is.ensures ∙ c.loop-alloc-test.true) c.in_ok-one.one _ (rw c.loop-alloc.invariant.same at c.in_ok-one.ensures.value) in
    record { same = c.in_ok-one.ensures.same ∙ c.loop-alloc.invariant.same; shorter = omega (arith, c.in_ok-one.ensures.shorter); value = rw c.in_ok-push.ensures.ok go }

pub group-returns-then-left-gt0-clause-value : goal.group-returns-then-left-gt0-clause-value
group-returns-then-left-gt0-clause-value t c = rw (inside_step c.args.levels.now (omega arith)) c.inner_group.ensures.value

pub group-returns-then-next_is-clause-value : goal.group-returns-then-next_is-clause-value
group-returns-then-next_is-clause-value t c = rw (inside_zero c.args.levels.now (omega arith)) (blocked_deep _ (sym c.next_is.ensures ∙ c.if-next_is.true))

pub group-returns-else-next_is-clause-value : goal.group-returns-else-next_is-clause-value
group-returns-else-next_is-clause-value t c = rw (inside_zero c.args.levels.now (omega arith)) (blocked_unexpected _ (sym c.next_is.ensures ∙ c.if-next_is.false))

pub arguments-returns-then-left-gt0-clause-value : goal.arguments-returns-then-left-gt0-clause-value
arguments-returns-then-left-gt0-clause-value t c = rw (inside_step c.args.levels.now (omega arith)) c.inner_arguments.ensures.value

pub arguments-returns-then-next_is-clause-value : goal.arguments-returns-then-next_is-clause-value
arguments-returns-then-next_is-clause-value t c = rw (inside_zero c.args.levels.now (omega arith)) (blocked_deep _ (sym c.next_is.ensures ∙ c.if-next_is.true))

pub arguments-returns-else-next_is-clause-value : goal.arguments-returns-else-next_is-clause-value
arguments-returns-else-next_is-clause-value t c = rw (inside_zero c.args.levels.now (omega arith)) (blocked_unexpected _ (sym c.next_is.ensures ∙ c.if-next_is.false))
