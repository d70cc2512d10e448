use Rattle.std.proofs.Common.{◌∙◌, sym, arith}
use Rattle.std.proofs.lemmas.Result.{err_from_is_err_and}
use Rattle.plural_syntax.specs.Words.{lexemes}
use Rattle.plural_syntax.specs.Inside.Reading as spec
use Rattle.plural_syntax.proofs.StmtRules.{statement_starts}
use Rattle.plural_syntax.proofs.ScriptRules.{statement_rule_at}
use Rattle.plural_syntax.proofs.Loops.{repeats_end, repeats_fail, repeats_go}
use Rattle.plural_syntax.proofs.parsing.statements.Goals as goal

pub returns-clause-value : goal.returns-clause-value
returns-clause-value c = repeats_end spec.not_end statement_starts (statement_rule_at c.args.levels.now (omega arith)) c.loop-alloc.found _ (lexemes c.args.bytes.now c.loop-alloc.rest.now) c.loop-alloc.invariant.value (sym c.next_is_no_end.ensures ∙ c.loop-alloc-test.false)

pub returns-in_err-one-clause-value : goal.returns-in_err-one-clause-value
returns-in_err-one-clause-value c =
    let p = err_from_is_err_and c.from_residual.result c.from_residual.ensures.1 in
    rw (p.1, p.2) (repeats_fail spec.not_end statement_starts (statement_rule_at c.args.levels.now (omega arith)) c.loop-alloc.found _ (lexemes c.args.bytes.now c.loop-alloc.rest.now) c.loop-alloc.invariant.value (sym c.next_is_no_end.ensures ∙ c.loop-alloc-test.true) c.args.bytes.now c.in_err-one.field-0.0 (rw c.loop-alloc.invariant.same at c.in_err-one.ensures.value))

pub loop-alloc-preserved : goal.loop-alloc-preserved
loop-alloc-preserved c =
    let go = repeats_go spec.not_end statement_starts (statement_rule_at c.args.levels.now (omega arith)) c.loop-alloc.found _ (lexemes c.args.bytes.now c.loop-alloc.rest.now) c.loop-alloc.invariant.value (sym c.next_is_no_end.ensures ∙ c.loop-alloc-test.true) c.in_ok-one.one _ (rw c.loop-alloc.invariant.same at c.in_ok-one.ensures.value) in
    record { same = c.in_ok-one.ensures.same ∙ c.loop-alloc.invariant.same; shorter = omega (arith, c.in_ok-one.ensures.shorter); value = rw c.in_ok-push.ensures.ok go }
