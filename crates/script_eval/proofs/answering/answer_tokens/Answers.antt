use Rattle.std.proofs.Common.{List, sym, subst, ap, ◌∙◌}
use Rattle.std.proofs.lemmas.Result.{IfOk-weaker}
use Rattle.monomials.specs.Polynomials.{Each}
use Rattle.plural_syntax.specs.declared.tree.Statement.{Statement}
use Rattle.script_model.specs.Evaluation.{evaluation}
use Rattle.script_names.specs.Named.{HasNames}
use Rattle.script_eval.proofs.Answered.{answered, script_answered, unexpected_answered, deep_answered}
use Rattle.script_eval.proofs.answering.answer_tokens.Goals as goal

pub eval-requires-clause-names : goal.eval-requires-clause-names
eval-requires-clause-names g c =
    let names : Each (HasNames c.args.bytes.now) c.in-Ok.script.statements = c.variables_have_names.ensures c.args.bytes.now c.args.tokens.now c.in-Ok.script c.requires.tokens c.in-Ok.ensures in
    subst (Each (HasNames c.args.bytes.now)) (sym c.as_slice.ensures) names

pub returns-in-Ok-clause-value : goal.returns-in-Ok-clause-value
returns-in-Ok-clause-value g c =
    let is = IfOk-weaker c.eval.result _ _ (λ reply e. e ∙ ap (λ (z : List Statement). evaluation c.args.bytes.now c.args.budget z) c.as_slice.ensures) c.eval.ensures.value in
    answered c.args.budget c.args.bytes.now c.eval.result _ is
    (script_answered c.args.budget c.args.bytes.now c.args.tokens.now c.requires.short c.requires.tokens c.in-Ok.script c.in-Ok.ensures)

pub returns-in-Err-Unexpected-clause-value : goal.returns-in-Err-Unexpected-clause-value
returns-in-Err-Unexpected-clause-value g c =
    let at = c.in-Err-Unexpected in
    answered c.args.budget c.args.bytes.now c.refused_at.result _ c.refused_at.ensures
    (unexpected_answered c.args.budget c.args.bytes.now c.args.tokens.now c.requires.short c.requires.tokens at.line at.column (rw at.field-0-is at at.ensures))

pub returns-in-Err-Deep-clause-value : goal.returns-in-Err-Deep-clause-value
returns-in-Err-Deep-clause-value g c =
    let at = c.in-Err-Deep in
    answered c.args.budget c.args.bytes.now c.refused_at-in-Err-Deep.result _ c.refused_at-in-Err-Deep.ensures
    (deep_answered c.args.budget c.args.bytes.now c.args.tokens.now c.requires.short c.requires.tokens at.line at.column (rw at.field-0-is at at.ensures))
