use Rattle.std.proofs.lemmas.Result.{IfOk-weaker}
use Rattle.std.proofs.Common.{◌∙◌}
use Rattle.script_values.proofs.Powers.{constant_is}
use Rattle.script_values.proofs.operations.constant.Goals as goal

pub returns-clause-value : goal.returns-clause-value
returns-clause-value c =
    let A = c.args.algebra.now in
    IfOk-weaker c.from_terms.result _ _
    (λ r is. is ∙ constant_is A c.args.number c.from_int.result c.field-field.result c.n.result c.one.result c.field-field.ensures c.from_int.ensures.value c.one.ensures c.n.ensures.value)
    c.from_terms.ensures.value
