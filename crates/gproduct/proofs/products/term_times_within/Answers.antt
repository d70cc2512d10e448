use Rattle.std.proofs.Common.{◌∙◌, refl, ap, subst}
use Rattle.std.proofs.lemmas.Result.{IfOk-weaker}
use Rattle.word_model.specs.Words.{Algebra}
use Rattle.word_model.specs.Conditions.{IsGAlgebra}
use Rattle.gproduct.proofs.Parted.{joined_by, none_left}
use Rattle.gproduct.proofs.products.term_times_within.Goals as goal

pub returns-then-is_zero-clause-value : goal.returns-then-is_zero-clause-value
returns-then-is_zero-clause-value c =
    let A = c.args.seat.now.algebra in
    none_left A (subst IsGAlgebra c.algebra-algebra.ensures c.n-n.ensures.accepted) c.args.coef c.args.mono.now c.args.f.now
    c.in_ok-passed.field-0.passed c.in_ok-passed.field-0.rest c.in_ok-passed.ensures (c.if-is_zero.ensures.0 refl)

pub returns-clause-value : goal.returns-clause-value
returns-clause-value c =
    let A = c.args.seat.now.algebra in
    IfOk-weaker c.add.result _ _
    (λ r is.
    is
    ∙ joined_by A (subst IsGAlgebra c.algebra-algebra.ensures c.n-n.ensures.accepted) c.args.coef c.args.mono.now c.args.f.now
    c.in_ok-passed.field-0.passed c.in_ok-passed.field-0.rest c.in_ok-passed.ensures c.field.result c.order.result.now c.in_ok-crossed.crossed
    (c.field.ensures ∙ ap (λ (A : Algebra). A.p) c.algebra-algebra.ensures) (c.order.ensures ∙ ap (λ (A : Algebra). A.order) c.algebra-algebra.ensures)
    c.in_ok-crossed.ensures.value)
    c.add.ensures.value
