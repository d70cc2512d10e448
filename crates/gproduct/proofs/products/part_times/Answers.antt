use Rattle.std.proofs.Common.{◌≡◌, ◌∙◌, refl, ap, subst}
use Rattle.std.proofs.lemmas.Result.{IfOk-weaker}
use Rattle.monomials.specs.Monomials.{power}
use Rattle.word_model.specs.Words.{Algebra}
use Rattle.word_model.specs.Conditions.{IsGAlgebra}
use Rattle.gproduct.specs.Inside.Passing.{IsSplit}
use Rattle.gproduct.proofs.Parted.{joined_by, none_left}
use Rattle.gproduct.proofs.products.part_times.Goals as goal

pub returns-then-is_zero-clause-value : goal.returns-then-is_zero-clause-value
returns-then-is_zero-clause-value c =
    let A = c.args.seat.now.algebra in
    let m = power A.order.vars c.args.v c.args.exponent in
    let n : c.n-n.result ≡ A.order.vars = c.n-n.ensures.value ∙ ap (λ (A : Algebra). A.order.vars) c.algebra-algebra.ensures in
    let is : c.power-power.result ≡ m = c.power-power.ensures ∙ ap (λ n. power n c.args.v c.args.exponent) n in
    none_left A (subst IsGAlgebra c.algebra-algebra.ensures c.n-n.ensures.accepted) 1 m c.args.f
    c.in_ok-passed.field-0.passed c.in_ok-passed.field-0.rest
    (subst (λ m. IsSplit A 1 m c.args.f c.in_ok-passed.field-0.passed c.in_ok-passed.field-0.rest) is c.in_ok-passed.ensures) (c.if-is_zero.ensures.0 refl)

pub returns-clause-value : goal.returns-clause-value
returns-clause-value c =
    let A = c.args.seat.now.algebra in
    let m = power A.order.vars c.args.v c.args.exponent in
    let n : c.n-n.result ≡ A.order.vars = c.n-n.ensures.value ∙ ap (λ (A : Algebra). A.order.vars) c.algebra-algebra.ensures in
    let is : c.power-power.result ≡ m = c.power-power.ensures ∙ ap (λ n. power n c.args.v c.args.exponent) n in
    IfOk-weaker c.add.result _ _
    (λ r sum.
    sum
    ∙ joined_by A (subst IsGAlgebra c.algebra-algebra.ensures c.n-n.ensures.accepted) 1 m c.args.f
    c.in_ok-passed.field-0.passed c.in_ok-passed.field-0.rest
    (subst (λ m. IsSplit A 1 m c.args.f c.in_ok-passed.field-0.passed c.in_ok-passed.field-0.rest) is c.in_ok-passed.ensures)
    c.field.result c.order.result.now c.in_ok-crossed.crossed
    (c.field.ensures ∙ ap (λ (A : Algebra). A.p) c.algebra-algebra.ensures) (c.order.ensures ∙ ap (λ (A : Algebra). A.order) c.algebra-algebra.ensures)
    c.in_ok-crossed.ensures.value)
    c.add.ensures.value
