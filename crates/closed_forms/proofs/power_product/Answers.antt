use Rattle.std.proofs.Common.{◌∙◌, ◌<◌, sym, ap, subst, arith}
use Rattle.std.proofs.lemmas.Result.{IfOk-weaker}
use Rattle.prime_field.specs.Modular.{IsPrime}
use Rattle.monomials.specs.Polynomials.{Each}
use Rattle.closed_forms.specs.Forms.{IsFalling, IsNumber, closed_form, in_algebra}
use Rattle.closed_forms.proofs.Normal.{normal_form-powers}
use Rattle.closed_forms.proofs.Shape.{closed_form_numbers, closed_form_falls}
use Rattle.closed_forms.proofs.power_product.Goals as goal

pub returns-clause-value : goal.returns-clause-value
returns-clause-value c =
    let prime : IsPrime c.args.field = c.p-p.ensures.prime in
    IfOk-weaker c.closed_form.result _ _
    (λ r formula A i j field downward has.
    normal_form-powers A i j c.args.kind.now c.args.a c.args.b (subst (λ p. 1 < p) (sym field) prime.above_one) downward has
    ∙ ap (in_algebra A i j) (ap (λ p. closed_form p c.args.kind.now c.args.a c.args.b) field ∙ sym formula))
    c.closed_form.ensures

pub returns-clause-falling : goal.returns-clause-falling
returns-clause-falling c =
    IfOk-weaker c.closed_form.result _ _ (λ r formula. subst IsFalling (sym formula) (closed_form_falls c.args.field c.args.kind.now c.args.a c.args.b)) c.closed_form.ensures

pub returns-clause-nonzero : goal.returns-clause-nonzero
returns-clause-nonzero c =
    let prime : IsPrime c.args.field = c.p-p.ensures.prime in
    IfOk-weaker c.closed_form.result _ _
    (λ r formula. subst (Each (IsNumber c.args.field)) (sym formula) (closed_form_numbers c.args.field (omega (arith, prime.above_one)) prime.above_one c.args.kind.now c.args.a c.args.b))
    c.closed_form.ensures
