use Rattle.std.proofs.Common.{sym, subst}
use Rattle.monomials.specs.Polynomials.{HasNumbers, IsPolynomial}
use Rattle.monomials.proofs.Operations.{HasNumbers-polynomial}
use Rattle.script_values.proofs.operations.divided.Goals as goal

pub scale-requires-clause-numbers : goal.scale-requires-clause-numbers
scale-requires-clause-numbers c =
    let A = c.args.algebra.now in
    subst (λ p. HasNumbers p c.args.f.now) (sym c.field-field.ensures) (HasNumbers-polynomial A.p A.order c.args.f.now c.requires)

pub returns-clause-polynomial : goal.returns-clause-polynomial
returns-clause-polynomial c =
    let A = c.args.algebra.now in
    subst (λ p. IsPolynomial p A.order c.in_ok-scale.field-0) c.field-field.ensures
    (c.in_ok-scale.ensures.sorted A.order (subst (λ p. IsPolynomial p A.order c.args.f.now) (sym c.field-field.ensures) c.requires))
