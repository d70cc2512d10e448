use Rattle.std.proofs.Common.{sym, ap, subst, length, arith}
use Rattle.monomials.specs.Orders.{order_cmp}
use Rattle.monomials.specs.Polynomials.{HasNumbers, IsPolynomial}
use Rattle.monomials.proofs.Operations.{HasNumbers-canonical}
use Rattle.gpoly.proofs.Lists.{Each-get_or}
use Rattle.algebra.proofs.presentation.Presentation.d.Goals as goal

pub returns-clause-numbers : goal.returns-clause-numbers
returns-clause-numbers c =
    let a = c.self.inside in
    let polynomial : IsPolynomial a.field a.order c.index.result.now =
    subst (IsPolynomial a.field a.order) (sym c.index.ensures)
    (Each-get_or (IsPolynomial a.field a.order) a.d.items c.pair_index.result c.index.result.now
    (omega (arith, c.pair_index.ensures.polynomial, ap (λ b. length b.d) c.self.view_is)) c.self.invariant.polynomials) in
    subst (λ p. HasNumbers p c.index.result.now) (ap (λ b. b.p) c.self.view_is) (HasNumbers-canonical (order_cmp a.order.rows) a.field c.index.result.now polynomial.canonical)
