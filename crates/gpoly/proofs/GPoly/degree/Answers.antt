use Rattle.std.proofs.Common.{ap, arith, ◌≡◌}
use Rattle.monomials.specs.Polynomials.{poly_degree}
use Rattle.gpoly.specs.Terms.{pairs_of}
use Rattle.gpoly.proofs.TermLists.{poly_degree_small}
use Rattle.gpoly.proofs.GPoly.degree.Goals as goal

pub returns-clause-small : goal.returns-clause-small
returns-clause-small c =
    let whole : poly_degree (pairs_of c.deref-term-items.result.now) ≡ poly_degree (pairs_of c.self.inside.terms.items) =
    ap (λ ts. poly_degree (pairs_of ts)) c.deref-term-items.ensures.value in
    omega (arith, c.loop-term.invariant.rest, whole, poly_degree_small 4095 (pairs_of c.self.inside.terms.items) c.self.invariant.small)
