use Rattle.std.proofs.Common.{◌++◌, sym, subst}
use Rattle.monomials.specs.Polynomials.{IsPolynomial}
use Rattle.left_reduce.proofs.Passing.{IsTermList-whole}
use Rattle.left_reduce.proofs.targets.Work.into_poly.Goals as goal

pub append-requires : goal.append-requires
append-requires c =
    let p = c.args.field in
    let o = c.args.order.now in
    let f = c.args.self.passed in
    let rest = c.in_ok-rest.rest in
    record {
      terms =
          IsTermList-whole p o f rest (subst (λ s. IsPolynomial p o (f ++ s)) (sym c.in_ok-rest.ensures.value) c.requires.whole)
          c.terms-front.ensures.facts c.terms-behind.ensures.facts;
    }
