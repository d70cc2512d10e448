use Rattle.std.proofs.Common.{◌++◌, subst}
use Rattle.monomials.specs.Orders.{order_cmp}
use Rattle.monomials.specs.Polynomials.{IsPolynomial}
use Rattle.gpoly.specs.Terms.{pair_of}
use Rattle.gpoly.specs.Sums.{poly_sum}
use Rattle.left_reduce.proofs.Passing.{IsTermList-front}
use Rattle.left_reduce.proofs.targets.Work.pass.Goals as goal

pub push-requires : goal.push-requires
push-requires c =
    let p = c.args.field in
    let o = c.args.order.now in
    let f = c.args.self.now.passed in
    record {
      terms =
          IsTermList-front p o f (pair_of c.in-Some.term) (poly_sum (order_cmp o.rows) p c.take_leading.new.self)
          (subst (λ s. IsPolynomial p o (f ++ s)) c.in-Some.ensures.lead c.requires.whole) c.terms-facts.ensures.facts c.in-Some.ensures.small;
    }
