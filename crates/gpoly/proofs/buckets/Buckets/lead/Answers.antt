use Rattle.std.proofs.Common.{◌≡◌, ◌<◌, map, sym, ap, ◌∙◌, subst, arith}
use Rattle.monomials.specs.Orders.{order_cmp}
use Rattle.monomials.specs.Polynomials.{IsPolynomial, cons_nonzero}
use Rattle.monomials.proofs.Keys.{Each-weaker}
use Rattle.monomials.proofs.Insertion.{cons_nonzero-positive}
use Rattle.gpoly.specs.Sums.{poly_sum, AreSorted}
use Rattle.gpoly.specs.Inside.Leads.{without}
use Rattle.gpoly.proofs.Gathered.{terms_in, AreSorted-without, sum_at, greatest-at_least, greatest-none, fewer_terms}
use Rattle.gpoly.proofs.buckets.Buckets.lead.Goals as goal
use Rattle.gpoly.proofs.buckets.Buckets.lead.Goals.{After-number_at-coef}

-- the sum begins with what the leading terms add up to
begins : (c : After-number_at-coef)
    → poly_sum (order_cmp c.args.order.now.rows) c.args.field c.loop-mono.self
    ≡ cons_nonzero c.number_at-coef.result c.in-Some.mono
    (poly_sum (order_cmp c.args.order.now.rows) c.args.field (map (without (order_cmp c.args.order.now.rows) c.in-Some.mono) c.loop-mono.self))
begins c =
    let o = c.args.order.now in
    let p = c.args.field in
    let m = c.in-Some.mono in
    let bs = c.loop-mono.self in
    let pos : 0 < p = omega (arith, c.number_at-coef.ensures.in_range) in
    sum_at p o pos m bs c.loop-mono.invariant.sorted (greatest-at_least p o pos m bs c.in-Some.ensures.value)
    ∙ ap (λ n. cons_nonzero n m (poly_sum (order_cmp o.rows) p (map (without (order_cmp o.rows) m) bs))) (sym c.number_at-coef.ensures.value)

pub returns-then-coef-ne0-clause-lead : goal.returns-then-coef-ne0-clause-lead
returns-then-coef-ne0-clause-lead c =
    begins (goal.at.returns-then-coef-ne0-clause-lead c).After-number_at-coef ∙ cons_nonzero-positive c.number_at-coef.result c.in-Some.mono _ (omega (arith, c.if-coef-ne0.true))

pub take_off-requires-clause-vars : goal.take_off-requires-clause-vars
take_off-requires-clause-vars c = Each-weaker _ _ (λ f (h : IsPolynomial c.args.field c.args.order.now f). h.vars) c.loop-mono.self c.loop-mono.invariant.sorted

pub loop-mono-smaller : goal.loop-mono-smaller
loop-mono-smaller c =
    let pos : 0 < c.args.field = omega (arith, c.number_at-coef.ensures.in_range) in
    subst (λ bs. terms_in bs < terms_in c.loop-mono.self) (sym c.take_off.ensures)
    (fewer_terms c.args.field c.args.order.now pos c.in-Some.mono c.loop-mono.self c.in-Some.ensures.value)

pub loop-mono-preserved : goal.loop-mono-preserved
loop-mono-preserved c =
    let o = c.args.order.now in
    let p = c.args.field in
    let pos : 0 < p = omega (arith, c.number_at-coef.ensures.in_range) in
    let zero : c.number_at-coef.result ≡ 0 = omega (arith, c.if-coef-ne0.false) in
    record {
      sorted = subst (AreSorted p o) (sym c.take_off.ensures) (AreSorted-without p o pos c.in-Some.mono c.loop-mono.self c.loop-mono.invariant.sorted);
      value =
          ap (poly_sum (order_cmp o.rows) p) c.take_off.ensures
          ∙ sym (begins (goal.at.loop-mono-preserved c).After-number_at-coef ∙ ap (λ n. cons_nonzero n c.in-Some.mono (poly_sum (order_cmp o.rows) p (map (without (order_cmp o.rows) c.in-Some.mono) c.loop-mono.self))) zero)
          ∙ c.loop-mono.invariant.value;
    }

pub returns-clause-lead : goal.returns-clause-lead
returns-clause-lead c = greatest-none c.args.field c.args.order.now (omega (arith, c.p-p.ensures.prime.above_one)) c.loop-mono.self c.in_default.ensures.value
