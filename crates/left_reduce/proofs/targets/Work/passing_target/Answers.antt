use Rattle.std.proofs.Common.{◌≡◌, ◌<◌, [], ◌∷◌, ◌++◌, drop, length, None, sym, ap, ◌∙◌, subst, append_assoc, arith}
use Rattle.monomials.specs.Orders.{order_cmp}
use Rattle.monomials.specs.Polynomials.{Each, HasVars, IsPolynomial}
use Rattle.monomials.proofs.Keys.{Each-second}
use Rattle.gpoly.specs.Terms.{pair_of}
use Rattle.gpoly.specs.Sums.{poly_sum}
use Rattle.left_reduce.specs.Inside.Steps.{target_by, divisor_by, whole_of, IsPassed}
use Rattle.left_reduce.proofs.Passing.{target-here, target-none, passed-more}
use Rattle.left_reduce.proofs.targets.Work.passing_target.Given as given
use Rattle.left_reduce.proofs.targets.Work.passing_target.Goals as goal
use Rattle.left_reduce.proofs.targets.Work.passing_target.Goals.{In-Some}

-- the term stands behind those that were passed over
whole_at : (g : given.Over) (c : In-Some g)
    → IsPolynomial c.args.field c.args.order.now (c.loop-term.self.passed ++ pair_of c.in-Some.term ∷ drop 1 (poly_sum (order_cmp c.args.order.now.rows) c.args.field c.leading.new.self))
whole_at g c =
    subst (λ s. IsPolynomial c.args.field c.args.order.now (c.loop-term.self.passed ++ s)) (sym c.in-Some.ensures.value ∙ c.in-Some.ensures.lead)
    c.loop-term.invariant.work.whole

pub divisor-requires-clause-vars : goal.divisor-requires-clause-vars
divisor-requires-clause-vars g c =
    let at = (goal.at.divisor-requires-clause-vars g c).In-Some in
    let vars : length c.in-Some.term.mono ≡ c.args.order.now.vars =
    (Each-second _ c.loop-term.self.passed (pair_of c.in-Some.term ∷ drop 1 (poly_sum (order_cmp c.args.order.now.rows) c.args.field c.leading.new.self)) (whole_at g at).vars).0 in
    subst (λ n. Each (HasVars n) (g.B.Elements.elements c.args.basis.now)) (sym vars) c.requires.vars

pub returns-in-Some-divisor-clause-target : goal.returns-in-Some-divisor-clause-target
returns-in-Some-divisor-clause-target g c =
    let G = g.B.Elements.elements c.args.basis.now in
    let f = c.loop-term.self.passed in
    ap (λ s. target_by c.args.aim G (f ++ s)) c.in-Some.ensures.lead
    ∙ target-here G c.args.aim f (pair_of c.in-Some.term) (drop 1 (poly_sum (order_cmp c.args.order.now.rows) c.args.field c.leading.new.self)) c.in-Some-divisor.index
    c.loop-term.invariant.work.passed (sym c.divisor.ensures ∙ c.in-Some-divisor.is)

pub loop-term-smaller : goal.loop-term-smaller
loop-term-smaller g c =
    let p = c.args.field in
    let cmp = order_cmp c.args.order.now.rows in
    let s = poly_sum cmp p c.leading.new.self in
    let moved = c.in_ok-pass.ensures.moved (pair_of c.in-Some.term) (drop 1 s) c.in-Some.ensures.lead in
    let less : length (poly_sum cmp p c.pass.new.self.rest) < length (poly_sum cmp p c.loop-term.self.rest) =
    omega (arith, ap length moved.1, ap length c.in-Some.ensures.lead, ap length c.in-Some.ensures.value) in
    less

pub loop-term-preserved : goal.loop-term-preserved
loop-term-preserved g c =
    let p = c.args.field in
    let o = c.args.order.now in
    let G = g.B.Elements.elements c.args.basis.now in
    let f = c.loop-term.self.passed in
    let t = pair_of c.in-Some.term in
    let r = drop 1 (poly_sum (order_cmp o.rows) p c.leading.new.self) in
    let so_far = c.loop-term.invariant in
    let moved : (c.pass.new.self.passed ≡ f ++ t ∷ []) × (poly_sum (order_cmp o.rows) p c.pass.new.self.rest ≡ r) =
    c.in_ok-pass.ensures.moved t r c.in-Some.ensures.lead in
    let none : divisor_by c.args.aim G f c.in-Some.term.mono ≡ None = sym c.divisor.ensures ∙ c.in_default-divisor.is in
    let same : whole_of p o c.pass.new.self ≡ whole_of p o c.loop-term.self =
    (λ j. moved.0 j ++ moved.1 j) ∙ append_assoc f (t ∷ []) r ∙ ap (λ s. f ++ s) (sym c.in-Some.ensures.lead ∙ c.in-Some.ensures.value) in
    record {
      work = record {
        sorted = c.in_ok-pass.ensures.sorted;
        whole = subst (IsPolynomial p o) (sym same) so_far.work.whole;
        passed = subst (IsPassed c.args.aim G) (sym moved.0) (passed-more G c.args.aim f t c.requires.passes so_far.work.passed none);
      };
      whole = same ∙ so_far.whole;
    }

pub returns-clause-target : goal.returns-clause-target
returns-clause-target g c =
    let G = g.B.Elements.elements c.args.basis.now in
    let f = c.loop-term.self.passed in
    ap (λ s. target_by c.args.aim G (f ++ s)) c.in_default.ensures.lead ∙ target-none G c.args.aim f c.loop-term.invariant.work.passed
