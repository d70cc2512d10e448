use Rattle.std.proofs.Common.{◌≡◌, ◌+◌, ◌≤◌, ◌<◌, ◌++◌, max, List, [], ◌∷◌, drop, length, true, false, Some, refl, sym, ap, ◌∙◌, subst, arith, length-append}
use Rattle.monomials.specs.Orders.{order_cmp}
use Rattle.monomials.specs.Polynomials.{Polynomial, IsPolynomial, poly_add, poly_degree}
use Rattle.gpoly.specs.Terms.{pair_of}
use Rattle.gpoly.specs.Sums.{poly_sum, AreSorted}
use Rattle.word_model.specs.Words.{Algebra}
use Rattle.word_model.specs.Conditions.{IsGAlgebra}
use Rattle.word_model.specs.Products.{degree_limit}
use Rattle.word_model.specs.declared.records.TraceStep.{TraceStep}
use Rattle.word_model.specs.Reduction.{Ends, Undefined, Goes, next_step, Reduced}
use Rattle.word_model.proofs.Reductions.{next_step-sorted}
use Rattle.left_reduce.specs.Inside.Steps.{target_of, target_by, next_of, products_of, after_steps, reduction_by, whole_of, IsPassed}
use Rattle.left_reduce.proofs.Falling.{steps_after, reduction-next, fewer_steps}
use Rattle.left_reduce.proofs.Made.{one_more, at_end, at_over, counted-own}
use Rattle.left_reduce.proofs.Working.{ours, IsSearched, none_at, target_at, rest_at, made}
use Rattle.left_reduce.proofs.stepping.all_steps.Given as given
use Rattle.left_reduce.proofs.stepping.all_steps.Goals as goal
use Rattle.left_reduce.proofs.stepping.all_steps.Goals.{In-Some, In_ok-add-in-Step, In-Over, In_default}

-- the search for the target, in the field and the order of the algebra, at each place that it is cited
searched_some : (g : given.Over) (c : In-Some g)
    → IsSearched c.args.seat.now.algebra.p c.args.seat.now.algebra.order (g.B.Elements.elements c.args.basis.now) c.args.aim c.loop-work.work c.target.new.self c.in_ok-target.field-0
searched_some g c =
    ours c.args.seat.now.algebra c.algebra-alg.result.now c.algebra-alg.ensures c.field-field.result c.order-order.result.now c.field-field.ensures c.order-order.ensures
    (λ p o. IsSearched p o (g.B.Elements.elements c.args.basis.now) c.args.aim c.loop-work.work c.target.new.self c.in_ok-target.field-0)
    (record { work = c.in_ok-target.ensures.work; whole = c.in_ok-target.ensures.whole; target = c.in_ok-target.ensures.target; next = c.in_ok-target.ensures.next })

searched_step : (g : given.Over) (c : In_ok-add-in-Step g)
    → IsSearched c.args.seat.now.algebra.p c.args.seat.now.algebra.order (g.B.Elements.elements c.args.basis.now) c.args.aim c.loop-work.work c.target.new.self c.in_ok-target.field-0
searched_step g c =
    ours c.args.seat.now.algebra c.algebra-alg.result.now c.algebra-alg.ensures c.field-field.result c.order-order.result.now c.field-field.ensures c.order-order.ensures
    (λ p o. IsSearched p o (g.B.Elements.elements c.args.basis.now) c.args.aim c.loop-work.work c.target.new.self c.in_ok-target.field-0)
    (record { work = c.in_ok-target.ensures.work; whole = c.in_ok-target.ensures.whole; target = c.in_ok-target.ensures.target; next = c.in_ok-target.ensures.next })

searched_over : (g : given.Over) (c : In-Over g)
    → IsSearched c.args.seat.now.algebra.p c.args.seat.now.algebra.order (g.B.Elements.elements c.args.basis.now) c.args.aim c.loop-work.work c.target.new.self c.in_ok-target.field-0
searched_over g c =
    ours c.args.seat.now.algebra c.algebra-alg.result.now c.algebra-alg.ensures c.field-field.result c.order-order.result.now c.field-field.ensures c.order-order.ensures
    (λ p o. IsSearched p o (g.B.Elements.elements c.args.basis.now) c.args.aim c.loop-work.work c.target.new.self c.in_ok-target.field-0)
    (record { work = c.in_ok-target.ensures.work; whole = c.in_ok-target.ensures.whole; target = c.in_ok-target.ensures.target; next = c.in_ok-target.ensures.next })

searched_default : (g : given.Over) (c : In_default g)
    → IsSearched c.args.seat.now.algebra.p c.args.seat.now.algebra.order (g.B.Elements.elements c.args.basis.now) c.args.aim c.loop-work.work c.target.new.self c.in_ok-target.field-0
searched_default g c =
    ours c.args.seat.now.algebra c.algebra-alg.result.now c.algebra-alg.ensures c.field-field.result c.order-order.result.now c.field-field.ensures c.order-order.ensures
    (λ p o. IsSearched p o (g.B.Elements.elements c.args.basis.now) c.args.aim c.loop-work.work c.target.new.self c.in_ok-target.field-0)
    (record { work = c.in_ok-target.ensures.work; whole = c.in_ok-target.ensures.whole; target = c.in_ok-target.ensures.target; next = c.in_ok-target.ensures.next })

-- the steps so far, and those of what is left
so_far_over : (g : given.Over) (c : In-Over g)
    → after_steps c.args.trace (reduction_by c.args.aim c.args.seat.now.algebra (g.B.Elements.elements c.args.basis.now) c.args.h)
    ≡ after_steps c.loop-work.trace (reduction_by c.args.aim c.args.seat.now.algebra (g.B.Elements.elements c.args.basis.now)
    (whole_of c.args.seat.now.algebra.p c.args.seat.now.algebra.order c.loop-work.work))
so_far_over g c =
    let A : Algebra = c.args.seat.now.algebra in
    let start : whole_of A.p A.order c.in_ok-work.work ≡ c.args.h =
    ours A c.algebra-alg.result.now c.algebra-alg.ensures c.field-field.result c.order-order.result.now c.field-field.ensures c.order-order.ensures
    (λ p o. whole_of p o c.in_ok-work.work ≡ c.args.h) (λ j. c.in_ok-work.ensures.passed j ++ c.in_ok-work.ensures.rest j) in
    ap (λ h. after_steps c.args.trace (reduction_by c.args.aim A (g.B.Elements.elements c.args.basis.now) h)) (sym start)
    ∙ c.loop-work.invariant.value

so_far_default : (g : given.Over) (c : In_default g)
    → after_steps c.args.trace (reduction_by c.args.aim c.args.seat.now.algebra (g.B.Elements.elements c.args.basis.now) c.args.h)
    ≡ after_steps c.loop-work.trace (reduction_by c.args.aim c.args.seat.now.algebra (g.B.Elements.elements c.args.basis.now)
    (whole_of c.args.seat.now.algebra.p c.args.seat.now.algebra.order c.loop-work.work))
so_far_default g c =
    let A : Algebra = c.args.seat.now.algebra in
    let start : whole_of A.p A.order c.in_ok-work.work ≡ c.args.h =
    ours A c.algebra-alg.result.now c.algebra-alg.ensures c.field-field.result c.order-order.result.now c.field-field.ensures c.order-order.ensures
    (λ p o. whole_of p o c.in_ok-work.work ≡ c.args.h) (λ j. c.in_ok-work.ensures.passed j ++ c.in_ok-work.ensures.rest j) in
    ap (λ h. after_steps c.args.trace (reduction_by c.args.aim A (g.B.Elements.elements c.args.basis.now) h)) (sym start)
    ∙ c.loop-work.invariant.value

-- the target leads the rest, which is sorted
lead : (g : given.Over) (c : In-Some g)
    → IsPolynomial c.args.seat.now.algebra.p c.args.seat.now.algebra.order
    (pair_of c.in-Some.target.term ∷ drop 1 (poly_sum (order_cmp c.args.seat.now.algebra.order.rows) c.args.seat.now.algebra.p c.target.new.self.rest))
lead g c =
    rest_at c.args.seat.now.algebra (g.B.Elements.elements c.args.basis.now) c.args.aim c.loop-work.work c.target.new.self c.in_ok-target.field-0
    (searched_some g c) c.in-Some.target c.in-Some.is

pub next_step-requires-clause-vars : goal.next_step-requires-clause-vars
next_step-requires-clause-vars g c =
    (lead g (goal.at.next_step-requires-clause-vars g c).In-Some).vars.0 ∙ ap (λ (a : Algebra). a.order.vars) (sym c.loop-work.invariant.algebra)

pub next_step-requires-clause-in_range : goal.next_step-requires-clause-in_range
next_step-requires-clause-in_range g c =
    subst (λ (a : Algebra). c.in-Some.target.term.coef < a.p) (sym c.loop-work.invariant.algebra)
    (lead g (goal.at.next_step-requires-clause-in_range g c).In-Some).canonical.1

pub next_step-requires-clause-not_zero : goal.next_step-requires-clause-not_zero
next_step-requires-clause-not_zero g c = (lead g (goal.at.next_step-requires-clause-not_zero g c).In-Some).canonical.0

-- the step that is made
stepped : (g : given.Over) (c : In_ok-add-in-Step g)
    → let A = c.args.seat.now.algebra in
    let G = g.B.Elements.elements c.args.basis.now in
    let whole = whole_of A.p A.order c.loop-work.work in
    next_step A G whole (target_by c.args.aim G whole) ≡ Goes c.in-Step.step (whole_of A.p A.order c.add.new.self)
stepped g c =
    let A : Algebra = c.args.seat.now.algebra in
    let G = g.B.Elements.elements c.args.basis.now in
    let w = c.target.new.self in
    let f = c.in-Step.multiple in
    let rest_is : poly_sum (order_cmp A.order.rows) A.p c.add.new.self.rest ≡ poly_add (order_cmp A.order.rows) A.p (poly_sum (order_cmp A.order.rows) A.p w.rest) f =
    ours A c.algebra-alg.result.now c.algebra-alg.ensures c.field-field.result c.order-order.result.now c.field-field.ensures c.order-order.ensures
    (λ p o. poly_sum (order_cmp o.rows) p c.add.new.self.rest ≡ poly_add (order_cmp o.rows) p (poly_sum (order_cmp o.rows) p w.rest) f)
    c.in_ok-add-in-Step.ensures.rest in
    made A G c.args.aim c.loop-work.work w c.in_ok-target.field-0 (searched_step g c) c.in-Some.target c.in-Some.is
    (subst IsGAlgebra c.algebra-alg.ensures c.n-n.ensures.accepted) c.requires.sorted c.in-Step.step f
    (λ h.
    ap (λ (a : Algebra). next_step a G h (Some (target_of c.in-Some.target))) (sym c.loop-work.invariant.algebra)
    ∙ c.in_ok-step.ensures.value h
    ∙ ap (λ n. next_of c.loop-work.seat.algebra n h) c.in-Step.is
    ∙ ap (λ (a : Algebra). Goes c.in-Step.step (poly_add (order_cmp a.order.rows) a.p h f)) c.loop-work.invariant.algebra)
    c.add.new.self c.in_ok-add-in-Step.ensures.passed rest_is

-- fewer steps may follow it
fewer : (g : given.Over) (c : In_ok-add-in-Step g)
    → let A = c.args.seat.now.algebra in
    let G = g.B.Elements.elements c.args.basis.now in
    let D = max degree_limit (poly_degree (whole_of A.p A.order c.in_ok-work.work)) in
    (poly_degree (whole_of A.p A.order c.add.new.self) ≤ D)
    × (steps_after A D (target_by c.args.aim G (whole_of A.p A.order c.add.new.self)) < steps_after A D (target_by c.args.aim G (whole_of A.p A.order c.loop-work.work)))
fewer g c =
    let A : Algebra = c.args.seat.now.algebra in
    let D = max degree_limit (poly_degree (whole_of A.p A.order c.in_ok-work.work)) in
    let wide : degree_limit ≤ D = omega arith in
    fewer_steps A (subst IsGAlgebra c.algebra-alg.ensures c.n-n.ensures.accepted) (g.B.Elements.elements c.args.basis.now) c.requires.sorted
    D wide (whole_of A.p A.order c.loop-work.work) c.in-Step.step (whole_of A.p A.order c.add.new.self)
    c.loop-work.invariant.work.whole c.loop-work.invariant.low c.args.aim (stepped g c)

pub loop-work-smaller : goal.loop-work-smaller
loop-work-smaller g c = (fewer g (goal.at.loop-work-smaller g c).In_ok-add-in-Step).1

pub loop-work-preserved : goal.loop-work-preserved
loop-work-preserved g c =
    let at = (goal.at.loop-work-preserved g c).In_ok-add-in-Step in
    let A : Algebra = c.args.seat.now.algebra in
    let G = g.B.Elements.elements c.args.basis.now in
    let ok : IsGAlgebra A = subst IsGAlgebra c.algebra-alg.ensures c.n-n.ensures.accepted in
    let aim = c.args.aim in
    let whole = whole_of A.p A.order c.loop-work.work in
    let left = whole_of A.p A.order c.add.new.self in
    let so_far = c.loop-work.invariant in
    let one : c.next_step.new.steps ≡ c.loop-work.steps + 1 = c.in_ok-step.ensures.counted ∙ ap (λ n. c.loop-work.steps + products_of n) c.in-Step.is in
    let longer : length c.push.new.self ≡ length c.loop-work.trace + 1 =
    ap length c.in_ok-push-in-Step.ensures.value ∙ length-append c.loop-work.trace (c.in-Step.step ∷ []) in
    record {
      algebra = c.in_ok-step.ensures.algebra ∙ so_far.algebra;
      kept = λ place known. c.in_ok-step.ensures.kept place (so_far.kept place known);
      work = record {
        sorted =
            ours A c.algebra-alg.result.now c.algebra-alg.ensures c.field-field.result c.order-order.result.now c.field-field.ensures c.order-order.ensures
            (λ p o. AreSorted p o c.add.new.self.rest) c.in_ok-add-in-Step.ensures.sorted;
        whole = next_step-sorted A ok G c.requires.sorted whole (target_by aim G whole) c.in-Step.step left so_far.work.whole (stepped g at);
        passed = subst (IsPassed aim G) (sym c.in_ok-add-in-Step.ensures.passed) (searched_step g at).work.passed;
      };
      low = (fewer g at).0;
      value =
          one_more (reduction_by aim A G) (after_steps c.args.trace (reduction_by aim A G (whole_of A.p A.order c.in_ok-work.work))) c.loop-work.trace whole
          (next_step A G whole (target_by aim G whole)) so_far.value (reduction-next A ok G c.requires.sorted aim whole so_far.work.whole) c.in-Step.step left (stepped g at)
          ∙ ap (λ steps. after_steps steps (reduction_by aim A G left)) (sym c.in_ok-push-in-Step.ensures.value);
      counted = omega (arith, one, longer, so_far.counted);
    }

-- a reduction whose next step is undefined
over : (g : given.Over) (c : In-Over g)
    → after_steps c.args.trace (reduction_by c.args.aim c.args.seat.now.algebra (g.B.Elements.elements c.args.basis.now) c.args.h)
    ≡ record { trace = c.loop-work.trace; rest = whole_of c.args.seat.now.algebra.p c.args.seat.now.algebra.order c.loop-work.work; over = true }
over g c =
    let A : Algebra = c.args.seat.now.algebra in
    let G = g.B.Elements.elements c.args.basis.now in
    let aim = c.args.aim in
    let at = searched_over g c in
    let now = whole_of A.p A.order c.target.new.self in
    let whole = whole_of A.p A.order c.loop-work.work in
    let undefined : next_step A G whole (target_by aim G whole) ≡ Undefined =
    subst (λ h. next_step A G h (target_by aim G h) ≡ Undefined) at.whole
    (ap (next_step A G now) (target_at A G aim c.loop-work.work c.target.new.self c.in_ok-target.field-0 at c.in-Some.target c.in-Some.is)
    ∙ ap (λ (a : Algebra). next_step a G now (Some (target_of c.in-Some.target))) (sym c.loop-work.invariant.algebra)
    ∙ c.in_ok-step.ensures.value now
    ∙ ap (λ n. next_of c.loop-work.seat.algebra n now) c.in-Over.is) in
    at_over (reduction_by aim A G) (after_steps c.args.trace (reduction_by aim A G c.args.h)) c.loop-work.trace whole (next_step A G whole (target_by aim G whole))
    (so_far_over g c) (reduction-next A (subst IsGAlgebra c.algebra-alg.ensures c.n-n.ensures.accepted) G c.requires.sorted aim whole c.loop-work.invariant.work.whole) undefined

pub returns-in-Over-clause-value : goal.returns-in-Over-clause-value
returns-in-Over-clause-value g c =
    let at = (goal.at.returns-in-Over-clause-value g c).In-Over in
    let A : Algebra = c.args.seat.now.algebra in
    let rest = c.in_ok-rest-in-Over.rest in
    let left : rest ≡ whole_of A.p A.order c.loop-work.work =
    ours A c.algebra-alg.result.now c.algebra-alg.ensures c.field-field.result c.order-order.result.now c.field-field.ensures c.order-order.ensures
    (λ p o. rest ≡ whole_of p o c.target.new.self) c.in_ok-rest-in-Over.ensures ∙ (searched_over g at).whole in
    let with_rest : Polynomial → Reduced = λ r. record { trace = c.loop-work.trace; rest = r; over = true } in
    ap with_rest left ∙ sym (over g at)

pub returns-in-Over-clause-counted : goal.returns-in-Over-clause-counted
returns-in-Over-clause-counted g c =
    let none : c.next_step.new.steps ≡ c.loop-work.steps + 0 = c.in_ok-step.ensures.counted ∙ ap (λ n. c.loop-work.steps + products_of n) c.in-Over.is in
    counted-own c.args.trace c.loop-work.trace _ _ c.args.steps.now c.next_step.new.steps (over g (goal.at.returns-in-Over-clause-counted g c).In-Over) refl
    (omega (arith, none, c.loop-work.invariant.counted))

-- a reduction that ended
ended : (g : given.Over) (c : In_default g)
    → after_steps c.args.trace (reduction_by c.args.aim c.args.seat.now.algebra (g.B.Elements.elements c.args.basis.now) c.args.h)
    ≡ record { trace = c.loop-work.trace; rest = whole_of c.args.seat.now.algebra.p c.args.seat.now.algebra.order c.loop-work.work; over = false }
ended g c =
    let A : Algebra = c.args.seat.now.algebra in
    let G = g.B.Elements.elements c.args.basis.now in
    let aim = c.args.aim in
    let whole = whole_of A.p A.order c.loop-work.work in
    let ends : next_step A G whole (target_by aim G whole) ≡ Ends =
    ap (next_step A G whole) (none_at A G aim c.loop-work.work c.target.new.self c.in_ok-target.field-0 (searched_default g c) c.in_default.is) in
    at_end (reduction_by aim A G) (after_steps c.args.trace (reduction_by aim A G c.args.h)) c.loop-work.trace whole (next_step A G whole (target_by aim G whole))
    (so_far_default g c) (reduction-next A (subst IsGAlgebra c.algebra-alg.ensures c.n-n.ensures.accepted) G c.requires.sorted aim whole c.loop-work.invariant.work.whole) ends

pub returns-clause-value : goal.returns-clause-value
returns-clause-value g c =
    let at = (goal.at.returns-clause-value g c).In_default in
    let A : Algebra = c.args.seat.now.algebra in
    let rest = c.in_ok-rest.rest in
    let left : rest ≡ whole_of A.p A.order c.loop-work.work =
    ours A c.algebra-alg.result.now c.algebra-alg.ensures c.field-field.result c.order-order.result.now c.field-field.ensures c.order-order.ensures
    (λ p o. rest ≡ whole_of p o c.target.new.self) c.in_ok-rest.ensures ∙ (searched_default g at).whole in
    let with_trace : List TraceStep → Reduced = λ t. record { trace = t; rest = rest; over = false } in
    let with_rest : Polynomial → Reduced = λ r. record { trace = c.loop-work.trace; rest = r; over = false } in
    ap with_trace c.shrink.ensures ∙ ap with_rest left ∙ sym (ended g at)

pub returns-clause-counted : goal.returns-clause-counted
returns-clause-counted g c =
    counted-own c.args.trace c.loop-work.trace _ _ c.args.steps.now c.loop-work.steps (ended g (goal.at.returns-clause-counted g c).In_default) refl
    c.loop-work.invariant.counted
