use Rattle.std.proofs.Common.{◌≡◌, ℕ, ◌-◌, ◌%◌, ◌<◌, arith, length, sym, ap, ◌∙◌, subst, subst₂}
use Rattle.monomials.specs.Monomials.{minus, lcm, divides}
use Rattle.monomials.specs.Orders.{RowOrder, order_cmp}
use Rattle.monomials.specs.Polynomials.{IsPolynomial, poly_add, poly_scale}
use Rattle.monomials.specs.Leading.{leading_monomial, leading_coefficient}
use Rattle.word_model.specs.Words.{Algebra}
use Rattle.word_model.specs.Conditions.{IsGAlgebra}
use Rattle.word_model.specs.Reduction.{quotient, multiple}
use Rattle.word_model.proofs.PairCofactors.{Reaches, reaches}
use Rattle.left_reduce.proofs.Made.{s_polynomial-made, minus_multiple}
use Rattle.left_reduce.proofs.start.s_polynomial.Given as given
use Rattle.left_reduce.proofs.start.s_polynomial.Goals as goal
use Rattle.left_reduce.proofs.start.s_polynomial.Goals.{After-lcm-reached, After-minus, After-minus-2, In_ok-second}

-- the leading monomials and their least common multiple
reach : (o : given.Over) (c : After-lcm-reached o) → Reaches c.args.seat.now.algebra.order.vars c.args.f.now c.args.g.now
reach o c = reaches c.args.seat.now.algebra.order.vars c.args.f.now c.args.g.now c.requires.f_sorted.vars c.requires.g_sorted.vars c.requires.f_nonzero c.requires.g_nonzero

reached_is : (o : given.Over) (c : After-lcm-reached o) → c.lcm-reached.result ≡ lcm (leading_monomial c.args.f.now) (leading_monomial c.args.g.now)
reached_is o c = c.lcm-reached.ensures ∙ (λ j. lcm (c.lead-f_lead.ensures.mono j) (c.lead-g_lead.ensures.mono j))

-- the monomials of the two multiples
f_mono_is : (o : given.Over) (c : After-minus o) → c.minus.result ≡ minus (lcm (leading_monomial c.args.f.now) (leading_monomial c.args.g.now)) (leading_monomial c.args.f.now)
f_mono_is o c = c.minus.ensures ∙ (λ j. minus ((c.lcm-reached.ensures ∙ (λ j. lcm (c.lead-f_lead.ensures.mono j) (c.lead-g_lead.ensures.mono j))) j) (c.lead-f_lead.ensures.mono j))

g_mono_is : (o : given.Over) (c : After-minus-2 o) → c.minus-2.result ≡ minus (lcm (leading_monomial c.args.f.now) (leading_monomial c.args.g.now)) (leading_monomial c.args.g.now)
g_mono_is o c = c.minus-2.ensures ∙ (λ j. minus ((c.lcm-reached.ensures ∙ (λ j. lcm (c.lead-f_lead.ensures.mono j) (c.lead-g_lead.ensures.mono j))) j) (c.lead-g_lead.ensures.mono j))

pub minus-requires-clause-same_length : goal.minus-requires-clause-same_length
minus-requires-clause-same_length o c =
    let at = (goal.at.minus-requires-clause-same_length o c).After-lcm-reached in
    ap length (reached_is o at) ∙ (reach o at).lcm_vars ∙ sym (ap length c.lead-f_lead.ensures.mono ∙ (reach o at).f_vars)

pub minus-requires-clause-divisible : goal.minus-requires-clause-divisible
minus-requires-clause-divisible o c =
    let at = (goal.at.minus-requires-clause-divisible o c).After-lcm-reached in
    (λ j. divides (c.lead-f_lead.ensures.mono j) (reached_is o at j)) ∙ (reach o at).f_divides

pub multiple-requires-clause-vars : goal.multiple-requires-clause-vars
multiple-requires-clause-vars o c =
    let at = goal.at.multiple-requires-clause-vars o c in
    ap length (f_mono_is o at.After-minus) ∙ (reach o at.After-lcm-reached).first_vars

pub minus-requires-2-clause-same_length : goal.minus-requires-2-clause-same_length
minus-requires-2-clause-same_length o c =
    let at = (goal.at.minus-requires-2-clause-same_length o c).After-lcm-reached in
    ap length (reached_is o at) ∙ (reach o at).lcm_vars ∙ sym (ap length c.lead-g_lead.ensures.mono ∙ (reach o at).g_vars)

pub minus-requires-2-clause-divisible : goal.minus-requires-2-clause-divisible
minus-requires-2-clause-divisible o c =
    let at = (goal.at.minus-requires-2-clause-divisible o c).After-lcm-reached in
    (λ j. divides (c.lead-g_lead.ensures.mono j) (reached_is o at j)) ∙ (reach o at).g_divides

pub multiple-requires-2-clause-vars : goal.multiple-requires-2-clause-vars
multiple-requires-2-clause-vars o c =
    let at = goal.at.multiple-requires-2-clause-vars o c in
    ap length (g_mono_is o at.After-minus-2) ∙ (reach o at.After-lcm-reached).second_vars ∙ ap (λ (a : Algebra). a.order.vars) (sym c.in_ok-first.ensures.algebra)

-- the second multiple, in the algebra that the seat had at first
second_is : (o : given.Over) (c : In_ok-second o) → c.in_ok-second.second ≡ multiple c.args.seat.now.algebra 1 c.minus-2.result c.args.g.now
second_is o c = c.in_ok-second.ensures.value ∙ ap (λ (a : Algebra). multiple a 1 c.minus-2.result c.args.g.now) c.in_ok-first.ensures.algebra

second_sorted : (o : given.Over) (c : In_ok-second o) → IsPolynomial c.args.seat.now.algebra.p c.args.seat.now.algebra.order c.in_ok-second.second
second_sorted o c = subst (λ (a : Algebra). IsPolynomial a.p a.order c.in_ok-second.second) c.in_ok-first.ensures.algebra c.in_ok-second.ensures.sorted

-- the field's number
field_is : (o : given.Over) (c : In_ok-second o) → c.field-field.result ≡ c.args.seat.now.algebra.p
field_is o c = c.field-field.ensures ∙ ap (λ (a : Algebra). a.p) c.algebra-alg.ensures

pub add_multiple-requires-clause-other_sorted : goal.add_multiple-requires-clause-other_sorted
add_multiple-requires-clause-other_sorted o c =
    let at = (goal.at.add_multiple-requires-clause-other_sorted o c).In_ok-second in
    let P : ℕ → RowOrder → Type 0 = λ p order. IsPolynomial p order c.in_ok-second.second in
    let order_is : c.order.result.now ≡ c.args.seat.now.algebra.order = c.order.ensures ∙ ap (λ (a : Algebra). a.order) c.algebra-alg.ensures in
    subst₂ P (sym (field_is o at)) (sym order_is) (second_sorted o at)

pub returns-clause-value : goal.returns-clause-value
returns-clause-value o c =
    let at = goal.at.returns-clause-value o c in
    let A : Algebra = c.args.seat.now.algebra in
    let ok : IsGAlgebra A = subst IsGAlgebra c.algebra-alg.ensures c.n-n.ensures.accepted in
    let first = c.in_ok-first.first in
    let second = c.in_ok-second.second in
    let k = c.div-k.result in
    let p_is : c.field-field.result ≡ A.p = field_is o at.In_ok-second in
    let order_is : c.order.result.now ≡ A.order = c.order.ensures ∙ ap (λ (a : Algebra). a.order) c.algebra-alg.ensures in
    let number : k ≡ quotient A.p (leading_coefficient first) (leading_coefficient second) =
    c.div-k.ensures.value ∙ (λ j. quotient (p_is j) (c.lead.ensures.coef j) (c.lead-2.ensures.coef j)) in
    let less : k < A.p = subst (λ p. k < p) p_is c.div-k.ensures.in_range in
    let negated : c.neg.result ≡ (A.p - k) % A.p = c.neg.ensures.value ∙ ap (λ p. (p - k) % p) p_is in
    c.in_ok-add_multiple.ensures.value
    ∙ (λ j. poly_add (order_cmp (order_is j).rows) (p_is j) first (poly_scale (p_is j) (negated j) second))
    ∙ ap (poly_add (order_cmp A.order.rows) A.p first) (minus_multiple A.p k A.order second (omega (arith, less)) less (second_sorted o at.In_ok-second))
    ∙ s_polynomial-made A ok c.args.f.now c.args.g.now c.minus.result c.minus-2.result first second k c.requires.g_sorted
    (ap length (g_mono_is o at.After-minus-2) ∙ (reach o at.After-lcm-reached).second_vars) (f_mono_is o at.After-minus) (g_mono_is o at.After-minus-2)
    c.in_ok-first.ensures.value (second_is o at.In_ok-second) number
