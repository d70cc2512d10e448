use Rattle.std.proofs.Common.{◌≡◌, ℕ, ◌-◌, ◌%◌, ◌<◌, arith, length, true, sym, ap, ◌∙◌, subst, subst₂}
use Rattle.monomials.specs.Monomials.{minus, divides}
use Rattle.monomials.specs.Orders.{order_cmp}
use Rattle.monomials.specs.Polynomials.{HasNumbers, IsPolynomial, poly_add, poly_scale, poly_sub}
use Rattle.monomials.proofs.Operations.{HasNumbers-polynomial}
use Rattle.monomials.specs.Leading.{leading_monomial, leading_coefficient}
use Rattle.gpoly.specs.Terms.{pair_of}
use Rattle.word_model.specs.Words.{Algebra}
use Rattle.word_model.specs.Conditions.{IsGAlgebra}
use Rattle.word_model.specs.Reduction.{element, quotient, multiple, is_within, Goes}
use Rattle.left_reduce.proofs.Factors.{HasDivisor, has_divisor, leading-below}
use Rattle.left_reduce.proofs.Made.{step-made, minus_multiple, minus-positive}
use Rattle.left_reduce.proofs.stepping.next_step.Given as given
use Rattle.left_reduce.proofs.stepping.next_step.Goals as goal
use Rattle.left_reduce.proofs.stepping.next_step.Goals.{After-field-field, After-lead, After-minus-mono, In-Ok}

-- the field's number
field_is : (g : given.Over) (c : After-field-field g) → c.field-field.result ≡ c.args.seat.now.algebra.p
field_is g c = c.field-field.ensures ∙ ap (λ (a : Algebra). a.p) c.algebra-alg.ensures

-- the element is the first divisor of the target
divisor : (g : given.Over) (c : After-field-field g)
    → HasDivisor c.args.seat.now.algebra.p c.args.seat.now.algebra.order (g.B.Elements.elements c.args.basis.now) c.args.target.now.term.mono c.args.target.now.index
divisor g c =
    let A : Algebra = c.args.seat.now.algebra in
    let t = c.args.target.now in
    has_divisor A (g.B.Elements.elements c.args.basis.now) t.term.mono t.index c.requires.sorted c.requires.vars c.requires.divisor

-- its leading monomial
lead_is : (g : given.Over) (c : After-lead g) → c.lead.result.now.mono ≡ leading_monomial (element (g.B.Elements.elements c.args.basis.now) c.args.target.now.index)
lead_is g c = c.lead.ensures.mono ∙ ap leading_monomial c.at-element.ensures

-- the step's monomial
mono_is : (g : given.Over) (c : After-minus-mono g)
    → c.minus-mono.result ≡ minus c.args.target.now.term.mono (leading_monomial (element (g.B.Elements.elements c.args.basis.now) c.args.target.now.index))
mono_is g c = c.minus-mono.ensures ∙ ap (minus c.args.target.now.term.mono) (c.lead.ensures.mono ∙ ap leading_monomial c.at-element.ensures)

-- the product that is made
product_is : (g : given.Over) (c : In-Ok g)
    → c.in-Ok.product ≡ multiple c.args.seat.now.algebra 1 c.minus-mono.result (element (g.B.Elements.elements c.args.basis.now) c.args.target.now.index)
product_is g c = c.in-Ok.ensures.value ∙ ap (multiple c.args.seat.now.algebra 1 c.minus-mono.result) c.at-element.ensures

pub at-element-requires-clause-first : goal.at-element-requires-clause-first
at-element-requires-clause-first g c = (divisor g (goal.at.at-element-requires-clause-first g c).After-field-field).low

pub at-element-requires-clause-last : goal.at-element-requires-clause-last
at-element-requires-clause-last g c = (divisor g (goal.at.at-element-requires-clause-last g c).After-field-field).high

pub lead-requires : goal.lead-requires
lead-requires g c = λ e. (divisor g (goal.at.lead-requires g c).After-field-field).nonzero (sym c.at-element.ensures ∙ e)

pub minus-mono-requires-clause-same_length : goal.minus-mono-requires-clause-same_length
minus-mono-requires-clause-same_length g c =
    let d = divisor g (goal.at.minus-mono-requires-clause-same_length g c).After-field-field in
    c.requires.vars ∙ sym (ap length (lead_is g (goal.at.minus-mono-requires-clause-same_length g c).After-lead) ∙ d.vars)

pub minus-mono-requires-clause-divisible : goal.minus-mono-requires-clause-divisible
minus-mono-requires-clause-divisible g c =
    let d = divisor g (goal.at.minus-mono-requires-clause-divisible g c).After-field-field in
    ap (λ l. divides l c.args.target.now.term.mono) (lead_is g (goal.at.minus-mono-requires-clause-divisible g c).After-lead) ∙ d.divides_it

-- the step's monomial has as many exponents
mono_vars : (g : given.Over) (c : After-minus-mono g) → length c.minus-mono.result ≡ c.args.seat.now.algebra.order.vars
mono_vars g c =
    let A : Algebra = c.args.seat.now.algebra in
    let t = c.args.target.now in
    let d = has_divisor A (g.B.Elements.elements c.args.basis.now) t.term.mono t.index c.requires.sorted c.requires.vars c.requires.divisor in
    ap length (mono_is g c) ∙ d.quotient_vars

pub multiple-requires-clause-vars : goal.multiple-requires-clause-vars
multiple-requires-clause-vars g c = mono_vars g (goal.at.multiple-requires-clause-vars g c).After-minus-mono

pub multiple-requires-clause-sorted : goal.multiple-requires-clause-sorted
multiple-requires-clause-sorted g c =
    let A : Algebra = c.args.seat.now.algebra in
    subst (IsPolynomial A.p A.order) (sym c.at-element.ensures) (divisor g (goal.at.multiple-requires-clause-sorted g c).After-field-field).is

pub multiple-requires-clause-nonzero : goal.multiple-requires-clause-nonzero
multiple-requires-clause-nonzero g c =
    λ e. (divisor g (goal.at.multiple-requires-clause-nonzero g c).After-field-field).nonzero (sym c.at-element.ensures ∙ e)

pub div-coef-requires-clause-b_in_range : goal.div-coef-requires-clause-b_in_range
div-coef-requires-clause-b_in_range g c =
    let A : Algebra = c.args.seat.now.algebra in
    let below : leading_coefficient c.in-Ok.product < A.p = leading-below (order_cmp A.order.rows) A.p c.in-Ok.product c.in-Ok.ensures.sorted.canonical c.in-Ok.ensures.nonzero in
    subst₂ (λ (a b : ℕ). a < b) (sym c.lead-2.ensures.coef) (sym (field_is g (goal.at.div-coef-requires-clause-b_in_range g c).After-field-field)) below

pub into_multiple-multiple-requires-clause-not_zero : goal.into_multiple-multiple-requires-clause-not_zero
into_multiple-multiple-requires-clause-not_zero g c =
    let field = c.field-field.result in
    let coef = c.div-coef.result in
    subst (λ x. 0 < x) (sym c.neg.ensures.value) (minus-positive field coef (c.div-coef.ensures.not_zero c.requires.not_zero) c.div-coef.ensures.in_range)

pub into_multiple-multiple-requires-clause-numbers : goal.into_multiple-multiple-requires-clause-numbers
into_multiple-multiple-requires-clause-numbers g c =
    let A : Algebra = c.args.seat.now.algebra in
    subst (λ p. HasNumbers p c.in-Ok.product) (sym (field_is g (goal.at.into_multiple-multiple-requires-clause-numbers g c).After-field-field))
    (HasNumbers-polynomial A.p A.order c.in-Ok.product c.in-Ok.ensures.sorted)

pub returns-clause-sorted : goal.returns-clause-sorted
returns-clause-sorted g c =
    let A : Algebra = c.args.seat.now.algebra in
    let p_is : c.field-field.result ≡ A.p = field_is g (goal.at.returns-clause-sorted g c).After-field-field in
    subst (λ p. IsPolynomial p A.order c.into_multiple-multiple.result) p_is
    (c.into_multiple-multiple.ensures.sorted A.order (subst (λ p. IsPolynomial p A.order c.in-Ok.product) (sym p_is) c.in-Ok.ensures.sorted))

pub returns-clause-value : goal.returns-clause-value
returns-clause-value g c h =
    let at = goal.at.returns-clause-value g c in
    let A : Algebra = c.args.seat.now.algebra in
    let ok : IsGAlgebra A = subst IsGAlgebra c.algebra-alg.ensures c.n-n.ensures.accepted in
    let t = c.args.target.now in
    let G = g.B.Elements.elements c.args.basis.now in
    let d = divisor g at.After-field-field in
    let mono = c.minus-mono.result in
    let coef = c.div-coef.result in
    let product = c.in-Ok.product in
    let p_is : c.field-field.result ≡ A.p = field_is g at.After-field-field in
    let within : is_within mono (element G t.index) ≡ true = ap (is_within mono) (sym c.at-element.ensures) ∙ c.in-Ok.ensures.within in
    let number : coef ≡ quotient A.p t.term.coef (leading_coefficient product) =
    c.div-coef.ensures.value ∙ (λ j. quotient (p_is j) t.term.coef (c.lead-2.ensures.coef j)) in
    let less : coef < A.p = subst (λ p. coef < p) p_is c.div-coef.ensures.in_range in
    let negated : c.neg.result ≡ (A.p - coef) % A.p = c.neg.ensures.value ∙ ap (λ p. (p - coef) % p) p_is in
    let multiple_is : c.into_multiple-multiple.result ≡ poly_scale A.p (A.p - 1) (poly_scale A.p coef product) =
    c.into_multiple-multiple.ensures.value
    ∙ (λ j. poly_scale (p_is j) (negated j) product)
    ∙ minus_multiple A.p coef A.order product (omega (arith, less)) less c.in-Ok.ensures.sorted in
    let left : poly_add (order_cmp A.order.rows) A.p h c.into_multiple-multiple.result ≡ poly_sub (order_cmp A.order.rows) A.p h (poly_scale A.p coef product) =
    ap (poly_add (order_cmp A.order.rows) A.p h) multiple_is in
    step-made A ok G h (pair_of t.term) t.index mono coef product d.is (mono_vars g at.After-minus-mono) (mono_is g at.After-minus-mono) within
    (product_is g at.In-Ok) number
    ∙ ap (Goes (record { coef = coef; mono = mono; index = t.index })) (sym left)
