use Rattle.std.proofs.Common.{◌≡◌, ◌∙◌, ◌<◌, map, sym, ap, subst, arith}
use Rattle.std.proofs.lemmas.List.{take_all}
use Rattle.monomials.specs.Orders.{order_cmp}
use Rattle.monomials.specs.Polynomials.{Polynomial, Each, HasNumbers, IsPolynomial, from_terms}
use Rattle.monomials.proofs.Operations.{HasNumbers-canonical}
use Rattle.gpoly.proofs.Lists.{Each-get_or}
use Rattle.word_model.specs.Words.{Algebra}
use Rattle.word_model.specs.Conditions.{IsAlgebraData}
use Rattle.algebra.specs.Inside.Presentations.{presented}
use Rattle.algebra.specs.Reordered.{reordered}
use Rattle.algebra.proofs.SortedRelations.{sorted_more, data_reordered}
use Rattle.algebra.proofs.presentation.Presentation.reordered.Goals as goal

pub loop-poly-preserved : goal.loop-poly-preserved
loop-poly-preserved c =
    let A = c.args.self.now in
    let ds = c.deref-poly-items.result.now in
    let i = c.loop-poly.poly-index in
    let d = c.poly-item.result in
    let polynomials : Each (IsPolynomial c.self.inside.field c.self.inside.order) ds =
    subst (Each (IsPolynomial c.self.inside.field c.self.inside.order)) (sym c.deref-poly-items.ensures.value) c.self.invariant.polynomials in
    let polynomial : IsPolynomial c.self.inside.field c.self.inside.order d =
    subst (IsPolynomial c.self.inside.field c.self.inside.order) (sym c.poly-item.is)
    (Each-get_or (IsPolynomial c.self.inside.field c.self.inside.order) ds i d c.loop-poly-test.true polynomials) in
    let numbers : HasNumbers A.p d =
    subst (λ p. HasNumbers p d) (ap (λ (B : Algebra). B.p) c.self.view_is)
    (HasNumbers-canonical (order_cmp c.self.inside.order.rows) c.self.inside.field d polynomial.canonical) in
    sorted_more (from_terms (order_cmp c.args.order.now.rows) A.p) ds c.loop-poly.d.items _ i d c.in_ok-reorder.field-0 c.loop-poly-test.true c.poly-item.is
    c.loop-poly.invariant (c.in_ok-reorder.ensures.value A.p numbers) c.in_ok-push.ensures.items

-- what was made are the relations sorted anew
made : (c : goal.In_ok-copy) →
    presented (record { field = c.field-field.result; order = c.in_ok-copy.field-0; c = c.in_ok-c.c; d = c.loop-poly.d })
    ≡ reordered c.args.order.now c.args.self.now
made c =
    let sort : Polynomial → Polynomial = from_terms (order_cmp c.args.order.now.rows) c.args.self.now.p in
    let p_is = c.field-field.ensures.value in
    let c_is = c.in_ok-c.ensures.items ∙ (c.deref.ensures.value ∙ ap (λ (B : Algebra). B.c) c.self.view_is) in
    let d_is =
    c.loop-poly.invariant
    ∙ ap (λ us. map sort us)
    (take_all c.loop-poly.poly-index c.deref-poly-items.result.now c.loop-poly-test.false
    ∙ (c.deref-poly-items.ensures.value ∙ ap (λ (B : Algebra). B.d) c.self.view_is)) in
    λ i. record { p = p_is i; order = c.in_ok-copy.ensures i; c = c_is i; d = d_is i }

pub invariant_of-result : goal.invariant_of-result
invariant_of-result c =
    let A = c.args.self.now in
    let kept : IsAlgebraData A = subst IsAlgebraData c.self.view_is c.self.invariant in
    let pos : 0 < A.p = omega (arith, c.field-field.ensures.prime.above_one) in
    subst IsAlgebraData (sym (made c)) (data_reordered A c.args.order.now c.requires pos kept)

pub returns : goal.returns
returns c = made c
