use Rattle.std.proofs.Common.{◌≡◌, ◌≤◌, sym, ap, ◌∙◌, subst, arith}
use Rattle.monomials.specs.Monomials.{degree}
use Rattle.monomials.specs.Orders.{order_cmp}
use Rattle.monomials.specs.Polynomials.{Each, HasNumbers, from_terms}
use Rattle.monomials.proofs.Keys.{Each-weaker}
use Rattle.monomials.proofs.Operations.{HasNumbers-canonical}
use Rattle.gpoly.specs.Terms.{pairs_of}
use Rattle.word_model.specs.Words.{Algebra}
use Rattle.word_model.specs.Conditions.{IsGAlgebra}
use Rattle.gproduct.specs.Inside.Passing.{IsParted}
use Rattle.gproduct.proofs.Parted.{split_sums_by}
use Rattle.gproduct.proofs.split.split.Goals as goal

pub parted-requires-clause-numbers : goal.parted-requires-clause-numbers
parted-requires-clause-numbers c =
    let A = c.args.seat.now.algebra in
    subst (HasNumbers A.p) (sym c.terms.ensures.value) (HasNumbers-canonical (order_cmp A.order.rows) A.p c.args.f.now c.requires.sorted.canonical)

pub from_terms-requires-2-clause-small : goal.from_terms-requires-2-clause-small
from_terms-requires-2-clause-small c =
    subst (λ ts. Each (λ t. degree t.1 ≤ 4095) (pairs_of ts)) (sym c.deref-2.ensures.value)
    (Each-weaker _ _ (λ t small. omega (arith, small)) (pairs_of c.in_ok-passed.rest.items) c.in_ok-passed.ensures.rest_small)

pub returns : goal.returns
returns c =
    let A = c.args.seat.now.algebra in
    let accepted : IsGAlgebra A = subst IsGAlgebra c.algebra-algebra.ensures c.n-n.ensures.accepted in
    let prime : c.field-field.result ≡ A.p = c.field-field.ensures ∙ ap (λ (A : Algebra). A.p) c.algebra-algebra.ensures in
    let order : c.order-order.result.now ≡ A.order = c.order-order.ensures ∙ ap (λ (A : Algebra). A.order) c.algebra-algebra.ensures in
    split_sums_by A accepted c.args.coef c.args.mono.now c.args.f.now (pairs_of c.in_ok-passed.passed.items) (pairs_of c.in_ok-passed.rest.items)
    (omega (arith, c.requires.within))
    (subst (λ f. IsParted A c.args.coef c.args.mono.now f (pairs_of c.in_ok-passed.passed.items) (pairs_of c.in_ok-passed.rest.items)) c.terms.ensures.value c.in_ok-passed.ensures)
    c.field-field.result c.order-order.result.now c.in_ok-passed-2.passed c.in_ok-rest.rest prime order
    (c.in_ok-passed-2.ensures.value ∙ ap (λ ts. from_terms (order_cmp c.order-order.result.now.rows) c.field-field.result (pairs_of ts)) c.deref.ensures.value)
    (c.in_ok-rest.ensures.value ∙ ap (λ ts. from_terms (order_cmp c.order-order.result.now.rows) c.field-field.result (pairs_of ts)) c.deref-2.ensures.value)
