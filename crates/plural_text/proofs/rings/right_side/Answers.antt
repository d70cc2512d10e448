use Rattle.std.proofs.Common.{◌≡◌, ◌≢◌, ℕ, ◌%◌, ◌<◌, length, ap, sym, ◌∙◌, arith}
use Rattle.std.proofs.lemmas.Result.{IfOk-weaker}
use Rattle.monomials.specs.Monomials.{degree}
use Rattle.monomials.specs.Orders.{RowOrder}
use Rattle.word_model.specs.Words.{Algebra, c_of}
use Rattle.word_model.proofs.Acceptance.{c_of-below, IsPolynomial-d_of}
use Rattle.word_model.proofs.PairMonomials.{pair_monomial_is}
use Rattle.plural_text.proofs.RightSides.{length-pair, degree-pair, pair_made, right_side-made}
use Rattle.plural_text.proofs.rings.right_side.Goals as goal

pub from_terms-requires-clause-numbers : goal.from_terms-requires-clause-numbers
from_terms-requires-clause-numbers c =
    let below : c_of c.args.alg.now c.args.i c.args.j < c.args.alg.now.p =
    c_of-below c.args.alg.now c.n-n.ensures.data (omega (arith, c.n-n.ensures.prime.above_one)) c.args.i c.args.j in
    (rw (c.c.ensures, c.field.ensures) below, tt)

pub from_terms-requires-clause-vars : goal.from_terms-requires-clause-vars
from_terms-requires-clause-vars c =
    let n : ℕ = c.args.alg.now.order.vars in
    let long : length c.plus.result ≡ n =
    ap length (pair_made n c.n-n.result c.args.i c.args.j c.var.result c.var-2.result c.plus.result c.n-n.ensures.value c.var.ensures c.var-2.ensures c.plus.ensures) ∙ length-pair n c.args.i c.args.j c.requires.first (omega arith) (omega arith) c.requires.last in
    (long ∙ ap (λ (o : RowOrder). o.vars) (sym c.order.ensures), tt)

pub from_terms-requires-clause-small : goal.from_terms-requires-clause-small
from_terms-requires-clause-small c =
    let n : ℕ = c.args.alg.now.order.vars in
    let two : degree c.plus.result ≡ 2 =
    ap degree (pair_made n c.n-n.result c.args.i c.args.j c.var.result c.var-2.result c.plus.result c.n-n.ensures.value c.var.ensures c.var-2.ensures c.plus.ensures) ∙ degree-pair n c.args.i c.args.j c.requires.first (omega arith) (omega arith) c.requires.last in
    (omega (arith, two), tt)

pub add-requires-clause-other_sorted : goal.add-requires-clause-other_sorted
add-requires-clause-other_sorted c =
    rw (c.field-2.ensures, c.order-2.ensures, c.d.ensures)
    (IsPolynomial-d_of c.args.alg.now c.n-n.ensures.data c.args.i c.args.j)

pub returns-clause-value : goal.returns-clause-value
returns-clause-value c =
    let A : Algebra = c.args.alg.now in
    let nonzero : c_of A c.args.i c.args.j ≢ 0 =
    λ zero. c.n-n.ensures.accepted.nonzero.nonzero c.args.i c.args.j c.requires.first c.requires.pair c.requires.last (ap (λ k. k % A.p) zero) in
    IfOk-weaker c.add.result _ _
    (λ r is. is ∙ right_side-made A c.args.i c.args.j _ _ _ _ c.c.result c.plus.result c.in_ok-leading.leading c.d.result.now
    c.order.ensures c.order-2.ensures c.field.ensures c.field-2.ensures c.c.ensures
    (pair_made A.order.vars c.n-n.result c.args.i c.args.j c.var.result c.var-2.result c.plus.result c.n-n.ensures.value c.var.ensures c.var-2.ensures c.plus.ensures
    ∙ sym (pair_monomial_is A.order.vars c.args.i c.args.j c.requires.first (omega arith) (omega arith) c.requires.last))
    c.in_ok-leading.ensures.value c.d.ensures
    (c_of-below A c.n-n.ensures.data (omega (arith, c.n-n.ensures.prime.above_one)) c.args.i c.args.j) nonzero)
    c.add.ensures.value
