use Rattle.std.proofs.Common.{◌≡◌, [], ◌∷◌, ap, ◌∙◌, ◌<◌, subst, sym, arith}
use Rattle.monomials.specs.Monomials.{one}
use Rattle.monomials.specs.Orders.{order_cmp}
use Rattle.std.proofs.lemmas.Result.{IfOk-weaker}
use Rattle.word_model.proofs.TermProducts.{one_term}
use Rattle.cofactors.proofs.making.unit.Goals as goal

pub returns-clause-value : goal.returns-clause-value
returns-clause-value c =
    let A = c.args.algebra.now in
    let more : 1 < c.field.result = subst (λ p. 1 < p) (sym c.field.ensures) c.n.ensures.prime.above_one in
    let mono_is : c.one.result ≡ one A.order.vars = c.one.ensures ∙ ap one c.n.ensures.value in
    IfOk-weaker c.from_terms.result _ _
    (λ r is. is ∙ one_term (order_cmp c.order.result.now.rows) c.field.result 1 c.one.result more (omega arith) ∙ ap (λ m. (1, m) ∷ []) mono_is) c.from_terms.ensures.value
