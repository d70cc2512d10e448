use Rattle.std.proofs.Common.{◌≡◌, ◌<◌, ◌+◌, suc, ◌∙◌, ◌∷◌, [], ap, sym, subst, arith}
use Rattle.std.proofs.lemmas.Result.{IfOk-weaker}
use Rattle.monomials.specs.Monomials.{variable}
use Rattle.monomials.specs.Orders.{order_cmp}
use Rattle.word_model.proofs.TermProducts.{one_term}
use Rattle.script_values.proofs.operations.variable.Goals as goal

pub returns-clause-value : goal.returns-clause-value
returns-clause-value c =
    let above_one : 1 < c.field.result = subst (λ p. 1 < p) (sym c.field.ensures) c.n-n.ensures.prime.above_one in
    let next : c.args.place + 1 ≡ suc c.args.place = omega arith in
    let mono : c.var.result ≡ variable c.args.algebra.now.order.vars (suc c.args.place) = c.var.ensures ∙ ap (λ n. variable n (c.args.place + 1)) c.n-n.ensures.value ∙ ap (variable c.args.algebra.now.order.vars) next in
    IfOk-weaker c.from_terms.result _ _
    (λ r is. is ∙ one_term (order_cmp c.order.result.now.rows) c.field.result 1 c.var.result above_one (λ e. cc) ∙ ap (λ m. (1, m) ∷ []) mono)
    c.from_terms.ensures.value
