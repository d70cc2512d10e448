use Rattle.std.proofs.Common.{◌≡◌, ◌<◌, ◌∙◌, ◌++◌, sym, ap, subst, arith}
use Rattle.monomials.specs.Monomials.{variable}
use Rattle.monomials.specs.Orders.{order_cmp}
use Rattle.monomials.specs.Polynomials.{poly_degree}
use Rattle.monomials.proofs.Operations.{HasNumbers-canonical}
use Rattle.word_model.specs.Words.{Algebra, word_value}
use Rattle.word_model.proofs.Associativity.{length-variable}
use Rattle.word_model.proofs.TermProducts.{degree-variable}
use Rattle.gproduct.specs.Inside.Factors.{products_in, words_of, IsReady}
use Rattle.gproduct.proofs.Stages.{behind_each, behind_value, behind_ready}
use Rattle.gproduct.proofs.products.right_times.Goals as goal
use Rattle.gproduct.proofs.products.right_times.Given.{Over}
use Rattle.gproduct.proofs.products.right_times.Goals.{In_ok-push_behind}

-- the products that are to be multiplied out
pushed : (g : Over) (c : In_ok-push_behind g)
    → products_in c.push_behind.new.pending.open.items c.push_behind.new.pending.factors.items
    ≡ behind_each (variable c.args.seat.now.algebra.order.vars c.args.v) c.args.f.now
pushed g c =
    let n : c.n-n.result ≡ c.args.seat.now.algebra.order.vars = c.n-n.ensures.value ∙ ap (λ (A : Algebra). A.order.vars) c.algebra.ensures in
    c.in_ok-push_behind.ensures.products
    ∙ (λ i. products_in (c.new-pending.ensures.open i) c.new-pending.result.factors.items
    ++ behind_each ((c.var.ensures ∙ ap (λ n. variable n c.args.v) n) i) (c.terms.ensures.value i))

pub multiply_out-requires-clause-ready : goal.multiply_out-requires-clause-ready
multiply_out-requires-clause-ready g c =
    let A = c.args.seat.now.algebra in
    let n = A.order.vars in
    let small : poly_degree c.args.f.now < 4095 = omega (arith, c.degree.ensures.value, c.if-degree-ge-DEGREE_LIMIT.false) in
    subst (IsReady A.p n) (sym (pushed g (goal.at.multiply_out-requires-clause-ready g c).In_ok-push_behind))
    (behind_ready A.p n (variable n c.args.v) (length-variable n c.args.v c.requires.first c.requires.last) c.args.f.now
    (HasNumbers-canonical (order_cmp A.order.rows) A.p c.args.f.now c.requires.sorted.canonical) c.requires.sorted.vars
    (omega (arith, degree-variable n c.args.v c.requires.first)))

pub returns-clause-value : goal.returns-clause-value
returns-clause-value g c =
    let A = c.args.seat.now.algebra in
    c.in_ok-multiply_out.ensures.value
    ∙ ap (λ f. word_value A (words_of f)) (pushed g (goal.at.returns-clause-value g c).In_ok-push_behind)
    ∙ behind_value A (subst (λ (A : Algebra). 1 < A.p) c.algebra.ensures c.n-n.ensures.prime.above_one) (variable A.order.vars c.args.v) c.args.f.now
