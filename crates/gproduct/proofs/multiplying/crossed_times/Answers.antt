use Rattle.std.proofs.Common.{◌≡◌, ℕ, ◌<◌, ◌∙◌, ◌++◌, length, sym, ap, subst, arith}
use Rattle.std.proofs.Math.ListN.{length-replicate}
use Rattle.std.proofs.lemmas.Result.{IfOk-weaker}
use Rattle.monomials.specs.Monomials.{degree, power}
use Rattle.monomials.specs.Orders.{order_cmp}
use Rattle.monomials.proofs.Operations.{HasNumbers-canonical}
use Rattle.word_model.specs.Words.{Algebra, word_value}
use Rattle.word_model.proofs.Letters.{length-word_from}
use Rattle.gproduct.specs.Inside.Factors.{products_in, words_of, IsReady}
use Rattle.gproduct.proofs.SortedWords.{length-power, sorted_word-power}
use Rattle.gproduct.proofs.Stages.{before_each, before_value, before_ready}
use Rattle.gproduct.proofs.multiplying.crossed_times.Given as given
use Rattle.gproduct.proofs.multiplying.crossed_times.Goals as goal
use Rattle.gproduct.proofs.multiplying.crossed_times.Goals.{In_ok-push_before}

-- the products that are to be multiplied out
pushed : (g : given.Over) (c : In_ok-push_before g)
    → products_in c.push_before.new.pending.open.items c.push_before.new.pending.factors.items
    ≡ before_each (power (g.E.Exchange.over c.args.swaps.now).order.vars c.args.v c.args.exponent) c.args.f.now
pushed g c =
    let n : c.n-n.result ≡ (g.E.Exchange.over c.args.swaps.now).order.vars = c.n-n.ensures.value ∙ ap (λ (A : Algebra). A.order.vars) c.algebra.ensures in
    c.in_ok-push_before.ensures.products
    ∙ (λ i. products_in (c.requires.empty i) c.args.pending.now.factors.items
    ++ before_each ((c.power.ensures ∙ ap (λ n. power n c.args.v c.args.exponent) n) i) (c.terms.ensures.value i))

pub multiply_out-requires-clause-ready : goal.multiply_out-requires-clause-ready
multiply_out-requires-clause-ready g c =
    let A = (g.E.Exchange.over c.args.swaps.now) in
    let m = power A.order.vars c.args.v c.args.exponent in
    let size : degree m ≡ c.args.exponent =
    sym (length-word_from 1 m) ∙ ap length (sorted_word-power A.order.vars c.args.v c.args.exponent c.requires.first) ∙ length-replicate {A = ℕ} c.args.exponent c.args.v in
    subst (IsReady A.p A.order.vars) (sym (pushed g (goal.at.multiply_out-requires-clause-ready g c).In_ok-push_before))
    (before_ready A.p A.order.vars m (length-power A.order.vars c.args.v c.args.exponent c.requires.first c.requires.last) c.args.f.now
    (HasNumbers-canonical (order_cmp A.order.rows) A.p c.args.f.now c.requires.sorted.canonical) c.requires.sorted.vars (omega (arith, size, c.requires.within)))

pub returns-clause-value : goal.returns-clause-value
returns-clause-value g c =
    let A = (g.E.Exchange.over c.args.swaps.now) in
    IfOk-weaker c.multiply_out.result _ _
    (λ r is.
    is
    ∙ ap (λ f. word_value A (words_of f)) (pushed g (goal.at.returns-clause-value g c).In_ok-push_before)
    ∙ before_value A (subst (λ (A : Algebra). 1 < A.p) c.algebra.ensures c.n-n.ensures.prime.above_one) (power A.order.vars c.args.v c.args.exponent) c.args.f.now)
    c.multiply_out.ensures.value
