use Rattle.std.proofs.Common.{◌≡◌, ◌<◌, ◌∙◌, length, sym, ap, subst, subst₂, arith, ℕ}
use Rattle.monomials.specs.Monomials.{degree}
use Rattle.monomials.specs.Orders.{RowOrder, order_cmp}
use Rattle.monomials.specs.Polynomials.{HasNumbers, HasVars, IsPolynomial, poly_add, poly_degree}
use Rattle.monomials.proofs.Operations.{HasNumbers-canonical}
use Rattle.gpoly.proofs.TermLists.{numbers_at, vars_at}
use Rattle.word_model.proofs.TermProducts.{product-zero}
use Rattle.algebra.proofs.Letterwise.{degree_at, product_more}
use Rattle.algebra.proofs.Algebra.product_within.Goals as goal

pub loop-term-init : goal.loop-term-init
loop-term-init c =
    let a = c.args.self.now in
    record {
      sorted = subst (IsPolynomial a.p a.order) (sym c.zero-sum.ensures) (record { canonical = tt; vars = tt });
      value = c.zero-sum.ensures ∙ sym (product-zero a c.args.f.now);
    }

pub times_term-requires-clause-in_range : goal.times_term-requires-clause-in_range
times_term-requires-clause-in_range c =
    let a = c.args.self.now in
    subst (λ t. t.coef < a.p) (sym c.term-item.is)
    (numbers_at a.p c.terms-term-items.result.now c.loop-term.term-index _ c.loop-term-test.true
    (subst (HasNumbers a.p) (sym c.terms-term-items.ensures.value) (HasNumbers-canonical (order_cmp a.order.rows) a.p c.args.g.now c.requires.g_sorted.canonical)))

pub times_term-requires-clause-vars : goal.times_term-requires-clause-vars
times_term-requires-clause-vars c =
    let n = c.args.self.now.order.vars in
    subst (λ t. length t.mono ≡ n) (sym c.term-item.is)
    (vars_at n c.terms-term-items.result.now c.loop-term.term-index _ c.loop-term-test.true
    (subst (HasVars n) (sym c.terms-term-items.ensures.value) c.requires.g_sorted.vars))

pub times_term-requires-clause-within : goal.times_term-requires-clause-within
times_term-requires-clause-within c =
    omega (
      arith,
      ap (λ t. degree t.mono) c.term-item.is,
      degree_at c.terms-term-items.result.now c.loop-term.term-index c.term-item.result c.loop-term-test.true,
      ap poly_degree c.terms-term-items.ensures.value,
      c.requires.within,
    )

pub loop-term-preserved : goal.loop-term-preserved
loop-term-preserved c =
    let a = c.args.self.now in
    let P : ℕ → RowOrder → Type 0 = λ p o. IsPolynomial p o c.in_ok-sum.sum in
    record {
      sorted = subst₂ P c.field.ensures c.order.ensures c.in_ok-sum.ensures.sorted;
      value =
          c.in_ok-sum.ensures.value
          ∙ (λ i. poly_add (order_cmp (c.order.ensures i).rows) (c.field.ensures i) (c.loop-term.invariant.value i) (c.in_ok-part.ensures.value i))
          ∙ product_more a c.n-n.ensures.prime.above_one c.args.f.now c.terms-term-items.result.now c.loop-term.term-index c.term-item.result c.loop-term-test.true c.term-item.is;
    }
