use Rattle.std.proofs.Common.{◌≡◌, ℕ, ◌<◌, ◌∙◌, ◌++◌, ◌∷◌, [], length, take, refl, sym, ap, subst, subst₂, arith}
use Rattle.std.proofs.lemmas.List.{take_all}
use Rattle.std.proofs.lemmas.Result.{IfOk-weaker}
use Rattle.monomials.specs.Monomials.{degree}
use Rattle.monomials.specs.Orders.{RowOrder, order_cmp}
use Rattle.monomials.specs.Polynomials.{HasNumbers, HasVars, IsPolynomial, poly_degree}
use Rattle.monomials.proofs.Operations.{HasNumbers-canonical}
use Rattle.gpoly.specs.declared.Term.{Term}
use Rattle.gpoly.specs.Terms.{pair_of, pairs_of}
use Rattle.gpoly.proofs.TermLists.{numbers_at, vars_at}
use Rattle.word_model.specs.Words.{Algebra}
use Rattle.word_model.specs.Products.{product}
use Rattle.gproduct.specs.Inside.Factors.{factor_count}
use Rattle.gproduct.specs.Inside.Parts.{sum_of, AreSorted}
use Rattle.algebra.proofs.Letterwise.{degree_at}
use Rattle.gproduct.proofs.Sums.{product_more, nothing_times}
use Rattle.gproduct.proofs.products.times_within.Goals as goal

pub loop-term-init : goal.loop-term-init
loop-term-init g c =
    let A = c.args.seat.now.algebra in
    let none : c.new-parts.result.items ≡ [] = c.new-parts.ensures.items in
    record {
      counted = (λ i. factor_count (c.new-pending.ensures.open i)) ∙ sym (ap length c.new-pending.ensures.factors);
      empty = c.new-pending.ensures.open;
      parts = subst (AreSorted A.p A.order) (sym none) tt;
      sum = ap (sum_of A.p A.order) none ∙ sym (nothing_times A c.args.g.now);
      algebra = refl;
      kept = λ place knows. knows;
      steps = omega arith;
    }

pub term_times_within-requires-clause-sorted : goal.term_times_within-requires-clause-sorted
term_times_within-requires-clause-sorted g c =
    subst (λ (A : Algebra). IsPolynomial A.p A.order c.args.g.now) (sym c.loop-term.invariant.algebra) c.requires.g_sorted

pub term_times_within-requires-clause-in_range : goal.term_times_within-requires-clause-in_range
term_times_within-requires-clause-in_range g c =
    let A = c.args.seat.now.algebra in
    let numbers : HasNumbers A.p (pairs_of c.terms-term-items.result.now) =
    subst (HasNumbers A.p) (sym c.terms-term-items.ensures.value) (HasNumbers-canonical (order_cmp A.order.rows) A.p c.args.f.now c.requires.f_sorted.canonical) in
    subst₂ (λ (B : Algebra) (t : Term). t.coef < B.p) (sym c.loop-term.invariant.algebra) (sym c.term-item.is)
    (numbers_at A.p c.terms-term-items.result.now c.loop-term.term-index _ c.loop-term-test.true numbers)

pub term_times_within-requires-clause-vars : goal.term_times_within-requires-clause-vars
term_times_within-requires-clause-vars g c =
    let A = c.args.seat.now.algebra in
    let vars : HasVars A.order.vars (pairs_of c.terms-term-items.result.now) =
    subst (HasVars A.order.vars) (sym c.terms-term-items.ensures.value) c.requires.f_sorted.vars in
    subst₂ (λ (B : Algebra) (t : Term). length t.mono ≡ B.order.vars) (sym c.loop-term.invariant.algebra) (sym c.term-item.is)
    (vars_at A.order.vars c.terms-term-items.result.now c.loop-term.term-index _ c.loop-term-test.true vars)

pub term_times_within-requires-clause-within : goal.term_times_within-requires-clause-within
term_times_within-requires-clause-within g c =
    omega (
      arith,
      ap (λ t. degree t.mono) c.term-item.is,
      degree_at c.terms-term-items.result.now c.loop-term.term-index c.term-item.result c.loop-term-test.true,
      ap poly_degree c.terms-term-items.ensures.value,
      c.requires.within,
    )

pub add_part-requires-clause-parts : goal.add_part-requires-clause-parts
add_part-requires-clause-parts g c =
    let S : ℕ → RowOrder → Type 0 = λ p o. AreSorted p o c.loop-term.parts.items in
    subst₂ S (sym (c.field.ensures ∙ ap (λ (A : Algebra). A.p) c.algebra-algebra.ensures)) (sym (c.order.ensures ∙ ap (λ (A : Algebra). A.order) c.algebra-algebra.ensures))
    c.loop-term.invariant.parts

pub add_part-requires-clause-part : goal.add_part-requires-clause-part
add_part-requires-clause-part g c =
    let S : ℕ → RowOrder → Type 0 = λ p o. IsPolynomial p o c.in_ok-part.part in
    subst₂ S
    (ap (λ (A : Algebra). A.p) c.loop-term.invariant.algebra ∙ sym (c.field.ensures ∙ ap (λ (A : Algebra). A.p) c.algebra-algebra.ensures))
    (ap (λ (A : Algebra). A.order) c.loop-term.invariant.algebra ∙ sym (c.order.ensures ∙ ap (λ (A : Algebra). A.order) c.algebra-algebra.ensures))
    c.in_ok-part.ensures.sorted

pub loop-term-preserved : goal.loop-term-preserved
loop-term-preserved g c =
    let A = c.args.seat.now.algebra in
    let prime : c.field.result ≡ A.p = c.field.ensures ∙ ap (λ (A : Algebra). A.p) c.algebra-algebra.ensures in
    let order : c.order.result.now ≡ A.order = c.order.ensures ∙ ap (λ (A : Algebra). A.order) c.algebra-algebra.ensures in
    let S : ℕ → RowOrder → Type 0 = λ p o. AreSorted p o c.add_part.new.parts.items in
    let Sum : ℕ → RowOrder → Type 0 = λ p o. sum_of p o c.add_part.new.parts.items ≡ sum_of p o (c.loop-term.parts.items ++ c.in_ok-part.part ∷ []) in
    let sorted : IsPolynomial A.p A.order c.in_ok-part.part = subst (λ (B : Algebra). IsPolynomial B.p B.order c.in_ok-part.part) c.loop-term.invariant.algebra c.in_ok-part.ensures.sorted in
    let value : c.in_ok-part.part ≡ product A (pair_of c.term-item.result ∷ []) c.args.g.now =
    c.in_ok-part.ensures.value ∙ ap (λ (B : Algebra). product B (pair_of c.term-item.result ∷ []) c.args.g.now) c.loop-term.invariant.algebra in
    let above_one : 1 < A.p = subst (λ (A : Algebra). 1 < A.p) c.algebra-algebra.ensures c.n-n.ensures.prime.above_one in
    record {
      counted = c.in_ok-part.ensures.counted;
      empty = c.in_ok-part.ensures.empty;
      parts = subst₂ S prime order c.in_ok-add_part.ensures.parts;
      sum =
          subst₂ Sum prime order c.in_ok-add_part.ensures.sum
          ∙ product_more A above_one c.loop-term.parts.items c.in_ok-part.part c.args.g.now c.terms-term-items.result.now c.loop-term.term-index c.term-item.result
          c.loop-term-test.true c.term-item.is c.loop-term.invariant.parts sorted c.loop-term.invariant.sum value;
      algebra = c.in_ok-part.ensures.algebra ∙ c.loop-term.invariant.algebra;
      kept = λ place knows. c.in_ok-part.ensures.kept place (c.loop-term.invariant.kept place knows);
      steps = omega (arith, c.tick.ensures, c.loop-term.invariant.steps);
    }

pub total-requires : goal.total-requires
total-requires g c =
    let S : ℕ → RowOrder → Type 0 = λ p o. AreSorted p o c.loop-term.parts.items in
    subst₂ S (sym (c.field-2.ensures ∙ ap (λ (A : Algebra). A.p) c.algebra-algebra.ensures)) (sym (c.order-2.ensures ∙ ap (λ (A : Algebra). A.order) c.algebra-algebra.ensures))
    c.loop-term.invariant.parts

pub returns-clause-value : goal.returns-clause-value
returns-clause-value g c =
    let A = c.args.seat.now.algebra in
    let prime : c.field-2.result ≡ A.p = c.field-2.ensures ∙ ap (λ (A : Algebra). A.p) c.algebra-algebra.ensures in
    let order : c.order-2.result.now ≡ A.order = c.order-2.ensures ∙ ap (λ (A : Algebra). A.order) c.algebra-algebra.ensures in
    let all : pairs_of (take c.loop-term.term-index c.terms-term-items.result.now) ≡ c.args.f.now =
    ap pairs_of (take_all c.loop-term.term-index c.terms-term-items.result.now c.loop-term-test.false) ∙ c.terms-term-items.ensures.value in
    IfOk-weaker c.total.result _ _
    (λ r is.
    is
    ∙ (λ i. sum_of (prime i) (order i) c.loop-term.parts.items)
    ∙ c.loop-term.invariant.sum
    ∙ ap (λ f. product A f c.args.g.now) all)
    c.total.ensures.value
