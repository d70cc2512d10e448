use Rattle.std.proofs.Common.{◌≡◌, ℕ, ◌+◌, ◌-◌, ◌<◌, ◌≤◌, ◌∙◌, ◌∷◌, [], refl, sym, ap, subst, arith}
use Rattle.monomials.specs.Monomials.{power}
use Rattle.monomials.specs.Polynomials.{HasVars, IsPolynomial, poly_degree}
use Rattle.gpoly.specs.Terms.{pairs_of}
use Rattle.word_model.specs.Words.{Algebra}
use Rattle.word_model.specs.Conditions.{IsGAlgebra}
use Rattle.word_model.specs.Products.{product}
use Rattle.gproduct.proofs.Stages.{no_power, power_degree, power_more}
use Rattle.gproduct.proofs.products.power_times.Goals as goal

pub loop-left-init : goal.loop-left-init
loop-left-init c =
    let A : Algebra = c.args.seat.now.algebra in
    let above_one : 1 < A.p = subst (λ (A : Algebra). 1 < A.p) c.algebra.ensures c.n-n.ensures.prime.above_one in
    let none : 0 ≡ c.args.exponent - c.args.exponent = omega arith in
    record {
      counted = c.requires.counted;
      empty = c.requires.empty;
      at_most = omega arith;
      within = c.requires.within;
      value =
          no_power A above_one c.args.v c.args.f c.requires.first c.requires.sorted
          ∙ ap (λ e. product A ((1, power A.order.vars c.args.v e) ∷ []) c.args.f) none;
      sorted = c.requires.sorted;
      algebra = refl;
      kept = λ place knows. knows;
    }

pub portion-part-requires-clause-last : goal.portion-part-requires-clause-last
portion-part-requires-clause-last c = omega (arith, c.requires.last, ap (λ (A : Algebra). A.order.vars) c.loop-left.invariant.algebra)

pub portion-part-requires-clause-vars : goal.portion-part-requires-clause-vars
portion-part-requires-clause-vars c =
    let A : Algebra = c.args.seat.now.algebra in
    let terms : HasVars A.order.vars (pairs_of c.terms.result.now) = subst (HasVars A.order.vars) (sym c.terms.ensures.value) c.loop-left.invariant.sorted.vars in
    subst (λ (A : Algebra). HasVars A.order.vars (pairs_of c.terms.result.now)) (sym c.loop-left.invariant.algebra) terms

pub part_times-requires-clause-last : goal.part_times-requires-clause-last
part_times-requires-clause-last c = omega (arith, c.requires.last, ap (λ (A : Algebra). A.order.vars) c.loop-left.invariant.algebra)

pub part_times-requires-clause-sorted : goal.part_times-requires-clause-sorted
part_times-requires-clause-sorted c =
    subst (λ (A : Algebra). IsPolynomial A.p A.order c.loop-left.product) (sym c.loop-left.invariant.algebra) c.loop-left.invariant.sorted

pub part_times-requires-clause-within : goal.part_times-requires-clause-within
part_times-requires-clause-within c = omega (arith, c.portion-part.ensures.within, c.loop-left.invariant.within)

pub loop-left-preserved : goal.loop-left-preserved
loop-left-preserved c =
    let A : Algebra = c.args.seat.now.algebra in
    let accepted : IsGAlgebra A = subst IsGAlgebra c.algebra.ensures c.n-n.ensures.accepted in
    let n : ℕ = A.order.vars in
    let v : ℕ = c.args.v in
    let e : ℕ = c.portion-part.result in
    let left : ℕ = c.loop-left.left in
    let k : ℕ = c.args.exponent - left in
    let part : e ≤ left = c.portion-part.ensures.within in
    let more : k + e ≡ c.args.exponent - (left - e) = omega (arith, c.loop-left.invariant.at_most, part) in
    let value : c.in_ok-product.product ≡ product A ((1, power n v e) ∷ []) c.loop-left.product =
    c.in_ok-product.ensures.value ∙ ap (λ (A : Algebra). product A ((1, power A.order.vars v e) ∷ []) c.loop-left.product) c.loop-left.invariant.algebra in
    record {
      counted = c.in_ok-product.ensures.counted;
      empty = c.in_ok-product.ensures.empty;
      at_most = omega (arith, c.loop-left.invariant.at_most);
      within = omega (
        arith,
        ap poly_degree value,
        power_degree A accepted v c.requires.first c.requires.last e c.loop-left.product c.loop-left.invariant.sorted.vars,
        c.loop-left.invariant.within,
        part,
      );
      value =
          value
          ∙ ap (product A ((1, power n v e) ∷ [])) c.loop-left.invariant.value
          ∙ power_more A accepted v c.requires.first c.requires.last e k c.args.f c.requires.sorted.vars
          ∙ ap (λ x. product A ((1, power n v x) ∷ []) c.args.f) more;
      sorted = subst (λ (A : Algebra). IsPolynomial A.p A.order c.in_ok-product.product) c.loop-left.invariant.algebra c.in_ok-product.ensures.sorted;
      algebra = c.in_ok-product.ensures.algebra ∙ c.loop-left.invariant.algebra;
      kept = λ place knows. c.in_ok-product.ensures.kept place (c.loop-left.invariant.kept place knows);
    }

pub returns-clause-value : goal.returns-clause-value
returns-clause-value c =
    let A : Algebra = c.args.seat.now.algebra in
    let all : c.args.exponent - c.loop-left.left ≡ c.args.exponent = omega (arith, c.loop-left-test.false) in
    c.loop-left.invariant.value ∙ ap (λ e. product A ((1, power A.order.vars c.args.v e) ∷ []) c.args.f) all

pub returns-in_err-product-clause-kept : goal.returns-in_err-product-clause-kept
returns-in_err-product-clause-kept c = λ place knows. c.part_times.ensures.kept place (c.loop-left.invariant.kept place knows)
