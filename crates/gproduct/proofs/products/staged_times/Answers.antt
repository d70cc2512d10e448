use Rattle.std.proofs.Common.{◌≡◌, ◌∙◌, ◌∷◌, [], refl, sym, ap, subst, subst₂, arith}
use Rattle.monomials.specs.Orders.{order_cmp}
use Rattle.monomials.specs.Polynomials.{HasNumbers, IsPolynomial, poly_scale}
use Rattle.monomials.proofs.Operations.{HasNumbers-canonical}
use Rattle.monomials.specs.Monomials.{power}
use Rattle.word_model.specs.Words.{Algebra}
use Rattle.word_model.specs.Conditions.{IsGAlgebra}
use Rattle.word_model.specs.Products.{product}
use Rattle.gproduct.proofs.Stages.{IsStage, first_stage, next_stage, last_stage, stage_degree}
use Rattle.gproduct.proofs.products.staged_times.Goals as goal

pub scale-requires-clause-numbers : goal.scale-requires-clause-numbers
scale-requires-clause-numbers c =
    let A = c.args.seat.now.algebra in
    let prime : c.field.result ≡ A.p = c.field.ensures ∙ ap (λ (A : Algebra). A.p) c.algebra-algebra.ensures in
    subst (λ p. HasNumbers p c.args.f.now) (sym prime) (HasNumbers-canonical (order_cmp A.order.rows) A.p c.args.f.now c.requires.sorted.canonical)

pub loop-v-init : goal.loop-v-init
loop-v-init c =
    let A = c.args.seat.now.algebra in
    let accepted : IsGAlgebra A = subst IsGAlgebra c.algebra-algebra.ensures c.n-v.ensures.accepted in
    let n : c.n-v.result ≡ A.order.vars = c.n-v.ensures.value ∙ ap (λ (A : Algebra). A.order.vars) c.algebra-algebra.ensures in
    let prime : c.field.result ≡ A.p = c.field.ensures ∙ ap (λ (A : Algebra). A.p) c.algebra-algebra.ensures in
    let scaled : c.in_ok-product.product ≡ poly_scale A.p c.args.coef c.args.f.now = c.in_ok-product.ensures.value ∙ ap (λ p. poly_scale p c.args.coef c.args.f.now) prime in
    record {
      counted = c.requires.counted;
      empty = c.requires.empty;
      at_most = omega arith;
      stage =
          subst₂ (λ v g. IsStage A c.args.coef c.args.mono.now c.args.f.now v g) (sym n) (sym scaled)
          (first_stage A accepted c.args.coef c.args.mono.now c.args.f.now c.requires.vars c.requires.sorted c.requires.within);
      algebra = refl;
      kept = λ place knows. knows;
    }

pub get-requires-clause-last : goal.get-requires-clause-last
get-requires-clause-last c = omega (arith, c.loop-v.invariant.at_most, c.requires.vars)

pub power_times-requires-clause-last : goal.power_times-requires-clause-last
power_times-requires-clause-last c = omega (arith, c.loop-v.invariant.at_most, ap (λ (A : Algebra). A.order.vars) c.loop-v.invariant.algebra)

pub power_times-requires-clause-sorted : goal.power_times-requires-clause-sorted
power_times-requires-clause-sorted c =
    subst (λ (A : Algebra). IsPolynomial A.p A.order c.loop-v.product) (sym c.loop-v.invariant.algebra) c.loop-v.invariant.stage.sorted

pub power_times-requires-clause-within : goal.power_times-requires-clause-within
power_times-requires-clause-within c =
    let A = c.args.seat.now.algebra in
    let accepted : IsGAlgebra A = subst IsGAlgebra c.algebra-algebra.ensures c.n-v.ensures.accepted in
    omega (
      arith,
      stage_degree A accepted c.args.coef c.args.mono.now c.args.f.now c.requires.vars c.loop-v.v (omega (arith, c.loop-v-test.true)) c.loop-v.invariant.at_most
          c.get.result c.get.ensures c.loop-v.product c.loop-v.invariant.stage,
    )

pub loop-v-preserved : goal.loop-v-preserved
loop-v-preserved c =
    let A = c.args.seat.now.algebra in
    let v = c.loop-v.v in
    let accepted : IsGAlgebra A = subst IsGAlgebra c.algebra-algebra.ensures c.n-v.ensures.accepted in
    let value : c.in_ok-product-2.product ≡ product A ((1, power A.order.vars v c.get.result) ∷ []) c.loop-v.product =
    c.in_ok-product-2.ensures.value ∙ ap (λ (A : Algebra). product A ((1, power A.order.vars v c.get.result) ∷ []) c.loop-v.product) c.loop-v.invariant.algebra in
    record {
      counted = c.in_ok-product-2.ensures.counted;
      empty = c.in_ok-product-2.ensures.empty;
      at_most = omega (arith, c.loop-v.invariant.at_most);
      stage =
          next_stage A accepted c.args.coef c.args.mono.now c.args.f.now c.requires.vars v (omega (arith, c.loop-v-test.true)) c.loop-v.invariant.at_most
          c.get.result c.get.ensures c.loop-v.product c.in_ok-product-2.product c.loop-v.invariant.stage value;
      algebra = c.in_ok-product-2.ensures.algebra ∙ c.loop-v.invariant.algebra;
      kept = λ place knows. c.in_ok-product-2.ensures.kept place (c.loop-v.invariant.kept place knows);
    }

pub returns-clause-value : goal.returns-clause-value
returns-clause-value c =
    let A = c.args.seat.now.algebra in
    let accepted : IsGAlgebra A = subst IsGAlgebra c.algebra-algebra.ensures c.n-v.ensures.accepted in
    let none : c.loop-v.v ≡ 0 = omega (arith, c.loop-v-test.false) in
    last_stage A accepted c.args.coef c.args.mono.now c.args.f.now c.requires.vars c.loop-v.product
    (subst (λ v. IsStage A c.args.coef c.args.mono.now c.args.f.now v c.loop-v.product) none c.loop-v.invariant.stage)

pub returns-clause-sorted : goal.returns-clause-sorted
returns-clause-sorted c = c.loop-v.invariant.stage.sorted

pub returns-in_err-product-2-clause-kept : goal.returns-in_err-product-2-clause-kept
returns-in_err-product-2-clause-kept c = λ place knows. c.power_times.ensures.kept place (c.loop-v.invariant.kept place knows)
