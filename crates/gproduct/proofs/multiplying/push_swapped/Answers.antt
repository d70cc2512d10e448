use Rattle.std.proofs.Common.{◌≡◌, refl, subst₂, IsTrue, ◌-◌, ◌*◌, ◌%◌, ◌<◌, ◌≤◌, ◌∙◌, ◌++◌, ◌∷◌, [], length, map, get_or, replicate, sym, ap, subst, arith, ℕ}
use Rattle.std.proofs.lemmas.Result.{on_ok_weaker}
use Rattle.monomials.specs.Monomials.{Monomial, minus, divides, power}
use Rattle.monomials.specs.Orders.{order_cmp}
use Rattle.monomials.specs.Polynomials.{Polynomial, HasNumbers}
use Rattle.monomials.proofs.Operations.{HasNumbers-canonical}
use Rattle.gpoly.specs.Terms.{pairs_of}
use Rattle.word_model.specs.Words.{Algebra, normal_form}
use Rattle.word_model.proofs.NormalForms.{normal_form_is_polynomial}
use Rattle.gproduct.specs.Inside.Factors.{ProductSum, products_in, between, IsExchange}
use Rattle.gproduct.proofs.SortedWords.{divides-power}
use Rattle.gproduct.proofs.multiplying.push_swapped.Given as given
use Rattle.gproduct.proofs.multiplying.push_swapped.Goals as goal
use Rattle.gproduct.proofs.multiplying.push_swapped.Goals.{In_ok-a}

-- the exponents that were taken are within those of the crossing
a_within : (g : given.Over) (c : In_ok-a g) → c.in_ok-a.a ≤ get_or c.args.crossing.now.left (c.args.crossing.now.high - 1) 0
a_within g c = omega (arith, c.in_ok-a.ensures.a_within.1, c.get-a.ensures)

b_within : (g : given.Over) (c : In_ok-a g) → c.in_ok-a.b ≤ get_or c.args.crossing.now.right (c.args.crossing.now.low - 1) 0
b_within g c = omega (arith, c.in_ok-a.ensures.b_within.1, c.get-b.ensures)

-- a power of a variable divides a monomial, where it is given by equal numbers
divides_there : (n N v k : ℕ) (m d : Monomial) → n ≡ N → 1 ≤ v → v ≤ N → length m ≡ N → k ≤ get_or m (v - 1) 0 → d ≡ power n v k → IsTrue (divides d m)
divides_there n N v k m d same low high vars within is =
    ap (λ d. divides d m) (is ∙ ap (λ n. power n v k) same) ∙ divides-power N v k m low high vars within

pub minus-left-requires-clause-divisible : goal.minus-left-requires-clause-divisible
minus-left-requires-clause-divisible g c =
    let h = c.requires.crossing in
    divides_there _ _ c.args.crossing.now.high c.in_ok-a.a c.args.crossing.now.left c.power.result
    (c.n-n.ensures.value ∙ ap (λ (A : Algebra). A.order.vars) (c.algebra.ensures ∙ c.in_ok-a.ensures.algebra))
    (omega (arith, h.first, h.falls)) h.last h.left_vars (a_within g (goal.at.minus-left-requires-clause-divisible g c).In_ok-a) c.power.ensures

pub minus-right-requires-clause-divisible : goal.minus-right-requires-clause-divisible
minus-right-requires-clause-divisible g c =
    let h = c.requires.crossing in
    divides_there _ _ c.args.crossing.now.low c.in_ok-a.b c.args.crossing.now.right c.power-2.result
    (c.n-n.ensures.value ∙ ap (λ (A : Algebra). A.order.vars) (c.algebra.ensures ∙ c.in_ok-a.ensures.algebra))
    h.first (omega (arith, h.falls, h.last)) h.right_vars (b_within g (goal.at.minus-right-requires-clause-divisible g c).In_ok-a) c.power-2.ensures

pub push_each-requires-clause-numbers : goal.push_each-requires-clause-numbers
push_each-requires-clause-numbers g c =
    let A = (g.E.Exchange.over c.args.swaps.now) in
    let w = replicate c.in_ok-a.a c.args.crossing.now.high ++ replicate c.in_ok-a.b c.args.crossing.now.low in
    let prime : c.field-field.result ≡ A.p = c.field-field.ensures ∙ ap (λ (A : Algebra). A.p) (c.algebra-2.ensures ∙ c.in_ok-a.ensures.algebra) in
    let terms : pairs_of c.deref.result.now ≡ normal_form A w = ap pairs_of c.deref.ensures.value ∙ c.in_ok-a.ensures.value in
    let above_one : 1 < A.p = subst (λ (A : Algebra). 1 < A.p) (c.algebra.ensures ∙ c.in_ok-a.ensures.algebra) c.n-n.ensures.prime.above_one in
    let N : ℕ → Polynomial → Type 0 = HasNumbers in
    subst₂ N (sym prime) (sym terms) (HasNumbers-canonical (order_cmp A.order.rows) A.p (normal_form A w) (normal_form_is_polynomial A above_one w).canonical)

pub returns-clause-products : goal.returns-clause-products
returns-clause-products g c =
    let A = (g.E.Exchange.over c.args.swaps.now) in
    let x = c.args.crossing.now in
    let k = c.args.coef in
    let w = replicate c.in_ok-a.a x.high ++ replicate c.in_ok-a.b x.low in
    let same : c.algebra.result.now ≡ A = c.algebra.ensures ∙ c.in_ok-a.ensures.algebra in
    let n : c.n-n.result ≡ A.order.vars = c.n-n.ensures.value ∙ ap (λ (A : Algebra). A.order.vars) same in
    let prime : c.field-field.result ≡ A.p = c.field-field.ensures ∙ ap (λ (A : Algebra). A.p) (c.algebra-2.ensures ∙ c.in_ok-a.ensures.algebra) in
    let terms : pairs_of c.deref.result.now ≡ normal_form A w = ap pairs_of c.deref.ensures.value ∙ c.in_ok-a.ensures.value in
    let left : c.minus-left.result ≡ minus x.left (power A.order.vars x.high c.in_ok-a.a) =
    c.minus-left.ensures ∙ ap (minus x.left) (c.power.ensures ∙ ap (λ n. power n x.high c.in_ok-a.a) n) in
    let right : c.minus-right.result ≡ minus x.right (power A.order.vars x.low c.in_ok-a.b) =
    c.minus-right.ensures ∙ ap (minus x.right) (c.power-2.ensures ∙ ap (λ n. power n x.low c.in_ok-a.b) n) in
    let added : ProductSum = map (λ t. ((k * t.0) % A.p, between A.order.vars x c.in_ok-a.a c.in_ok-a.b c.args.tail.now t.1)) (normal_form A w) in
    let swap : IsExchange A k x c.args.tail.now added = record {
      a = c.in_ok-a.a;
      b = c.in_ok-a.b;
      a_some = c.in_ok-a.ensures.a_within.0;
      b_some = c.in_ok-a.ensures.b_within.0;
      a_within = a_within g (goal.at.returns-clause-products g c).In_ok-a;
      b_within = b_within g (goal.at.returns-clause-products g c).In_ok-a;
      terms = refl;
    } in
    on_ok_weaker c.push_each.result
    (λ is. (
      added,
      (
        swap,
        is ∙ (λ i. products_in c.args.pending.now.open.items c.args.pending.now.factors.items
            ++ map (λ t. ((k * t.0) % prime i, c.args.tail.now ++ (right i ∷ t.1 ∷ left i ∷ []))) (terms i)),
      ),
    ))
    c.push_each.ensures.products
