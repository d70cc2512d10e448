use Rattle.std.proofs.Common.{◌≡◌, ℕ, ◌<◌, ◌∙◌, ◌++◌, ◌∷◌, [], List, sym, ap, subst, subst₂}
use Rattle.std.proofs.lemmas.List.{map-append}
use Rattle.monomials.specs.Monomials.{Monomial}
use Rattle.gpoly.specs.Terms.{pair_of, pairs_of}
use Rattle.word_model.specs.Words.{Algebra, sorted_word}
use Rattle.word_model.specs.Conditions.{IsGAlgebra}
use Rattle.gproduct.specs.declared.front.Crossing.{Crossing}
use Rattle.gproduct.specs.Inside.Factors.{HaveVars, ProductSum, IsCrossing, IsExchange, products_in, stacked_word, words_of}
use Rattle.gproduct.proofs.Stacks.{degrees-le}
use Rattle.gproduct.proofs.MultipliedOut.{IsMultiplying, sum_measure, last_number, last_short, go_sorted, sorted_falls, go_on, swapped_falls, finish}
use Rattle.gproduct.proofs.multiplying.sorted_terms.Given as given
use Rattle.gproduct.proofs.multiplying.sorted_terms.Goals as goal
use Rattle.gproduct.proofs.multiplying.sorted_terms.Goals.{In-Some, In-Sorted, In-Crossed}

-- the products before the last one was taken
taken : (g : given.Over) (c : In-Some g)
    → products_in c.loop-sorted.pending.open.items c.loop-sorted.pending.factors.items
    ≡ products_in c.pop.new.self.open.items c.pop.new.self.factors.items ++ (c.in-Some.coef, c.pop.new.taken.items) ∷ []
taken g c = rw c.in-Some.is at c.in_ok-coef.ensures.product

before : (g : given.Over) (c : In-Some g)
    → IsMultiplying (g.E.Exchange.over c.args.swaps.now) (products_in c.args.pending.now.open.items c.args.pending.now.factors.items)
    (products_in c.pop.new.self.open.items c.pop.new.self.factors.items ++ (c.in-Some.coef, c.pop.new.taken.items) ∷ []) (pairs_of c.loop-sorted.sorted.items)
before g c =
    subst (λ f. IsMultiplying (g.E.Exchange.over c.args.swaps.now) (products_in c.args.pending.now.open.items c.args.pending.now.factors.items) f (pairs_of c.loop-sorted.sorted.items))
    (taken g c) c.loop-sorted.invariant.multiplying

-- the number of variables
vars : (g : given.Over) (c : In-Some g) → c.n-n.result ≡ (g.E.Exchange.over c.args.swaps.now).order.vars
vars g c = c.n-n.ensures.value ∙ ap (λ (A : Algebra). A.order.vars) c.algebra.ensures

pub loop-sorted-smaller-in-Continue-branch-3 : goal.loop-sorted-smaller-in-Continue-branch-3
loop-sorted-smaller-in-Continue-branch-3 g c =
    let A = (g.E.Exchange.over c.args.swaps.now) in
    let rest = products_in c.pop.new.self.open.items c.pop.new.self.factors.items in
    subst (λ f. sum_measure A 4095 (words_of rest) < sum_measure A 4095 (words_of f)) (sym (taken g (goal.at.loop-sorted-smaller-in-Continue-branch-3 g c).In-Some))
    (sorted_falls A rest c.in-Some.coef c.pop.new.taken.items)

pub loop-sorted-preserved-in-Continue-branch-3 : goal.loop-sorted-preserved-in-Continue-branch-3
loop-sorted-preserved-in-Continue-branch-3 g c =
    let s = (goal.at.loop-sorted-preserved-in-Continue-branch-3 g c).In-Some in
    let A = (g.E.Exchange.over c.args.swaps.now) in
    let start = products_in c.args.pending.now.open.items c.args.pending.now.factors.items in
    let rest = products_in c.pop.new.self.open.items c.pop.new.self.factors.items in
    let sorted : pairs_of c.push.new.self.items ≡ pairs_of c.loop-sorted.sorted.items ++ (c.in-Some.coef, c.in-Sorted.mono) ∷ [] =
    ap pairs_of c.in_ok-push-in-Sorted.ensures.items
    ∙ map-append pair_of c.loop-sorted.sorted.items (record { coef = c.in-Some.coef; mono = c.in-Sorted.mono } ∷ []) in
    record {
      counted = c.in_ok-coef.ensures.counted;
      multiplying =
          subst (IsMultiplying A start rest) (sym sorted)
          (go_sorted A start rest c.in-Some.coef c.pop.new.taken.items c.in-Sorted.mono (pairs_of c.loop-sorted.sorted.items) (before g s)
          (c.in-Sorted.ensures.0 ∙ vars g s) c.in-Sorted.ensures.1);
      algebra = c.loop-sorted.invariant.algebra;
      kept = c.loop-sorted.invariant.kept;
    }

pub push_swapped-requires-clause-in_range : goal.push_swapped-requires-clause-in_range
push_swapped-requires-clause-in_range g c =
    let A = (g.E.Exchange.over c.args.swaps.now) in
    subst (λ (B : Algebra). c.in-Some.coef < B.p) (sym c.loop-sorted.invariant.algebra)
    (last_number A (products_in c.pop.new.self.open.items c.pop.new.self.factors.items) c.in-Some.coef c.pop.new.taken.items
    (before g (goal.at.push_swapped-requires-clause-in_range g c).In-Some).ready)

pub push_swapped-requires-clause-reach : goal.push_swapped-requires-clause-reach
push_swapped-requires-clause-reach g c =
    let A = (g.E.Exchange.over c.args.swaps.now) in
    degrees-le 4095 c.in-Crossed.crossing.left c.in-Crossed.crossing.right (stacked_word c.join_front.new.factors.items) (stacked_word c.pop.new.taken.items)
    c.in-Crossed.ensures.2
    (last_short A (products_in c.pop.new.self.open.items c.pop.new.self.factors.items) c.in-Some.coef c.pop.new.taken.items
    (before g (goal.at.push_swapped-requires-clause-reach g c).In-Some).ready)

-- what was added in place of the last product, and how it was found
module _ (A : Algebra) (accepted : IsGAlgebra A) (B : Algebra) (same : B ≡ A) (n : ℕ) (vars : n ≡ A.order.vars)
    (start rest new : ProductSum) (k : ℕ) (fs tail tail' : List Monomial) (x : Crossing) (tails : tail' ≡ tail)
    (added : (f : ProductSum) × (IsExchange B k x tail' f × (new ≡ rest ++ f)))
    (crossed : IsCrossing n x × HaveVars n tail × (stacked_word fs ≡ sorted_word x.left ++ (sorted_word x.right ++ stacked_word tail))) where
  crossing : IsCrossing A.order.vars x
  crossing = subst (λ n. IsCrossing n x) vars crossed.0

  tail_vars : HaveVars A.order.vars tail
  tail_vars = subst (λ n. HaveVars n tail) vars crossed.1

  swap : IsExchange A k x tail added.0
  swap = subst₂ (λ (B : Algebra) (tail : List Monomial). IsExchange B k x tail added.0) same tails added.1.0

  swapped : (done : List (ℕ × Monomial)) → IsMultiplying A start (rest ++ (k, fs) ∷ []) done → IsMultiplying A start new done
  swapped done h =
      subst (λ f. IsMultiplying A start f done) (sym added.1.1)
      (go_on A accepted start rest k fs done h x crossing tail tail_vars crossed.2 added.0 swap)

  falls : (done : List (ℕ × Monomial)) → IsMultiplying A start (rest ++ (k, fs) ∷ []) done → (old : ProductSum) → old ≡ rest ++ (k, fs) ∷ []
      → sum_measure A 4095 (words_of new) < sum_measure A 4095 (words_of old)
  falls done h old is =
      subst₂ (λ f g. sum_measure A 4095 (words_of f) < sum_measure A 4095 (words_of g)) (sym added.1.1) (sym is)
      (swapped_falls A accepted start rest k fs done h x crossing tail tail_vars crossed.2 added.0 swap)

pub loop-sorted-smaller : goal.loop-sorted-smaller
loop-sorted-smaller g c =
    let s = (goal.at.loop-sorted-smaller g c).In-Some in
    let A = (g.E.Exchange.over c.args.swaps.now) in
    let accepted : IsGAlgebra A = subst IsGAlgebra c.algebra.ensures c.n-n.ensures.accepted in
    falls A accepted (g.E.Exchange.over c.loop-sorted.swaps) c.loop-sorted.invariant.algebra c.n-n.result (vars g s)
    (products_in c.args.pending.now.open.items c.args.pending.now.factors.items)
    (products_in c.pop.new.self.open.items c.pop.new.self.factors.items)
    (products_in c.push_swapped.new.pending.open.items c.push_swapped.new.pending.factors.items)
    c.in-Some.coef c.pop.new.taken.items c.join_front.new.factors.items c.deref.result.now c.in-Crossed.crossing c.deref.ensures.value
    c.in_ok-push_swapped-in-Crossed.ensures.products c.in-Crossed.ensures
    (pairs_of c.loop-sorted.sorted.items) (before g s)
    (products_in c.loop-sorted.pending.open.items c.loop-sorted.pending.factors.items) (taken g s)

pub loop-sorted-preserved : goal.loop-sorted-preserved
loop-sorted-preserved g c =
    let s = (goal.at.loop-sorted-preserved g c).In-Some in
    let A = (g.E.Exchange.over c.args.swaps.now) in
    let accepted : IsGAlgebra A = subst IsGAlgebra c.algebra.ensures c.n-n.ensures.accepted in
    record {
      counted = c.in_ok-push_swapped-in-Crossed.ensures.counted;
      multiplying =
          swapped A accepted (g.E.Exchange.over c.loop-sorted.swaps) c.loop-sorted.invariant.algebra c.n-n.result (vars g s)
          (products_in c.args.pending.now.open.items c.args.pending.now.factors.items)
          (products_in c.pop.new.self.open.items c.pop.new.self.factors.items)
          (products_in c.push_swapped.new.pending.open.items c.push_swapped.new.pending.factors.items)
          c.in-Some.coef c.pop.new.taken.items c.join_front.new.factors.items c.deref.result.now c.in-Crossed.crossing c.deref.ensures.value
          c.in_ok-push_swapped-in-Crossed.ensures.products c.in-Crossed.ensures
          (pairs_of c.loop-sorted.sorted.items) (before g s);
      algebra = c.push_swapped.ensures.algebra ∙ c.loop-sorted.invariant.algebra;
      kept = λ place knows. c.push_swapped.ensures.kept place (c.loop-sorted.invariant.kept place knows);
    }

pub returns-clause-empty : goal.returns-clause-empty
returns-clause-empty g c = (rw c.in_default.is at c.in_ok-coef.ensures.product).1

pub returns-clause-value : goal.returns-clause-value
returns-clause-value g c =
    let A = (g.E.Exchange.over c.args.swaps.now) in
    let start = products_in c.args.pending.now.open.items c.args.pending.now.factors.items in
    let none : c.loop-sorted.pending.open.items ≡ [] = (rw c.in_default.is at c.in_ok-coef.ensures.product).0 in
    let accepted : IsGAlgebra A = subst IsGAlgebra c.algebra.ensures c.n-n.ensures.accepted in
    finish A accepted.field.more start (pairs_of c.loop-sorted.sorted.items)
    (subst (λ ts. IsMultiplying A start (products_in ts c.loop-sorted.pending.factors.items) (pairs_of c.loop-sorted.sorted.items)) none
    c.loop-sorted.invariant.multiplying)
