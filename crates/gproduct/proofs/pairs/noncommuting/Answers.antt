use Rattle.std.proofs.Common.{◌≡◌, ◌<◌, ◌≤◌, ℕ, ◌+◌, ◌-◌, ◌*◌, ◌/◌, ◌%◌, ◌⊎◌, inl, inr, List, [], ◌∷◌, ◌++◌, refl, sym, ap, ◌∙◌, subst, subst₂, arith}
use Rattle.std.specs.List.{Contains}
use Rattle.std.proofs.lemmas.List.Elements.{Contains-push, Contains-append_left}
use Rattle.monomials.specs.Polynomials.{Each}
use Rattle.monomials.proofs.Keys.{Each-append}
use Rattle.word_model.specs.Words.{Algebra}
use Rattle.gproduct.specs.declared.pairs.Pair.{Pair}
use Rattle.gproduct.specs.Inside.Passing.{IsCommuting, IsPair, HasNoncommuting}
use Rattle.gproduct.proofs.pairs.noncommuting.Goals as goal
use Rattle.gproduct.proofs.pairs.noncommuting.Goals.{then-is_noncommuting+in_ok-push, else-is_noncommuting}

before_or_at : (k n : ℕ) → k < n + 1 → (k < n) ⊎ (k ≡ n)
before_or_at k n h = grind arith

-- the pair of variables at a place
abbrev pair_at : ℕ → Pair
pair_at k = record { i = k / 16 + 1; j = k % 16 + 1 }

module _ (A : Algebra) where
  -- it commutes or is in the list
  abbrev IsSorted : List Pair → ℕ → Type 0
  IsSorted pairs k =
      k / 16 + 1 < k % 16 + 1 → k % 16 + 1 ≤ A.order.vars → IsCommuting A (k / 16 + 1) (k % 16 + 1) ⊎ Contains pairs (pair_at k)

  -- one place more, whose pair is added
  added : (pairs : List Pair) (place : ℕ) → ((k : ℕ) → k < place → IsSorted pairs k) → (k : ℕ) → k < place + 1 → IsSorted (pairs ++ pair_at place ∷ []) k
  added pairs place before k less = by (before_or_at k place less)
    where
      kept : IsCommuting A (k / 16 + 1) (k % 16 + 1) ⊎ Contains pairs (pair_at k)
          → IsCommuting A (k / 16 + 1) (k % 16 + 1) ⊎ Contains (pairs ++ pair_at place ∷ []) (pair_at k)
      kept (inl commuting) = inl commuting
      kept (inr there) = inr (Contains-append_left pairs (pair_at place ∷ []) (pair_at k) there)

      by : (k < place) ⊎ (k ≡ place) → IsSorted (pairs ++ pair_at place ∷ []) k
      by (inl earlier) = λ falls high. kept (before k earlier falls high)
      by (inr here) = λ falls high. inr (subst (λ k. Contains (pairs ++ pair_at place ∷ []) (pair_at k)) (sym here) (Contains-push pairs (pair_at place)))

  -- one place more, whose pair is in order or commutes
  passed : (pairs : List Pair) (place : ℕ) → (place / 16 + 1 < place % 16 + 1 → place % 16 + 1 ≤ A.order.vars → IsCommuting A (place / 16 + 1) (place % 16 + 1))
      → ((k : ℕ) → k < place → IsSorted pairs k) → (k : ℕ) → k < place + 1 → IsSorted pairs k
  passed pairs place commutes before k less = by (before_or_at k place less)
    where
      by : (k < place) ⊎ (k ≡ place) → IsSorted pairs k
      by (inl earlier) = before k earlier
      by (inr here) = subst (IsSorted pairs) (sym here) (λ falls high. inl (commutes falls high))

  -- all pairs have a place
  all : (pairs : List Pair) (end : ℕ) → 240 ≤ end → A.order.vars ≤ 16 → Each (IsPair A.order.vars) pairs → ((k : ℕ) → k < end → IsSorted pairs k) → HasNoncommuting A pairs
  all pairs end last few are sorted = record {
    are = are;
    all = λ i j low falls high.
        let k : ℕ = (i - 1) * 16 + (j - 1) in
        let first : k / 16 + 1 ≡ i = omega arith in
        let second : k % 16 + 1 ≡ j = omega arith in
        let inside : k < end = omega arith in
        subst₂ (λ i j. IsCommuting A i j ⊎ Contains pairs (record { i = i; j = j })) first second (sorted k inside (omega arith) (omega arith));
  }

pub loop-place-preserved : goal.loop-place-preserved
loop-place-preserved c =
    let A = c.args.alg.now in
    let place : ℕ = c.loop-place.place in
    elim c.if-is_noncommuting.branch [
      | then-is_noncommuting+in_ok-push w ↦
          let items : c.if-is_noncommuting.pairs.items ≡ c.loop-place.pairs.items ++ pair_at place ∷ [] = ap (λ v. v.items) w.pairs-is ∙ w.in_ok-push.ensures.items in
          record {
            are = subst (Each (IsPair A.order.vars)) (sym items)
                (Each-append (IsPair A.order.vars) c.loop-place.pairs.items (pair_at place ∷ []) c.loop-place.invariant.are (w.if-is_noncommuting.ensures.pair refl, tt));
            all = λ k less.
                subst (λ pairs. IsSorted A pairs k) (sym items) (added A c.loop-place.pairs.items place c.loop-place.invariant.all k less);
          }
      | else-is_noncommuting w ↦
          let items : c.if-is_noncommuting.pairs.items ≡ c.loop-place.pairs.items = ap (λ v. v.items) w.pairs-is in
          record {
            are = subst (Each (IsPair A.order.vars)) (sym items) c.loop-place.invariant.are;
            all = λ k less.
                subst (λ pairs. IsSorted A pairs k) (sym items) (passed A c.loop-place.pairs.items place (w.if-is_noncommuting.ensures.commuting refl) c.loop-place.invariant.all k less);
          }
    ]

pub returns : goal.returns
returns c =
    all c.args.alg.now c.loop-place.pairs.items c.loop-place.place (omega (arith, c.loop-place-test.false)) (omega (arith, c.n-n.ensures.value, c.n-n.ensures.at_most))
    c.loop-place.invariant.are c.loop-place.invariant.all
