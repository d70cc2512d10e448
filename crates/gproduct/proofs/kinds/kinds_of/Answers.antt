use Rattle.std.proofs.Common.{◌≡◌, ◌+◌, ◌-◌, ◌/◌, ◌%◌, ◌<◌, ◌⊎◌, inl, inr, List, [], ◌∷◌, ◌++◌, length, Option, Some, None, IfSome, slice_index_or, ℕ, zero, suc, refl, sym, subst, ap, ◌∙◌, rules, arith, length-append}
use Rattle.std.proofs.Math.ListN.{get_or-append}
use Rattle.std.proofs.lemmas.List.{get_or-append-add}
use Rattle.word_model.specs.Words.{Algebra}
use Rattle.closed_forms.specs.declared.PairKind.{PairKind}
use Rattle.closed_forms.specs.Kinds.{HasKind}
use Rattle.gproduct.specs.Inside.Swaps.{AreFirstKinds}
use Rattle.gproduct.proofs.kinds.kinds_of.Goals as goal

before_or_from : (a b : ℕ) → (a < b) ⊎ (a ≡ b + (a - b))
before_or_from a b = grind arith

-- what stands past the end is none
one_item : {X : Type 0} (r : Option X) (k : ℕ) (x : X) → slice_index_or (r ∷ []) k None ≡ Some x → (k ≡ 0) × (r ≡ Some x)
one_item r zero x e = (refl, e)
one_item r (suc k) x e = absurd (search rules)

-- where the last item stands
last_place : (k n m : ℕ) → m ≡ n → k ≡ m + (k - m) → k < m + 1 → n ≡ k
last_place k n m is behind within = omega (arith, is, behind, within)

-- one kind more
more_kinds : (A : Algebra) (kinds : List (Option PairKind)) (r : Option PairKind) (n : ℕ) → length kinds ≡ n
    → IfSome r (λ kind. HasKind A (n / 16 + 1) (n % 16 + 1) kind) → ((kind : PairKind) → HasKind A (n / 16 + 1) (n % 16 + 1) kind → r ≡ Some kind)
    → AreFirstKinds A kinds → AreFirstKinds A (kinds ++ r ∷ [])
more_kinds A kinds r n places is full are = record { right = λ k kind there. by k kind there (before_or_from k (length kinds)); full = λ k kind within has. found k kind within has (before_or_from k (length kinds)) }
  where
    of_last : (kind : PairKind) (r : Option PairKind) → r ≡ Some kind → IfSome r (λ kind. HasKind A (n / 16 + 1) (n % 16 + 1) kind) → HasKind A (n / 16 + 1) (n % 16 + 1) kind
    of_last kind None e h = absurd (search rules)
    of_last kind (Some x) e h = let same : x ≡ kind = cc in subst (HasKind A (n / 16 + 1) (n % 16 + 1)) same h

    by : (k : ℕ) (kind : PairKind) → slice_index_or (kinds ++ r ∷ []) k None ≡ Some kind → (k < length kinds) ⊎ (k ≡ length kinds + (k - length kinds)) → HasKind A (k / 16 + 1) (k % 16 + 1) kind
    by k kind there (inl before) = are.right k kind (sym (get_or-append kinds (r ∷ []) None k before) ∙ there)
    by k kind there (inr behind) =
        let last : (k - length kinds ≡ 0) × (r ≡ Some kind) =
        one_item r (k - length kinds) kind
        (sym (get_or-append-add kinds (r ∷ []) (k - length kinds) None) ∙ ap (λ i. slice_index_or (kinds ++ r ∷ []) i None) (sym behind) ∙ there) in
        let place : n ≡ k = omega (arith, last.0) in
        subst (λ k. HasKind A (k / 16 + 1) (k % 16 + 1) kind) place (of_last kind r last.1 is)

    found : (k : ℕ) (kind : PairKind) → k < length (kinds ++ r ∷ []) → HasKind A (k / 16 + 1) (k % 16 + 1) kind → (k < length kinds) ⊎ (k ≡ length kinds + (k - length kinds))
        → slice_index_or (kinds ++ r ∷ []) k None ≡ Some kind
    found k kind within has (inl before) = get_or-append kinds (r ∷ []) None k before ∙ are.full k kind before has
    found k kind within has (inr behind) =
        let place : n ≡ k = last_place k n (length kinds) places behind (subst (λ m. k < m) (length-append kinds (r ∷ [])) within) in
        let zero_more : k - length kinds ≡ 0 = omega (arith, place, places) in
        ap (λ i. slice_index_or (kinds ++ r ∷ []) i None) behind ∙ get_or-append-add kinds (r ∷ []) (k - length kinds) None ∙ ap (λ i. slice_index_or (r ∷ []) i None) zero_more
        ∙ full kind (subst (λ k. HasKind A (k / 16 + 1) (k % 16 + 1) kind) (sym place) has)

pub loop-place-preserved : goal.loop-place-preserved
loop-place-preserved c =
    let items : c.push.new.self.items ≡ c.loop-place.kinds.items ++ c.kind_if_pair.result ∷ [] = c.in_ok-push.ensures.items in
    record {
      places = ap length items ∙ length-append c.loop-place.kinds.items (c.kind_if_pair.result ∷ []) ∙ ap (λ n. n + 1) c.loop-place.invariant.places;
      kinds = subst (AreFirstKinds c.args.alg.now) (sym items)
          (more_kinds c.args.alg.now c.loop-place.kinds.items c.kind_if_pair.result c.loop-place.place c.loop-place.invariant.places c.kind_if_pair.ensures.kind c.kind_if_pair.ensures.full c.loop-place.invariant.kinds);
    }
