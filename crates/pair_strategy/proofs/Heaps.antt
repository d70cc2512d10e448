-- What a heap keeps as one of its items goes up or down.
use Rattle.std.proofs.Common.{◌≡◌, ◌≢◌, ℕ, zero, suc, ◌+◌, ◌-◌, ◌*◌, ◌/◌, ◌<◌, ◌≤◌, ◌⊎◌, inl, inr, Bool, true, false, List, get_or, ap, ◌∙◌, arith, is_lt, refl}
use Rattle.std.specs.List.{SwappedAt}
use Rattle.std.specs.Cmp.{IsStrictWeakOrder}
use Rattle.std.proofs.lemmas.List.Sorted.{ranks_by}
use Rattle.monomials.specs.Orders.{RowOrder}
use Rattle.pair_strategy.specs.Queues.{keyed_cmp}
use Rattle.pair_strategy.specs.Inside.Heaps.{IsAtMost, IsTree, IsTreeBelow, IsTreeAbove, IsLeastBelow}
use Rattle.pair_strategy.specs.declared.keys.Keyed.{Keyed}
use Rattle.pair_strategy.proofs.Places.{which, cases}
use Rattle.pair_strategy.proofs.Ordered.{keyed_total}

module _ (o : RowOrder) where
  ranks : IsStrictWeakOrder (λ (a b : Keyed). is_lt (keyed_cmp o a b))
  ranks = ranks_by (keyed_total o) (λ (k : Keyed). k)

  pub at_most-trans : (a b c : Keyed) → IsAtMost o a b → IsAtMost o b c → IsAtMost o a c
  at_most-trans a b c e h = ranks.chain c b a h e

  -- what is greater than another is not at most that
  pub at_most-less : (a b : Keyed) → is_lt (keyed_cmp o b a) ≡ true → IsAtMost o b a
  at_most-less a b e = ranks.one_way b a e

  pub at_most-itself : (a : Keyed) → IsAtMost o a a
  at_most-itself a = by (is_lt (keyed_cmp o a a)) refl
    where
      by : (t : Bool) → is_lt (keyed_cmp o a a) ≡ t → IsAtMost o a a
      by true e = ranks.one_way a a e
      by false e = e

  moved : (a b x y : Keyed) → a ≡ x → b ≡ y → IsAtMost o x y → IsAtMost o a b
  moved a b x y e h k = (λ i. is_lt (keyed_cmp o (h i) (e i))) ∙ k

  -- ---- up

  -- the last item of a list whose others are a heap
  pub rise-begins : (xs : List Keyed) (n : ℕ) → IsTree o xs n → IsTreeBelow o xs n (n + 1)
  rise-begins xs n tree = (λ p k d a b c other. tree p k d a b (omega arith), λ p k d a b c e f. absurd (omega arith))

  pub rise-steps : (xs ys : List Keyed) (a j n : ℕ) → a * 2 + 1 ≤ j → j ≤ a * 2 + 2 → j < n → SwappedAt xs ys a j
      → ((d : Keyed) → IsAtMost o (get_or xs j d) (get_or xs a d)) → IsTreeBelow o xs j n → IsTreeBelow o ys a n
  rise-steps xs ys a j n from to within s less h = (
    λ p k d low high in_range other.
        cases
        (λ (e : k ≡ j).
        let up : p ≡ a = omega arith in
        moved _ _ _ _ (ap (λ m. get_or ys m d) up ∙ s.0 d) (ap (λ m. get_or ys m d) e ∙ s.1 d) (less d))
        (λ (ne : k ≢ j).
        let end : get_or ys k d ≡ get_or xs k d = s.2 k d other ne in
        cases
        (λ (e : p ≡ a).
        moved _ _ _ _ (ap (λ m. get_or ys m d) e ∙ s.0 d) end
        (at_most-trans (get_or xs j d) (get_or xs a d) (get_or xs k d) (less d) (h.0 a k d (omega arith) (omega arith) in_range ne)))
        (λ (not_a : p ≢ a).
        cases
        (λ (e : p ≡ j). moved _ _ _ _ (ap (λ m. get_or ys m d) e ∙ s.1 d) end (h.1 a k d from to (omega arith) (omega arith) in_range))
        (λ (not_j : p ≢ j). moved _ _ _ _ (s.2 p d not_a not_j) end (h.0 p k d low high in_range ne)) (which p j))
        (which p a))
        (which k j),
    λ p k d a_low a_high low high in_range.
        let start : get_or ys p d ≡ get_or xs p d = s.2 p d (omega arith) (omega arith) in
        let over : IsAtMost o (get_or xs p d) (get_or xs a d) = h.0 p a d a_low a_high (omega arith) (omega arith) in
        cases (λ (e : k ≡ j). moved _ _ _ _ start (ap (λ m. get_or ys m d) e ∙ s.1 d) over)
        (λ (ne : k ≢ j). moved _ _ _ _ start (s.2 k d (omega arith) ne) (at_most-trans (get_or xs p d) (get_or xs a d) (get_or xs k d) over (h.0 a k d low high in_range ne))) (which k j),
  )

  pub rise-tops : (xs : List Keyed) (n : ℕ) → IsTreeBelow o xs 0 n → IsTree o xs n
  rise-tops xs n h = λ p k d low high in_range. h.0 p k d low high in_range (omega arith)

  pub rise-rests : (xs : List Keyed) (a j n : ℕ) → a * 2 + 1 ≤ j → j ≤ a * 2 + 2 → ((d : Keyed) → IsAtMost o (get_or xs a d) (get_or xs j d))
      → IsTreeBelow o xs j n → IsTree o xs n
  rise-rests xs a j n from to less h = λ p k d low high in_range.
      cases
      (λ (e : k ≡ j).
      let up : p ≡ a = omega arith in
      moved _ _ _ _ (ap (λ m. get_or xs m d) up) (ap (λ m. get_or xs m d) e) (less d))
      (λ (ne : k ≢ j). h.0 p k d low high in_range ne) (which k j)

  -- ---- down

  pub sink-steps : (xs ys : List Keyed) (j c n : ℕ) → j * 2 + 1 ≤ c → c ≤ j * 2 + 2 → c < n → SwappedAt xs ys j c
      → ((d : Keyed) → IsAtMost o (get_or xs c d) (get_or xs j d)) → IsLeastBelow o xs j c n → IsTreeAbove o xs j n → IsTreeAbove o ys c n
  sink-steps xs ys j c n from to within s less least h = (
    λ p k d low high in_range other.
        cases
        (λ (e : p ≡ j).
        let start : get_or ys p d ≡ get_or xs c d = ap (λ m. get_or ys m d) e ∙ s.0 d in
        cases (λ (at : k ≡ c). moved _ _ _ _ start (ap (λ m. get_or ys m d) at ∙ s.1 d) (less d))
        (λ (ne : k ≢ c). moved _ _ _ _ start (s.2 k d (omega arith) ne) (least k d (omega arith) (omega arith) in_range)) (which k c))
        (λ (ne : p ≢ j).
        let start : get_or ys p d ≡ get_or xs p d = s.2 p d ne other in
        cases (λ (at : k ≡ j). moved _ _ _ _ start (ap (λ m. get_or ys m d) at ∙ s.0 d) (h.1 p c d (omega arith) (omega arith) from to within))
        (λ (not_j : k ≢ j). moved _ _ _ _ start (s.2 k d not_j (omega arith)) (h.0 p k d low high in_range ne)) (which k j))
        (which p j),
    λ p k d c_low c_high low high in_range.
        let up : p ≡ j = omega arith in
        moved _ _ _ _ (ap (λ m. get_or ys m d) up ∙ s.0 d) (s.2 k d (omega arith) (omega arith)) (h.0 c k d low high in_range (omega arith)),
  )

  pub sink-ends : (xs : List Keyed) (j n : ℕ) → n ≤ j * 2 + 1 → IsTreeAbove o xs j n → IsTree o xs n
  sink-ends xs j n leaf h = λ p k d low high in_range. h.0 p k d low high in_range (omega arith)

  pub sink-rests : (xs : List Keyed) (j c n : ℕ) → ((d : Keyed) → IsAtMost o (get_or xs j d) (get_or xs c d)) → IsLeastBelow o xs j c n
      → IsTreeAbove o xs j n → IsTree o xs n
  sink-rests xs j c n less least h = λ p k d low high in_range.
      cases
      (λ (e : p ≡ j).
      moved _ _ _ _ (ap (λ m. get_or xs m d) e) refl (at_most-trans (get_or xs j d) (get_or xs c d) (get_or xs k d) (less d) (least k d (omega arith) (omega arith) in_range)))
      (λ (ne : p ≢ j). h.0 p k d low high in_range ne) (which p j)

  -- ---- the least of those below

  pub only-below : (xs : List Keyed) (j c n : ℕ) → c ≡ j * 2 + 1 → n ≡ c + 1 → IsLeastBelow o xs j c n
  only-below xs j c n e last = λ k d low high in_range.
      let same : k ≡ c = omega arith in
      moved _ _ _ _ refl (ap (λ m. get_or xs m d) same) (at_most-itself (get_or xs c d))

  pub least-of-two : (xs : List Keyed) (j c e n : ℕ) → ((k : ℕ) → j * 2 + 1 ≤ k → k ≤ j * 2 + 2 → (k ≡ c) ⊎ (k ≡ e))
      → ((d : Keyed) → IsAtMost o (get_or xs c d) (get_or xs e d)) → IsLeastBelow o xs j c n
  least-of-two xs j c e n two less = λ k d low high in_range.
      cases (λ (same : k ≡ c). moved _ _ _ _ refl (ap (λ m. get_or xs m d) same) (at_most-itself (get_or xs c d)))
      (λ (same : k ≡ e). moved _ _ _ _ refl (ap (λ m. get_or xs m d) same) (less d)) (two k low high)

  pub left-or-right : (j l r : ℕ) → l ≡ j * 2 + 1 → r ≡ l + 1 → (k : ℕ) → j * 2 + 1 ≤ k → k ≤ j * 2 + 2 → (k ≡ l) ⊎ (k ≡ r)
  left-or-right j l r e h k low high = cases (λ (same : k ≡ l). inl same) (λ (ne : k ≢ l). inr (omega arith)) (which k l)

  pub right-or-left : (j l r : ℕ) → l ≡ j * 2 + 1 → r ≡ l + 1 → (k : ℕ) → j * 2 + 1 ≤ k → k ≤ j * 2 + 2 → (k ≡ r) ⊎ (k ≡ l)
  right-or-left j l r e h k low high = cases (λ (same : k ≡ l). inr same) (λ (ne : k ≢ l). inl (omega arith)) (which k l)

  -- ---- the top

  pub top-least : (xs : List Keyed) (n : ℕ) → IsTree o xs n → (fuel k : ℕ) (d : Keyed) → k ≤ fuel → k < n → IsAtMost o (get_or xs 0 d) (get_or xs k d)
  top-least xs n tree zero k d fits in_range =
      let here : k ≡ 0 = omega arith in
      moved _ _ _ _ refl (ap (λ m. get_or xs m d) here) (at_most-itself (get_or xs 0 d))
  top-least xs n tree (suc fuel) k d fits in_range =
      cases (λ (here : k ≡ 0). moved _ _ _ _ refl (ap (λ m. get_or xs m d) here) (at_most-itself (get_or xs 0 d)))
      (λ (ne : k ≢ 0).
      at_most-trans (get_or xs 0 d) (get_or xs ((k - 1) / 2) d) (get_or xs k d) (top-least xs n tree fuel ((k - 1) / 2) d (omega arith) (omega arith))
      (tree ((k - 1) / 2) k d (omega arith) (omega arith) in_range))
      (which k 0)
