-- What the normal form of a part of a word leaves: smaller words, if the part is not sorted.
use Rattle.std.proofs.Common.{◌≡◌, ℕ, zero, suc, ◌<◌, ◌≤◌, List, [], ◌∷◌, ◌++◌, length, replicate, Option, Some, None, refl, sym, ap, ◌∙◌, subst, subst₂, arith, append_assoc, length-append, le_refl}
use Rattle.monomials.specs.Monomials.{Monomial}
use Rattle.monomials.specs.Orders.{order_cmp}
use Rattle.monomials.specs.Polynomials.{Each}
use Rattle.monomials.proofs.Keys.{Each-first, Each-second, Each-weaker, EachKey, EachKey-sum_over}
use Rattle.word_model.specs.Words.{Algebra, Word, WordSum, IsWord, monomial_of, sorted_word, Descent, leftmost_descent, rewritten, d_of, normal_form, word_value, RewritesDown}
use Rattle.word_model.proofs.Letters.{Each-map, Each-both}
use Rattle.word_model.proofs.Descents.{word_of, descent, found_descent, rising}
use Rattle.word_model.proofs.Sorted.{sorted_word-monomial_of}
use Rattle.word_model.proofs.Termination.{IsLess, measure, normal_form-sorted, normal_form-descent}
use Rattle.word_model.proofs.Induction.{less_swapped, less_replaced, word_induction}

-- powers of two variables in the wrong order are no sorted word
pub powers_fall : (a b high low : ℕ) → 1 ≤ a → 1 ≤ b → low < high → leftmost_descent (replicate a high ++ replicate b low) ≡ None → ⊥
powers_fall zero b high low ha hb falls none = absurd (omega arith)
powers_fall (suc a) zero high low ha hb falls none = absurd (omega arith)
powers_fall (suc a) (suc b) high low ha hb falls none =
    let above : Each (λ y. high ≤ y) (low ∷ replicate b low) =
    Each-second _ (replicate a high) (low ∷ replicate b low) (rising high (replicate a high ++ low ∷ replicate b low) none).0 in
    omega (arith, above.0)

module _ (A : Algebra) where
  -- the keys of a sum's value
  EachKey-word_value : (Q : Monomial → Type 0) (f : WordSum) → EachKey (λ w. EachKey Q (normal_form A w)) f → EachKey Q (word_value A f)
  unfolding word_value
  EachKey-word_value Q f h = EachKey-sum_over (order_cmp A.order.rows) A.p Q (normal_form A) f h

  module _ (downward : RewritesDown A) (l : ℕ) (a b : Word) where
    -- a word between a and b
    abbrev around : Word → Word
    around s = a ++ (s ++ b)

    -- between a and b, m is a word that is not greater than s
    abbrev AtMost : Word → Monomial → Type 0
    AtMost s m =
        IsWord A.order.vars (around (sorted_word m)) × (length (around (sorted_word m)) ≤ l) × (measure A l (around (sorted_word m)) ≤ measure A l (around s))

    -- so is each monomial of its normal form
    abbrev Shrinks : Word → Type 0
    Shrinks s = IsWord A.order.vars (around s) → length (around s) ≤ l → EachKey (AtMost s) (normal_form A s)

    sorted_part : (s : Word) → IsWord A.order.vars s → leftmost_descent s ≡ None → Shrinks s
    sorted_part s own e word short =
        let same : sorted_word (monomial_of A.order.vars s) ≡ s = sorted_word-monomial_of A.order.vars s own e in
        let own_size : (IsWord A.order.vars (around s)) × (length (around s) ≤ l) × (measure A l (around s) ≤ measure A l (around s)) = (word, short, le_refl _) in
        subst (EachKey (AtMost s)) (sym (normal_form-sorted A s e))
        (subst (λ w. IsWord A.order.vars (around w) × (length (around w) ≤ l) × (measure A l (around w) ≤ measure A l (around s))) (sym same) own_size, tt)

    module _ (u : Word) (j i : ℕ) (v : Word) (falls : i < j) where
      shifted : (y : Word) → around (u ++ y) ≡ (a ++ u) ++ (y ++ b)
      shifted y = ap (λ x. a ++ x) (append_assoc u y b) ∙ sym (append_assoc a u (y ++ b))

      shifted_replaced : (m : Monomial) → around (u ++ (sorted_word m ++ v)) ≡ (a ++ u) ++ (sorted_word m ++ (v ++ b))
      shifted_replaced m = shifted (sorted_word m ++ v) ∙ ap (λ x. (a ++ u) ++ x) (append_assoc (sorted_word m) v b)

      -- what is less than the word with the two letters
      abbrev Falls : Word → Type 0
      Falls w = IsLess A l (around (u ++ j ∷ i ∷ v)) (around w)

      less_by : (w : Word) → Shrinks w → Falls w → EachKey (λ m. Falls (sorted_word m)) (normal_form A w)
      less_by w shrinks less =
          Each-weaker _ _ (λ t h. (h.0, h.1, omega (arith, h.2, less.2))) (normal_form A w) (shrinks less.0 less.1)

      -- the normal form of a part is less, by its leftmost descent
      by_descent : IsWord A.order.vars (u ++ j ∷ i ∷ v) → leftmost_descent (u ++ j ∷ i ∷ v) ≡ Some (descent u j i v)
          → Shrinks (u ++ i ∷ j ∷ v) → Each (λ t. Shrinks (u ++ (sorted_word t.1 ++ v))) (d_of A i j)
          → IsWord A.order.vars (around (u ++ j ∷ i ∷ v)) → length (around (u ++ j ∷ i ∷ v)) ≤ l
          → EachKey (λ m. Falls (sorted_word m)) (normal_form A (u ++ j ∷ i ∷ v))
      by_descent own e swapped replaced word short =
          let word' : IsWord A.order.vars ((a ++ u) ++ j ∷ i ∷ (v ++ b)) = subst (IsWord A.order.vars) (shifted (j ∷ i ∷ v)) word in
          let short' : length ((a ++ u) ++ j ∷ i ∷ (v ++ b)) ≤ l = subst (λ w. length w ≤ l) (shifted (j ∷ i ∷ v)) short in
          let less : Falls (u ++ i ∷ j ∷ v) =
          subst₂ (IsLess A l) (sym (shifted (j ∷ i ∷ v))) (sym (shifted (i ∷ j ∷ v))) (less_swapped A l (a ++ u) j i (v ++ b) word' short' falls) in
          let lesser : Each (λ t. Falls (u ++ (sorted_word t.1 ++ v))) (d_of A i j) =
          Each-weaker _ _ (λ t less. subst₂ (IsLess A l) (sym (shifted (j ∷ i ∷ v))) (sym (shifted_replaced t.1)) less)
          (d_of A i j) (less_replaced A downward l (a ++ u) j i (v ++ b) word' short' falls) in
          subst (EachKey (λ m. Falls (sorted_word m))) (sym (normal_form-descent A downward (u ++ j ∷ i ∷ v) (descent u j i v) own e))
          (EachKey-word_value (λ m. Falls (sorted_word m)) (rewritten A (descent u j i v)) (
            less_by (u ++ i ∷ j ∷ v) swapped less,
            Each-map (λ t. EachKey (λ m. Falls (sorted_word m)) (normal_form A t.1)) (λ t. (t.0, u ++ (sorted_word t.1 ++ v))) (d_of A i j)
                (Each-both _ _ _ (λ t shrinks less. less_by (u ++ (sorted_word t.1 ++ v)) shrinks less) (d_of A i j) replaced lesser),
          ))

    part_is_word : (s : Word) → IsWord A.order.vars (around s) → IsWord A.order.vars s
    part_is_word s word = Each-first _ s b (Each-second _ a (s ++ b) word)

    part_is_short : (s : Word) → length (around s) ≤ l → length s ≤ l
    part_is_short s short = omega (arith, length-append a (s ++ b), length-append s b)

    shrinks : (s : Word) → Shrinks s
    shrinks s word short =
        word_induction A downward l Shrinks (λ s own len e. sorted_part s own e)
        (λ u j i v own len falls e swapped replaced word short.
        Each-weaker _ _ (λ t less. (less.0, less.1, omega (arith, less.2))) (normal_form A (u ++ j ∷ i ∷ v))
        (by_descent u j i v falls own e swapped replaced word short))
        s (part_is_word s word) (part_is_short s short) word short

    -- a part that is not sorted leaves less
    pub part_less : (s : Word) → (leftmost_descent s ≡ None → ⊥) → IsWord A.order.vars (around s) → length (around s) ≤ l
        → EachKey (λ m. IsLess A l (around s) (around (sorted_word m))) (normal_form A s)
    part_less s unsorted word short = by (leftmost_descent s) refl
      where
        by : (r : Option Descent) → leftmost_descent s ≡ r → EachKey (λ m. IsLess A l (around s) (around (sorted_word m))) (normal_form A s)
        by None e = absurd (unsorted e)
        by (Some d) e =
            let found : (s ≡ word_of d) × (d.low < d.high) = found_descent s d e in
            let here : IsWord A.order.vars (around (word_of d)) = subst (λ s. IsWord A.order.vars (around s)) found.0 word in
            let small : length (around (word_of d)) ≤ l = subst (λ s. length (around s) ≤ l) found.0 short in
            subst (λ s. EachKey (λ m. IsLess A l (around s) (around (sorted_word m))) (normal_form A s)) (sym found.0)
            (by_descent d.before d.high d.low d.after found.1 (part_is_word (word_of d) here)
            (subst (λ s. leftmost_descent s ≡ Some d) found.0 e)
            (shrinks (d.before ++ d.low ∷ d.high ∷ d.after))
            (each_shrinks d.before d.after (d_of A d.low d.high)) here small)
          where
            each_shrinks : (u v : Word) (f : List (ℕ × Monomial)) → Each (λ t. Shrinks (u ++ (sorted_word t.1 ++ v))) f
            each_shrinks u v [] = tt
            each_shrinks u v (t ∷ f) = (shrinks (u ++ (sorted_word t.1 ++ v)), each_shrinks u v f)
