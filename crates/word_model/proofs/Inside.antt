-- A part of a word may be brought to its normal form first.
use Rattle.std.proofs.Common.{◌≡◌, ℕ, ◌+◌, ◌*◌, ◌<◌, ◌≤◌, ◌∷◌, ◌++◌, length, None, Some, sym, ap, ◌∙◌, subst, subst₂, arith, append_assoc, length-append}
use Rattle.monomials.specs.Monomials.{Monomial}
use Rattle.monomials.specs.Polynomials.{Each}
use Rattle.monomials.proofs.Modulo.{Same, same_refl}
use Rattle.monomials.proofs.Weights.{weigh}
use Rattle.monomials.proofs.Keys.{Each-first, Each-second, Each-weaker}
use Rattle.word_model.specs.Words.{Algebra, Word, IsWord, monomial_of, sorted_word, leftmost_descent, c_of, d_of, RewritesDown}
use Rattle.word_model.proofs.Letters.{Each-both}
use Rattle.word_model.proofs.Descents.{descent}
use Rattle.word_model.proofs.Sorted.{sorted_word-monomial_of}
use Rattle.word_model.proofs.Termination.{IsLess, measure, normal_form-sorted}
use Rattle.word_model.proofs.NormalForms.{word_weight}
use Rattle.word_model.proofs.Induction.{less_swapped, less_replaced, word_induction}
use Rattle.word_model.proofs.Rules.{rule_of, by_descent, rule_alike, AnyPair}

module _ (A : Algebra) (downward : RewritesDown A) (l k : ℕ) (any : AnyPair A l k) (φ : Monomial → ℕ) (a b : Word) where
  -- a word between a and b
  abbrev pub around : Word → Word
  around s = a ++ (s ++ b)

  -- the weight of a monomial between them
  abbrev pub weight_between : Monomial → ℕ
  weight_between m = word_weight A φ (around (sorted_word m))

  -- the part s may be brought to its normal form first
  abbrev MayBeFirst : Word → Type 0
  MayBeFirst s =
      IsWord A.order.vars (around s) → length (around s) ≤ l → measure A l (around s) < k
      → Same A.p (word_weight A φ (around s)) (word_weight A weight_between s)

  part_is_word : (s : Word) → IsWord A.order.vars (around s) → IsWord A.order.vars s
  part_is_word s word = Each-first _ s b (Each-second _ a (s ++ b) word)

  part_is_short : (s : Word) → length (around s) ≤ l → length s ≤ l
  part_is_short s short = omega (arith, length-append a (s ++ b), length-append s b)

  sorted_part : (s : Word) → IsWord A.order.vars s → leftmost_descent s ≡ None → MayBeFirst s
  sorted_part s own e word short below =
      let alone : word_weight A φ (around (sorted_word (monomial_of A.order.vars s))) ≡ 1 * weight_between (monomial_of A.order.vars s) + 0 = omega arith in
      same_refl A.p _ _
      (ap (λ w. word_weight A φ (around w)) (sym (sorted_word-monomial_of A.order.vars s own e))
      ∙ alone ∙ ap (weigh weight_between) (sym (normal_form-sorted A s e)))

  module _ (u : Word) (j i : ℕ) (v : Word) (falls : i < j) where
    shifted : (y : Word) → around (u ++ y) ≡ (a ++ u) ++ (y ++ b)
    shifted y = ap (λ x. a ++ x) (append_assoc u y b) ∙ sym (append_assoc a u (y ++ b))

    shifted_replaced : (m : Monomial) → around (u ++ (sorted_word m ++ v)) ≡ (a ++ u) ++ (sorted_word m ++ (v ++ b))
    shifted_replaced m = shifted (sorted_word m ++ v) ∙ ap (λ x. (a ++ u) ++ x) (append_assoc (sorted_word m) v b)

    -- the rule of the letters in the longer word
    rule_around : rule_of A (word_weight A φ) (a ++ u) j i (v ++ b) ≡ rule_of A (λ s. word_weight A φ (around s)) u j i v
    rule_around t = c_of A i j * word_weight A φ (sym (shifted (i ∷ j ∷ v)) t) + weigh (λ m. word_weight A φ (sym (shifted_replaced m) t)) (d_of A i j)

    module _ (word : IsWord A.order.vars (around (u ++ j ∷ i ∷ v))) (short : length (around (u ++ j ∷ i ∷ v)) ≤ l) where
      word' : IsWord A.order.vars ((a ++ u) ++ j ∷ i ∷ (v ++ b))
      word' = subst (IsWord A.order.vars) (shifted (j ∷ i ∷ v)) word

      short' : length ((a ++ u) ++ j ∷ i ∷ (v ++ b)) ≤ l
      short' = subst (λ w. length w ≤ l) (shifted (j ∷ i ∷ v)) short

      around_swapped : IsLess A l (around (u ++ j ∷ i ∷ v)) (around (u ++ i ∷ j ∷ v))
      around_swapped =
          subst₂ (IsLess A l) (sym (shifted (j ∷ i ∷ v))) (sym (shifted (i ∷ j ∷ v))) (less_swapped A l (a ++ u) j i (v ++ b) word' short' falls)

      around_replaced : Each (λ t. IsLess A l (around (u ++ j ∷ i ∷ v)) (around (u ++ (sorted_word t.1 ++ v)))) (d_of A i j)
      around_replaced =
          Each-weaker _ _ (λ t less. subst₂ (IsLess A l) (sym (shifted (j ∷ i ∷ v))) (sym (shifted_replaced t.1)) less)
          (d_of A i j) (less_replaced A downward l (a ++ u) j i (v ++ b) word' short' falls)

    -- where the part's leftmost descent is rewritten
    descent_part : IsWord A.order.vars (u ++ j ∷ i ∷ v) → leftmost_descent (u ++ j ∷ i ∷ v) ≡ Some (descent u j i v)
        → MayBeFirst (u ++ i ∷ j ∷ v) → Each (λ t. MayBeFirst (u ++ (sorted_word t.1 ++ v))) (d_of A i j) → MayBeFirst (u ++ j ∷ i ∷ v)
    descent_part own e swapped replaced word short below =
        let less : IsLess A l (around (u ++ j ∷ i ∷ v)) (around (u ++ i ∷ j ∷ v)) = around_swapped word short in
        same_refl A.p _ _ (ap (word_weight A φ) (shifted (j ∷ i ∷ v)))
        ∙ any (a ++ u) j i (v ++ b) (word' word short) (short' word short) falls (subst (λ w. measure A l w < k) (shifted (j ∷ i ∷ v)) below) φ
        ∙ same_refl A.p _ _ rule_around
        ∙ rule_alike A (λ s. word_weight A φ (around s)) (word_weight A weight_between) u j i v
        (swapped less.0 less.1 (omega (arith, less.2)))
        (Each-both _ _ _ (λ t first less. first less.0 less.1 (omega (arith, less.2))) (d_of A i j) replaced (around_replaced word short))
        ∙ sym (by_descent A downward weight_between u j i v own e)

  -- a part of a word of measure below k may be brought to its normal form first
  pub inside : (s : Word) → IsWord A.order.vars (around s) → length (around s) ≤ l → measure A l (around s) < k
      → Same A.p (word_weight A φ (around s)) (word_weight A weight_between s)
  inside s word short =
      word_induction A downward l MayBeFirst
      (λ s own len e. sorted_part s own e)
      (λ u j i v own len falls e swapped replaced. descent_part u j i v falls own e swapped replaced)
      s (part_is_word s word) (part_is_short s short) word short
