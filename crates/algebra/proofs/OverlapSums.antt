-- The sum of words of a triple, as the program makes it.
use Rattle.std.proofs.Common.{◌≡◌, ℕ, ◌+◌, ◌-◌, ◌*◌, ◌%◌, ◌<◌, ◌≤◌, [], ◌∷◌, ◌++◌, length, refl, sym, ap, ◌∙◌, arith, append_assoc, append-nil, length-append, mod-lt}
use Rattle.std.proofs.Math.Nat.{mod_self, zero-mod}
use Rattle.monomials.specs.Polynomials.{Polynomial, Each}
use Rattle.monomials.proofs.Modulo.{Same, same_refl, same_cancel, same_none}
use Rattle.monomials.proofs.Keys.{Each-append, Each-weaker}
use Rattle.word_model.specs.Words.{Algebra, Word, WordSum, IsWord, sorted_word, d_of, word_value, RewritesDown}
use Rattle.word_model.specs.Conditions.{times_words, overlap}
use Rattle.word_model.proofs.Letters.{Each-map, IsWord-sorted_word, length-word_from}
use Rattle.word_model.proofs.NormalForms.{word_weight, weigh-word_value, word_value_is_polynomial, same_weights}
use Rattle.algebra.specs.Inside.WordSums.{reduced, between, IsPending}
use Rattle.algebra.proofs.Sums.{weigh-reduced, reduced-times_words, reduced-append}

-- the negative of a number
pub same_negative : (p c : ℕ) → 0 < p → c ≤ p → Same p (p - c) ((p - 1) * c)
same_negative p c pos le =
    let whole : c + (p - c) ≡ p = omega arith in
    let none : Same p p 0 = mod_self p ∙ sym (zero-mod p) in
    same_cancel p c (p - c) ((p - 1) * c) pos (same_refl p _ _ whole ∙ none ∙ sym (same_none p c pos))

-- the value of a sum does not depend on multiples of p in its numbers
pub word_value-reduced : (A : Algebra) → 1 < A.p → (f : WordSum) → word_value A (reduced A.p f) ≡ word_value A f
word_value-reduced A above_one f =
    same_weights A (word_value A (reduced A.p f)) (word_value A f) (word_value_is_polynomial A above_one (reduced A.p f)) (word_value_is_polynomial A above_one f)
    (λ φ. weigh-word_value A φ (reduced A.p f) ∙ weigh-reduced A.p (word_weight A φ) f ∙ sym (weigh-word_value A φ f))

-- sums that are pushed one after another
pub pushed : (p : ℕ) (a b c d e f w₀ w₁ w₂ w₃ w₄ w₅ w₆ : WordSum) → w₀ ≡ [] → w₁ ≡ w₀ ++ reduced p a → w₂ ≡ w₁ ++ reduced p b → w₃ ≡ w₂ ++ reduced p c
    → w₄ ≡ w₃ ++ reduced p d → w₅ ≡ w₄ ++ reduced p e → w₆ ≡ w₅ ++ reduced p f → w₆ ≡ reduced p (a ++ (b ++ (c ++ (d ++ (e ++ f)))))
pushed p a b c d e f w₀ w₁ w₂ w₃ w₄ w₅ w₆ e₀ e₁ e₂ e₃ e₄ e₅ e₆ =
    let one : w₁ ≡ reduced p a = e₁ ∙ ap (λ w. w ++ reduced p a) e₀ in
    let two : w₂ ≡ reduced p (a ++ b) = next w₁ w₂ a b one e₂ in
    let three : w₃ ≡ reduced p ((a ++ b) ++ c) = next w₂ w₃ (a ++ b) c two e₃ in
    let four : w₄ ≡ reduced p (((a ++ b) ++ c) ++ d) = next w₃ w₄ ((a ++ b) ++ c) d three e₄ in
    let five : w₅ ≡ reduced p ((((a ++ b) ++ c) ++ d) ++ e) = next w₄ w₅ (((a ++ b) ++ c) ++ d) e four e₅ in
    next w₅ w₆ ((((a ++ b) ++ c) ++ d) ++ e) f five e₆ ∙ ap (reduced p) (six_parts a b c d e f)
  where
    next : (v w x y : WordSum) → v ≡ reduced p x → w ≡ v ++ reduced p y → w ≡ reduced p (x ++ y)
    next v w x y h k = k ∙ ap (λ u. u ++ reduced p y) h ∙ sym (reduced-append p x y)

    six_parts : (a b c d e f : WordSum) → ((((a ++ b) ++ c) ++ d) ++ e) ++ f ≡ a ++ (b ++ (c ++ (d ++ (e ++ f))))
    six_parts a b c d e f = simp append_assoc

-- a part with a letter behind its words
pub with_last : (p q c e v : ℕ) (d f : Polynomial) → q ≡ p → d ≡ f → Same p c e
    → reduced q (between c [] d (v ∷ [])) ≡ reduced p (times_words e (λ m. sorted_word m ++ v ∷ []) f)
with_last p q c e v d f field same number =
    (λ i. reduced (field i) (between c [] (same i) (v ∷ [])))
    ∙ reduced-times_words p c e (λ m. sorted_word m ++ v ∷ []) (λ m. sorted_word m ++ v ∷ []) f number (λ m. refl)

-- a part with a letter before its words
pub with_first : (p q c e v : ℕ) (d f : Polynomial) → q ≡ p → d ≡ f → Same p c e
    → reduced q (between c (v ∷ []) d []) ≡ reduced p (times_words e (λ m. v ∷ sorted_word m) f)
with_first p q c e v d f field same number =
    (λ i. reduced (field i) (between c (v ∷ []) (same i) []))
    ∙ reduced-times_words p c e (λ m. v ∷ (sorted_word m ++ [])) (λ m. v ∷ sorted_word m) f number (λ m. ap (λ w. v ∷ w) (append-nil (sorted_word m)))

-- ---- what the words have

-- a word in n variables that is not too long
abbrev pub IsFit : ℕ → Word → Type 0
IsFit n w = IsWord n w × (length w ≤ 4095)

-- numbers modulo p of words that fit
pub IsPending-reduced : (p n : ℕ) (f : WordSum) → 0 < p → Each (λ t. IsFit n t.1) f → IsPending p n (reduced p f)
IsPending-reduced p n f pos h = record {
  numbers = Each-map (λ t. t.0 < p) (λ t. (t.0 % p, t.1)) f (Each-weaker _ _ (λ t fit. mod-lt t.0 pos) f h);
  words = Each-map (λ t. IsWord n t.1) (λ t. (t.0 % p, t.1)) f (Each-weaker _ _ (λ t fit. fit.0) f h);
  short = Each-map (λ t. length t.1 ≤ 4095) (λ t. (t.0 % p, t.1)) f (Each-weaker _ _ (λ t fit. fit.1) f h);
}

module _ (A : Algebra) (downward : RewritesDown A) where
  -- the words of d_ij with a letter behind or before them
  fit_last : (c i j v : ℕ) → 1 ≤ i → i < j → j ≤ A.order.vars → 1 ≤ v → v ≤ A.order.vars
      → Each (λ t. IsFit A.order.vars t.1) (times_words c (λ m. sorted_word m ++ v ∷ []) (d_of A i j))
  fit_last c i j v first pair last low high =
      Each-map (λ t. IsFit A.order.vars t.1) (λ t. (c * t.0, sorted_word t.1 ++ v ∷ [])) (d_of A i j)
      (Each-weaker _ _ (λ t small. (
        Each-append _ (sorted_word t.1) (v ∷ []) (IsWord-sorted_word A.order.vars t.1 small.0) ((low, high), tt),
        omega (arith, length-append (sorted_word t.1) (v ∷ []), length-word_from 1 t.1, small.1),
      )) (d_of A i j) (downward.small i j first pair last))

  fit_first : (c i j v : ℕ) → 1 ≤ i → i < j → j ≤ A.order.vars → 1 ≤ v → v ≤ A.order.vars
      → Each (λ t. IsFit A.order.vars t.1) (times_words c (λ m. v ∷ sorted_word m) (d_of A i j))
  fit_first c i j v first pair last low high =
      Each-map (λ t. IsFit A.order.vars t.1) (λ t. (c * t.0, v ∷ sorted_word t.1)) (d_of A i j)
      (Each-weaker _ _ (λ t small. (
        ((low, high), IsWord-sorted_word A.order.vars t.1 small.0),
        omega (arith, length-word_from 1 t.1, small.1),
      )) (d_of A i j) (downward.small i j first pair last))

  -- the words of a triple
  pub overlap_fits : (i j k : ℕ) → 1 ≤ i → i < j → j < k → k ≤ A.order.vars → Each (λ t. IsFit A.order.vars t.1) (overlap A i j k)
  overlap_fits i j k a b c d =
      let j_low : 1 ≤ j = omega arith in
      let j_high : j ≤ A.order.vars = omega arith in
      let k_low : 1 ≤ k = omega arith in
      let i_high : i ≤ A.order.vars = omega arith in
      let ik : i < k = omega arith in
      Each-append _ _ _ (fit_last _ i j k a b j_high k_low d)
      (Each-append _ _ _ (fit_first _ i j k a b j_high k_low d)
      (Each-append _ _ _ (fit_first _ i k j a ik d j_low j_high)
      (Each-append _ _ _ (fit_last _ i k j a ik d j_low j_high)
      (Each-append _ _ _ (fit_last _ j k i j_low c d a i_high)
      (fit_first _ j k i j_low c d a i_high)))))
