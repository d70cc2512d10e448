-- Whichever descent of a word is rewritten first, its normal form is the same.
use Rattle.std.proofs.Common.{◌≡◌, ℕ, zero, suc, ◌<◌, ◌≤◌, [], ◌∷◌, ◌++◌, length, Some, sym, ap, ◌∙◌, subst, arith, append_assoc, le_refl}
use Rattle.monomials.specs.Monomials.{Monomial}
use Rattle.monomials.specs.Orders.{order_cmp}
use Rattle.monomials.proofs.Modulo.{Same, same_refl}
use Rattle.monomials.proofs.Canonical.{same_poly}
use Rattle.monomials.proofs.OrderLaws.{order_cmp_total, order_cmp_tied}
use Rattle.word_model.specs.Words.{Algebra, Word, IsWord, sorted_word, Descent, leftmost_descent, rewritten, normal_form, word_value, RewritesDown}
use Rattle.word_model.specs.Conditions.{IsConfluent}
use Rattle.word_model.proofs.Descents.{descent}
use Rattle.word_model.proofs.Places.{Place, place}
use Rattle.word_model.proofs.Termination.{measure}
use Rattle.word_model.proofs.NormalForms.{word_weight, weigh-word_value, normal_form_is_polynomial, word_value_is_polynomial}
use Rattle.word_model.proofs.Rules.{rule_of, by_descent, weigh-rewritten, AnyPair}
use Rattle.word_model.proofs.Inside.{inside}
use Rattle.word_model.proofs.Apart.{apart}
use Rattle.word_model.proofs.Overlaps.{second_is, one_letter_more, touching}

module _ (A : Algebra) (downward : RewritesDown A) (confluent : IsConfluent A) (above_one : 1 < A.p) where
  module _ (l k : ℕ) (any : AnyPair A l k) (φ : Monomial → ℕ) (j i : ℕ) (v : Word) (ij : i < j) where
    -- behind u the letters j i may be rewritten first, where s is the leftmost descent
    abbrev MayGo : Descent → Word → Type 0
    MayGo s u =
        IsWord A.order.vars (u ++ j ∷ i ∷ v) → length (u ++ j ∷ i ∷ v) ≤ l → measure A l (u ++ j ∷ i ∷ v) ≤ k → leftmost_descent (u ++ j ∷ i ∷ v) ≡ Some s
        → Same A.p (word_weight A φ (u ++ j ∷ i ∷ v)) (rule_of A (word_weight A φ) u j i v)

    at_touching : (a : Word) (x : ℕ) → j < x → MayGo (descent a x j (i ∷ v)) (a ++ x ∷ [])
    at_touching a x jx word short below e =
        let same : (a ++ x ∷ []) ++ j ∷ i ∷ v ≡ a ++ x ∷ j ∷ i ∷ v = one_letter_more a x (j ∷ i ∷ v) in
        same_refl A.p _ _ (ap (word_weight A φ) same)
        ∙ touching A downward confluent (omega arith) l k any φ a x j i v (subst (IsWord A.order.vars) same word) (subst (λ w. length w ≤ l) same short) jx ij
        (subst (λ w. measure A l w ≤ k) same below) (subst (λ w. leftmost_descent w ≡ Some (descent a x j (i ∷ v))) same e)
        ∙ same_refl A.p _ _ (sym (second_is A (word_weight A φ) a x j i v))

    at_apart : (a : Word) (h g : ℕ) (b : Word) → g < h → MayGo (descent a h g (b ++ j ∷ i ∷ v)) (a ++ h ∷ g ∷ b)
    at_apart a h g b gh word short below e =
        apart A downward l k any φ a h g b j i v word short ij gh below
        (subst (λ w. leftmost_descent w ≡ Some (descent a h g (b ++ j ∷ i ∷ v))) (append_assoc a (h ∷ g ∷ b) (j ∷ i ∷ v)) e)

    may_go : (u : Word) → Place u j i v → IsWord A.order.vars (u ++ j ∷ i ∷ v) → length (u ++ j ∷ i ∷ v) ≤ l → measure A l (u ++ j ∷ i ∷ v) ≤ k
        → Same A.p (word_weight A φ (u ++ j ∷ i ∷ v)) (rule_of A (word_weight A φ) u j i v)
    may_go u (Place.Here e) word short below = by_descent A downward φ u j i v word e
    may_go u (Place.Touching a x is jx e) word short below = subst (MayGo (descent a x j (i ∷ v))) (sym is) (at_touching a x jx) word short below e
    may_go u (Place.Apart a h g b is gh e) word short below = subst (MayGo (descent a h g (b ++ j ∷ i ∷ v))) (sym is) (at_apart a h g b gh) word short below e

  -- any two letters in descending order may be rewritten first
  pub any_pair : (l k : ℕ) → AnyPair A l k
  any_pair l zero u j i v word short ij below φ = absurd (omega arith)
  any_pair l (suc k) u j i v word short ij below φ =
      may_go l k (any_pair l k) φ j i v ij u (place u j i v ij) word short (omega arith)

  -- a part of a word may be brought to its normal form first
  pub word_weight-inside : (φ : Monomial → ℕ) (a s b : Word) → IsWord A.order.vars (a ++ (s ++ b))
      → Same A.p (word_weight A φ (a ++ (s ++ b))) (word_weight A (λ m. word_weight A φ (a ++ (sorted_word m ++ b))) s)
  word_weight-inside φ a s b word =
      let l : ℕ = length (a ++ (s ++ b)) in
      let k : ℕ = suc (measure A l (a ++ (s ++ b))) in
      inside A downward l k (any_pair l k) φ a b s word (le_refl l) (omega arith)

  -- the normal form of a word is the value of what any two letters in descending order are rewritten to
  pub normal_form-pair : (u : Word) (j i : ℕ) (v : Word) → IsWord A.order.vars (u ++ j ∷ i ∷ v) → i < j
      → normal_form A (u ++ j ∷ i ∷ v) ≡ word_value A (rewritten A (descent u j i v))
  normal_form-pair u j i v word ij =
      let w : Word = u ++ j ∷ i ∷ v in
      same_poly (order_cmp A.order.rows) (order_cmp_total A.order.rows) (order_cmp_tied A.order.rows) A.p _ _
      (normal_form_is_polynomial A above_one w).canonical (word_value_is_polynomial A above_one (rewritten A (descent u j i v))).canonical
      (λ φ.
      any_pair (length w) (suc (measure A (length w) w)) u j i v word (le_refl (length w)) ij (omega arith) φ
      ∙ same_refl A.p _ _ (sym (weigh-rewritten A (word_weight A φ) u j i v))
      ∙ sym (weigh-word_value A φ (rewritten A (descent u j i v))))
