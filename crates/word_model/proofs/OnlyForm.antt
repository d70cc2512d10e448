-- The normal form is the only function with its two equations.
use Rattle.std.proofs.Common.{◌≡◌, ℕ, [], ◌∷◌, ◌++◌, length, Some, None, sym, ◌∙◌, le_refl}
use Rattle.monomials.specs.Orders.{order_cmp}
use Rattle.monomials.specs.Polynomials.{Polynomial, Each, sum_over}
use Rattle.word_model.specs.Words.{Algebra, Word, IsWord, monomial_of, sorted_word, leftmost_descent, d_of, rewritten, Descent, normal_form, word_value, RewritesDown}
use Rattle.word_model.proofs.Descents.{descent}
use Rattle.word_model.proofs.Letters.{Each-map}
use Rattle.word_model.proofs.Termination.{sum_alike, normal_form-sorted, normal_form-descent}
use Rattle.word_model.proofs.Induction.{word_induction}

module _ (A : Algebra) (value : Word → Polynomial) (downward : RewritesDown A)
    (at_sorted : (w : Word) → IsWord A.order.vars w → leftmost_descent w ≡ None → value w ≡ (1, monomial_of A.order.vars w) ∷ [])
    (at_descent : (w : Word) (s : Descent) → IsWord A.order.vars w → leftmost_descent w ≡ Some s → value w ≡ sum_over (order_cmp A.order.rows) A.p value (rewritten A s)) where
  alike : (u : Word) (j i : ℕ) (v : Word) → IsWord A.order.vars (u ++ j ∷ i ∷ v) → leftmost_descent (u ++ j ∷ i ∷ v) ≡ Some (descent u j i v)
      → value (u ++ i ∷ j ∷ v) ≡ normal_form A (u ++ i ∷ j ∷ v)
      → Each (λ t. value (u ++ (sorted_word t.1 ++ v)) ≡ normal_form A (u ++ (sorted_word t.1 ++ v))) (d_of A i j)
      → value (u ++ j ∷ i ∷ v) ≡ normal_form A (u ++ j ∷ i ∷ v)
  unfolding word_value
  alike u j i v word e swapped replaced =
      at_descent (u ++ j ∷ i ∷ v) (descent u j i v) word e
      ∙ sum_alike (order_cmp A.order.rows) A.p value (normal_form A) (rewritten A (descent u j i v))
      (swapped, Each-map (λ t. value t.1 ≡ normal_form A t.1) (λ t. (t.0, u ++ (sorted_word t.1 ++ v))) (d_of A i j) replaced)
      ∙ sym (normal_form-descent A downward (u ++ j ∷ i ∷ v) (descent u j i v) word e)

  -- a function with both equations gives each word its normal form
  pub only_form : (w : Word) → IsWord A.order.vars w → value w ≡ normal_form A w
  only_form w word =
      word_induction A downward (length w) (λ w. value w ≡ normal_form A w)
      (λ w word short e. at_sorted w word e ∙ sym (normal_form-sorted A w e))
      (λ u j i v word short falls e swapped replaced. alike u j i v word e swapped replaced)
      w word (le_refl (length w))
