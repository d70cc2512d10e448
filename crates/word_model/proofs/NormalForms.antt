-- Normal forms and products are polynomials, and what their terms weigh.
use Rattle.std.proofs.Common.{◌≡◌, ℕ, zero, suc, ◌<◌, ◌≤◌, List, [], ◌∷◌, ◌++◌, length, Option, Some, None, sym, ap, ◌∙◌, arith}
use Rattle.monomials.specs.Monomials.{Monomial}
use Rattle.monomials.specs.Orders.{order_cmp}
use Rattle.monomials.specs.Polynomials.{Polynomial, Each, HasVars, IsPolynomial, sum_over}
use Rattle.monomials.proofs.Modulo.{Same, same_refl}
use Rattle.monomials.proofs.Weights.{weigh, weigh_alike, weigh_equal, weigh-map_key, weigh-sum_over}
use Rattle.monomials.proofs.Canonical.{same_poly}
use Rattle.monomials.proofs.OrderLaws.{order_cmp_total, order_cmp_tied}
use Rattle.monomials.proofs.Operations.{IsPolynomial-sum_over}
use Rattle.word_model.specs.Words.{Algebra, Word, WordSum, IsWord, sorted_word, Descent, leftmost_descent, rewritten, rewriting_step, normal_form_within, normal_form, enough, word_value, RewritesDown}
use Rattle.word_model.specs.Products.{product, variable_polynomial, with_letter}
use Rattle.word_model.proofs.Letters.{length-counts_from, monomial_of-sorted_word, sorted_word-variable}
use Rattle.word_model.proofs.Descents.{leftmost_descent-sorted_word}
use Rattle.word_model.proofs.Termination.{normal_form-sorted, normal_form-descent}

-- what holds of each element holds of all of a list
pub Each-always : {X : Type 0} (P : X → Type 0) → ((x : X) → P x) → (xs : List X) → Each P xs
Each-always P h [] = tt
Each-always P h (x ∷ xs) = (h x, Each-always P h xs)

module _ (A : Algebra) (above_one : 1 < A.p) where
  within_is_polynomial : (k : ℕ) (w : Word) → IsPolynomial A.p A.order (normal_form_within A k w)
  unfolding normal_form_within
  within_is_polynomial zero w = record { canonical = tt; vars = tt }
  within_is_polynomial (suc k) w = by (leftmost_descent w) (within_is_polynomial k)
    where
      by : (r : Option Descent) → ((v : Word) → IsPolynomial A.p A.order (normal_form_within A k v)) → IsPolynomial A.p A.order (rewriting_step A (normal_form_within A k) w r)
      by None ih = record { canonical = (omega arith, above_one, tt, tt); vars = (length-counts_from 1 A.order.vars w, tt) }
      by (Some s) ih =
          IsPolynomial-sum_over A.p A.order (omega arith) (normal_form_within A k) (rewritten A s)
          (Each-always (λ t. HasVars A.order.vars (normal_form_within A k t.1)) (λ t. (ih t.1).vars) (rewritten A s))

  -- a normal form is a polynomial
  pub normal_form_is_polynomial : (w : Word) → IsPolynomial A.p A.order (normal_form A w)
  unfolding normal_form
  normal_form_is_polynomial w = within_is_polynomial (enough A.order.vars (length w)) w

  -- so is the value of a sum of words
  pub word_value_is_polynomial : (f : WordSum) → IsPolynomial A.p A.order (word_value A f)
  unfolding word_value
  word_value_is_polynomial f =
      IsPolynomial-sum_over A.p A.order (omega arith) (normal_form A) f
      (Each-always (λ t. HasVars A.order.vars (normal_form A t.1)) (λ t. (normal_form_is_polynomial t.1).vars) f)

  -- so is a product
  pub product_is_polynomial : (f g : Polynomial) → IsPolynomial A.p A.order (product A f g)
  unfolding product
  product_is_polynomial f g =
      IsPolynomial-sum_over A.p A.order (omega arith) (λ a. sum_over (order_cmp A.order.rows) A.p (λ b. normal_form A (sorted_word a ++ sorted_word b)) g) f
      (Each-always (λ t. HasVars A.order.vars (row t.1)) (λ t. (row_is_polynomial t.1).vars) f)
    where
      row : Monomial → Polynomial
      row a = sum_over (order_cmp A.order.rows) A.p (λ b. normal_form A (sorted_word a ++ sorted_word b)) g

      row_is_polynomial : (a : Monomial) → IsPolynomial A.p A.order (sum_over (order_cmp A.order.rows) A.p (λ b. normal_form A (sorted_word a ++ sorted_word b)) g)
      row_is_polynomial a =
          IsPolynomial-sum_over A.p A.order (omega arith) (λ b. normal_form A (sorted_word a ++ sorted_word b)) g
          (Each-always (λ t. HasVars A.order.vars (normal_form A (sorted_word a ++ sorted_word t.1))) (λ t. (normal_form_is_polynomial (sorted_word a ++ sorted_word t.1)).vars) g)

-- ---- weights

module _ (A : Algebra) (φ : Monomial → ℕ) where
  -- the weight of a word's normal form
  abbrev pub word_weight : Word → ℕ
  word_weight w = weigh φ (normal_form A w)

  -- the weight of a sum's value is that of its words
  pub weigh-word_value : (f : WordSum) → Same A.p (weigh φ (word_value A f)) (weigh word_weight f)
  unfolding word_value
  weigh-word_value f = weigh-sum_over (order_cmp A.order.rows) (order_cmp_tied A.order.rows) A.p φ (normal_form A) f

  -- a word weighs as much as the words that it is rewritten to
  pub word_weight-descent : RewritesDown A → (w : Word) (s : Descent) → IsWord A.order.vars w → leftmost_descent w ≡ Some s
      → Same A.p (word_weight w) (weigh word_weight (rewritten A s))
  word_weight-descent downward w s word e = same_refl A.p _ _ (ap (weigh φ) (normal_form-descent A downward w s word e)) ∙ weigh-word_value (rewritten A s)

  -- the weight of a monomial's products with the terms of g
  abbrev pub row_weight : Polynomial → Monomial → ℕ
  row_weight g a = weigh (λ b. word_weight (sorted_word a ++ sorted_word b)) g

  -- the weight of a product is that of the words of its pairs of terms
  pub weigh-product : (f g : Polynomial) → Same A.p (weigh φ (product A f g)) (weigh (row_weight g) f)
  unfolding product
  weigh-product f g =
      weigh-sum_over (order_cmp A.order.rows) (order_cmp_tied A.order.rows) A.p φ (λ a. sum_over (order_cmp A.order.rows) A.p (λ b. normal_form A (sorted_word a ++ sorted_word b)) g) f
      ∙ weigh_alike A.p _ _ (λ a. weigh-sum_over (order_cmp A.order.rows) (order_cmp_tied A.order.rows) A.p φ (λ b. normal_form A (sorted_word a ++ sorted_word b)) g) f

-- ---- products by a variable

-- polynomials of an algebra that weigh alike are equal
pub same_weights : (A : Algebra) (f g : Polynomial) → IsPolynomial A.p A.order f → IsPolynomial A.p A.order g
    → ((φ : Monomial → ℕ) → Same A.p (weigh φ f) (weigh φ g)) → f ≡ g
same_weights A f g hf hg e = same_poly (order_cmp A.order.rows) (order_cmp_total A.order.rows) (order_cmp_tied A.order.rows) A.p f g hf.canonical hg.canonical e

-- the product by a variable is the value of the words with its letter behind them
pub product-variable : (A : Algebra) → 1 < A.p → (f : Polynomial) (v : ℕ) → 1 ≤ v → product A f (variable_polynomial A v) ≡ word_value A (with_letter v f)
product-variable A above_one f v h =
    same_weights A (product A f (variable_polynomial A v)) (word_value A (with_letter v f))
    (product_is_polynomial A above_one f (variable_polynomial A v)) (word_value_is_polynomial A above_one (with_letter v f))
    (λ φ.
    weigh-product A φ f (variable_polynomial A v)
    ∙ same_refl A.p _ _ (weigh_equal _ _ (letter φ) f ∙ sym (weigh-map_key (word_weight A φ) (λ m. sorted_word m ++ v ∷ []) f))
    ∙ sym (weigh-word_value A φ (with_letter v f)))
  where
    letter : (φ : Monomial → ℕ) (a : Monomial) → weigh (λ b. word_weight A φ (sorted_word a ++ sorted_word b)) (variable_polynomial A v) ≡ word_weight A φ (sorted_word a ++ v ∷ [])
    letter φ a = omega (arith, ap (λ w. word_weight A φ (sorted_word a ++ w)) (sorted_word-variable A.order.vars v h))

-- the weight of a sorted word is that of its monomial
pub word_weight-sorted : (A : Algebra) (φ : Monomial → ℕ) (m : Monomial) → length m ≡ A.order.vars → word_weight A φ (sorted_word m) ≡ φ m
word_weight-sorted A φ m e =
    ap (weigh φ) (normal_form-sorted A (sorted_word m) (leftmost_descent-sorted_word m))
    ∙ omega (arith, ap φ (monomial_of-sorted_word A.order.vars m e))
