-- Multiples and units of products, and rewriting in sums of words.
use Rattle.std.proofs.Common.{◌≡◌, ◌≢◌, ℕ, ◌+◌, ◌*◌, ◌<◌, [], ◌∷◌, ◌++◌, length, map, refl, sym, ap, ◌∙◌, arith, append-nil}
use Rattle.monomials.specs.Leading.{leading_coefficient}
use Rattle.monomials.specs.Monomials.{Monomial, one}
use Rattle.monomials.specs.Polynomials.{Polynomial, IsPolynomial, poly_scale}
use Rattle.monomials.proofs.Modulo.{same_refl, same_add, same_mul}
use Rattle.monomials.proofs.Weights.{weigh, weigh-append, weigh_alike, weigh_alike_on, weigh-times, weigh-scaled, weigh-poly_scale}
use Rattle.monomials.proofs.Keys.{Each-weaker}
use Rattle.monomials.proofs.Operations.{IsPolynomial-poly_scale}
use Rattle.word_model.specs.Words.{Algebra, Word, WordSum, IsWord, sorted_word, rewritten, word_value}
use Rattle.word_model.specs.Products.{product}
use Rattle.word_model.specs.Conditions.{NonZero, IsGAlgebra}
use Rattle.word_model.proofs.Letters.{monomial_of-sorted_word, word_from-zeros}
use Rattle.word_model.proofs.Descents.{descent, leftmost_descent-sorted_word}
use Rattle.word_model.proofs.Termination.{normal_form-sorted}
use Rattle.word_model.proofs.NormalForms.{word_weight, row_weight, weigh-word_value, weigh-product, product_is_polynomial, word_value_is_polynomial, same_weights}
use Rattle.word_model.proofs.Confluence.{normal_form-pair}
use Rattle.word_model.proofs.LeadingMonomials.{NonZero-below, leading_monomial-product}

module _ (A : Algebra) (above_one : 1 < A.p) where
  -- ---- multiples

  -- the product with a multiple of the first factor
  pub product-scale_left : (k : ℕ) (f g : Polynomial) → product A (poly_scale A.p k f) g ≡ poly_scale A.p k (product A f g)
  product-scale_left k f g =
      same_weights A _ _ (product_is_polynomial A above_one (poly_scale A.p k f) g)
      (IsPolynomial-poly_scale A.p A.order (omega arith) k (product A f g) (product_is_polynomial A above_one f g))
      (λ φ.
      weigh-product A φ (poly_scale A.p k f) g
      ∙ weigh-poly_scale A.p (row_weight A φ g) k f
      ∙ same_mul A.p k _ _ (sym (weigh-product A φ f g))
      ∙ sym (weigh-poly_scale A.p φ k (product A f g)))

  -- the product with a multiple of the second factor
  pub product-scale_right : (k : ℕ) (f g : Polynomial) → product A f (poly_scale A.p k g) ≡ poly_scale A.p k (product A f g)
  product-scale_right k f g =
      same_weights A _ _ (product_is_polynomial A above_one f (poly_scale A.p k g))
      (IsPolynomial-poly_scale A.p A.order (omega arith) k (product A f g) (product_is_polynomial A above_one f g))
      (λ φ.
      weigh-product A φ f (poly_scale A.p k g)
      ∙ weigh_alike A.p _ _ (λ a. weigh-poly_scale A.p (λ b. word_weight A φ (sorted_word a ++ sorted_word b)) k g) f
      ∙ same_refl A.p _ _ (weigh-scaled k (row_weight A φ g) f)
      ∙ same_mul A.p k _ _ (sym (weigh-product A φ f g))
      ∙ sym (weigh-poly_scale A.p φ k (product A f g)))

  -- ---- units

  -- the polynomial 1
  abbrev unit : Polynomial
  unit = (1, one A.order.vars) ∷ []

  -- a sorted word weighs what its monomial does
  word_weight-monomial : (φ : Monomial → ℕ) (m : Monomial) → length m ≡ A.order.vars → word_weight A φ (sorted_word m) ≡ φ m
  word_weight-monomial φ m e =
      ap (weigh φ) (normal_form-sorted A (sorted_word m) (leftmost_descent-sorted_word m))
      ∙ omega (arith, ap φ (monomial_of-sorted_word A.order.vars m e))

  -- what has its weight is the polynomial itself
  pub product-one_right : (f : Polynomial) → IsPolynomial A.p A.order f → product A f unit ≡ f
  product-one_right f h =
      same_weights A _ _ (product_is_polynomial A above_one f unit) h
      (λ φ.
      weigh-product A φ f unit
      ∙ weigh_alike_on A.p (row_weight A φ unit) φ f (Each-weaker _ _ (λ t len. same_refl A.p _ _ (alone φ t.1 len)) f h.vars))
    where
      alone : (φ : Monomial → ℕ) (a : Monomial) → length a ≡ A.order.vars → row_weight A φ unit a ≡ φ a
      alone φ a len =
          let nothing : sorted_word a ++ sorted_word (one A.order.vars) ≡ sorted_word a =
          ap (λ w. sorted_word a ++ w) (word_from-zeros 1 A.order.vars) ∙ append-nil (sorted_word a) in
          omega (arith, ap (word_weight A φ) nothing, word_weight-monomial φ a len)

  pub product-one_left : (f : Polynomial) → IsPolynomial A.p A.order f → product A unit f ≡ f
  product-one_left f h =
      same_weights A _ _ (product_is_polynomial A above_one unit f) h
      (λ φ.
      weigh-product A φ unit f
      ∙ same_refl A.p _ _ (omega arith)
      ∙ weigh_alike_on A.p _ φ f (Each-weaker _ _ (λ t len. same_refl A.p _ _ (alone φ t.1 len)) f h.vars))
    where
      alone : (φ : Monomial → ℕ) (b : Monomial) → length b ≡ A.order.vars → word_weight A φ (sorted_word (one A.order.vars) ++ sorted_word b) ≡ φ b
      alone φ b len = ap (λ w. word_weight A φ (w ++ sorted_word b)) (word_from-zeros 1 A.order.vars) ∙ word_weight-monomial φ b len

-- ---- sums of words

module _ (A : Algebra) (accepted : IsGAlgebra A) where
  -- a word of a sum may be replaced by what any two of its letters in descending order are rewritten to
  pub word_value-pair : (f : WordSum) (k : ℕ) (u : Word) (j i : ℕ) (v : Word) (g : WordSum) → IsWord A.order.vars (u ++ j ∷ i ∷ v) → i < j
      → word_value A (f ++ (k, u ++ j ∷ i ∷ v) ∷ g) ≡ word_value A (f ++ (map (λ t. (k * t.0, t.1)) (rewritten A (descent u j i v)) ++ g))
  word_value-pair f k u j i v g word ij =
      let w : Word = u ++ j ∷ i ∷ v in
      let s : WordSum = rewritten A (descent u j i v) in
      let ks : WordSum = map (λ t. (k * t.0, t.1)) s in
      same_weights A _ _ (word_value_is_polynomial A accepted.field.more (f ++ (k, w) ∷ g)) (word_value_is_polynomial A accepted.field.more (f ++ (ks ++ g)))
      (λ φ.
      let ψ : Word → ℕ = word_weight A φ in
      weigh-word_value A φ (f ++ (k, w) ∷ g)
      ∙ same_refl A.p _ _ (weigh-append ψ f ((k, w) ∷ g))
      ∙ same_add A.p _ _ _ _ refl
      (same_add A.p _ _ _ _
      (same_mul A.p k _ _ (same_refl A.p _ _ (ap (weigh φ) (normal_form-pair A accepted.downward accepted.confluent accepted.field.more u j i v word ij)) ∙ weigh-word_value A φ s)) refl)
      ∙ same_refl A.p _ _ (sym (weigh-append ψ f (ks ++ g) ∙ ap (λ x. weigh ψ f + x) (weigh-append ψ ks g ∙ ap (λ x. x + weigh ψ g) (weigh-times ψ k (λ v. v) s))))
      ∙ sym (weigh-word_value A φ (f ++ (ks ++ g))))

-- ---- leading numbers

-- the first number of a nonzero polynomial is not zero
NonZero-leading : (A : Algebra) (f : Polynomial) → IsPolynomial A.p A.order f → f ≢ [] → NonZero A.p (leading_coefficient f)
NonZero-leading A [] h some = absurd (some refl)
NonZero-leading A (t ∷ f) h some = NonZero-below A.p t.0 h.canonical.0 h.canonical.1

-- the leading number of a product of nonzero polynomials is not zero
pub leading_coefficient-product : (A : Algebra) → IsGAlgebra A → (f g : Polynomial) → IsPolynomial A.p A.order f → IsPolynomial A.p A.order g → f ≢ [] → g ≢ []
    → NonZero A.p (leading_coefficient (product A f g))
leading_coefficient-product A accepted f g hf hg fs gs =
    NonZero-leading A (product A f g) (product_is_polynomial A accepted.field.more f g)
    (leading_monomial-product A accepted.field accepted.downward accepted.nonzero f g fs gs hf hg).0
