-- The degree of a product is at most the sum of the degrees.
use Rattle.std.proofs.Common.{◌≡◌, ℕ, ◌+◌, ◌≤◌, [], ◌∷◌, ◌++◌, length, sym, subst, arith, le_refl, length-append}
use Rattle.monomials.specs.Monomials.{Monomial, degree}
use Rattle.monomials.specs.Orders.{order_cmp}
use Rattle.monomials.specs.Polynomials.{Polynomial, HasVars, poly_degree, sum_over}
use Rattle.monomials.proofs.Keys.{Each-append, EachKey, EachKey-sum_over}
use Rattle.word_model.specs.Words.{Algebra, Word, WordSum, IsWord, sorted_word, rewritten, d_of, normal_form, word_value, RewritesDown}
use Rattle.word_model.specs.Products.{product}
use Rattle.word_model.proofs.Letters.{Each-map, Each-both, degree-monomial_of, length-word_from, IsWord-sorted_word}
use Rattle.word_model.proofs.Descents.{descent}
use Rattle.word_model.proofs.Termination.{normal_form-sorted, normal_form-descent}
use Rattle.word_model.proofs.Induction.{word_induction}

-- no monomial has a degree above b
abbrev pub HasDegrees : ℕ → Polynomial → Type 0
HasDegrees b f = EachKey (λ m. degree m ≤ b) f

-- no monomial has a degree above that of the polynomial
pub HasDegrees-poly_degree : (f : Polynomial) (b : ℕ) → poly_degree f ≤ b → HasDegrees b f
HasDegrees-poly_degree [] b h = tt
HasDegrees-poly_degree (t ∷ f) b h = (omega arith, HasDegrees-poly_degree f b (omega arith))

-- where no monomial has a degree above b, the polynomial has none
pub poly_degree-le : (f : Polynomial) (b : ℕ) → HasDegrees b f → poly_degree f ≤ b
poly_degree-le [] b h = omega arith
poly_degree-le (t ∷ f) b h = omega (arith, h.0, poly_degree-le f b h.1)

module _ (A : Algebra) (downward : RewritesDown A) where
  HasDegrees-word_value : (b : ℕ) (f : WordSum) → EachKey (λ w. HasDegrees b (normal_form A w)) f → HasDegrees b (word_value A f)
  unfolding word_value
  HasDegrees-word_value b f h = EachKey-sum_over (order_cmp A.order.rows) A.p (λ m. degree m ≤ b) (normal_form A) f h

  -- no monomial of a normal form has a degree above the length of the word
  pub normal_form-degree : (l : ℕ) (w : Word) → IsWord A.order.vars w → length w ≤ l → HasDegrees l (normal_form A w)
  normal_form-degree l =
      word_induction A downward l (λ w. HasDegrees l (normal_form A w))
      (λ w word short e.
      subst (HasDegrees l) (sym (normal_form-sorted A w e)) (omega (arith, degree-monomial_of A.order.vars w word), tt))
      (λ u j i v word short falls e swapped replaced.
      subst (HasDegrees l) (sym (normal_form-descent A downward (u ++ j ∷ i ∷ v) (descent u j i v) word e))
      (HasDegrees-word_value l (rewritten A (descent u j i v))
      (swapped, Each-map (λ t. HasDegrees l (normal_form A t.1)) (λ t. (t.0, u ++ (sorted_word t.1 ++ v))) (d_of A i j) replaced)))

  pair_degree : (b : ℕ) (x y : Monomial) → length x ≡ A.order.vars → length y ≡ A.order.vars → degree x + degree y ≤ b
      → HasDegrees b (normal_form A (sorted_word x ++ sorted_word y))
  pair_degree b x y hx hy h =
      normal_form-degree b (sorted_word x ++ sorted_word y)
      (Each-append _ (sorted_word x) (sorted_word y) (IsWord-sorted_word A.order.vars x hx) (IsWord-sorted_word A.order.vars y hy))
      (omega (arith, length-append (sorted_word x) (sorted_word y), length-word_from 1 x, length-word_from 1 y))

  row_degree : (b c : ℕ) (x : Monomial) (g : Polynomial) → length x ≡ A.order.vars → HasVars A.order.vars g → degree x ≤ b → HasDegrees c g
      → HasDegrees (b + c) (sum_over (order_cmp A.order.rows) A.p (λ y. normal_form A (sorted_word x ++ sorted_word y)) g)
  row_degree b c x g hx hg dx dg =
      EachKey-sum_over (order_cmp A.order.rows) A.p (λ m. degree m ≤ b + c) (λ y. normal_form A (sorted_word x ++ sorted_word y)) g
      (Each-both _ _ _ (λ u hy dy. pair_degree (b + c) x u.1 hx hy (omega (arith, dx, dy))) g hg dg)

  -- the degree of a product is at most the sum of the degrees
  pub poly_degree-product : (f g : Polynomial) → HasVars A.order.vars f → HasVars A.order.vars g → poly_degree (product A f g) ≤ poly_degree f + poly_degree g
  unfolding product
  poly_degree-product f g hf hg =
      poly_degree-le (product A f g) (poly_degree f + poly_degree g)
      (EachKey-sum_over (order_cmp A.order.rows) A.p (λ m. degree m ≤ poly_degree f + poly_degree g)
      (λ x. sum_over (order_cmp A.order.rows) A.p (λ y. normal_form A (sorted_word x ++ sorted_word y)) g) f
      (Each-both _ _ _
      (λ t hx dx. row_degree (poly_degree f) (poly_degree g) t.1 g hx hg dx (HasDegrees-poly_degree g (poly_degree g) (le_refl (poly_degree g))))
      f hf (HasDegrees-poly_degree f (poly_degree f) (le_refl (poly_degree f)))))
