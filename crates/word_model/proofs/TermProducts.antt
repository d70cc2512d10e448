-- Products with a term, by the letters of its sorted word, and products as sums of those.
use Rattle.std.proofs.Common.{◌≡◌, ◌≢◌, ℕ, zero, suc, ◌+◌, ◌*◌, ◌<◌, ◌≤◌, [], ◌∷◌, ◌++◌, length, refl, sym, ap, ◌∙◌, subst, arith, append_assoc, append-nil, mod-eq_of_lt}
use Rattle.std.specs.declared.cmp.Ordering.{Ordering}
use Rattle.monomials.specs.Monomials.{Monomial, degree, variable}
use Rattle.monomials.specs.Orders.{order_cmp}
use Rattle.monomials.specs.Polynomials.{Polynomial, HasVars, IsPolynomial, cons_nonzero, from_terms, poly_add, poly_scale, poly_degree, sum_over}
use Rattle.monomials.proofs.Modulo.{Same, same_refl, same_add}
use Rattle.monomials.proofs.Weights.{weigh, weigh-append, weigh-sum, weigh-scaled, weigh_equal, weigh-map_key, weigh_alike_on, weigh-poly_scale, weigh-poly_add}
use Rattle.monomials.proofs.OrderLaws.{order_cmp_tied}
use Rattle.monomials.proofs.Keys.{Each-append, Each-weaker, HasVars-poly_scale}
use Rattle.monomials.proofs.Operations.{IsPolynomial-poly_add, IsPolynomial-poly_scale}
use Rattle.word_model.specs.Words.{Algebra, Word, IsWord, sorted_word, RewritesDown}
use Rattle.word_model.specs.Products.{product, variable_polynomial, times_letters, with_letter}
use Rattle.word_model.specs.Conditions.{IsConfluent}
use Rattle.word_model.proofs.Letters.{IsWord-sorted_word, sorted_word-variable, length-word_from}
use Rattle.word_model.proofs.NormalForms.{word_weight, word_weight-sorted, row_weight, weigh-word_value, weigh-product, product_is_polynomial, same_weights, product-variable}
use Rattle.word_model.proofs.Degrees.{poly_degree-product}
use Rattle.word_model.proofs.Associativity.{length-variable, first_part}

-- one term with a number that is not zero
pub one_term : (cmp : Monomial → Monomial → Ordering) (p c : ℕ) (m : Monomial) → c < p → c ≢ 0 → from_terms cmp p ((c, m) ∷ []) ≡ (c, m) ∷ []
one_term cmp p zero m below nonzero = absurd (nonzero refl)
one_term cmp p (suc c) m below nonzero = ap (λ k. cons_nonzero k m []) (mod-eq_of_lt below)

-- the product with nothing is nothing
pub product-zero : (A : Algebra) (f : Polynomial) → product A f [] ≡ []
unfolding product
product-zero A f = nothing f
  where
    nothing : (f : Polynomial) → sum_over (order_cmp A.order.rows) A.p (λ (a : Monomial). []) f ≡ []
    nothing [] = refl
    nothing (t ∷ f) = nothing f

-- the degree of a variable is 1
pub degree-variable : (n v : ℕ) → 1 ≤ v → degree (variable n v) ≡ 1
degree-variable n v h = sym (length-word_from 1 (variable n v)) ∙ ap length (sorted_word-variable n v h)

-- the product with a variable has at most one degree more
pub poly_degree-variable : (A : Algebra) → RewritesDown A → (f : Polynomial) (v : ℕ) → HasVars A.order.vars f → 1 ≤ v → v ≤ A.order.vars
    → poly_degree (product A f (variable_polynomial A v)) ≤ poly_degree f + 1
poly_degree-variable A downward f v vars low high =
    omega (arith, poly_degree-product A downward f (variable_polynomial A v) vars (length-variable A.order.vars v low high, tt), degree-variable A.order.vars v low)

module _ (A : Algebra) (above_one : 1 < A.p) where
  -- the product with two lists of terms, one after the other
  pub product-append : (f g h : Polynomial) → product A f (g ++ h) ≡ poly_add (order_cmp A.order.rows) A.p (product A f g) (product A f h)
  product-append f g h =
      same_weights A _ _ (product_is_polynomial A above_one f (g ++ h))
      (IsPolynomial-poly_add A.p A.order (omega arith) (product A f g) (product A f h) (product_is_polynomial A above_one f g) (product_is_polynomial A above_one f h))
      (λ φ.
      weigh-product A φ f (g ++ h)
      ∙ same_refl A.p _ _ (weigh_equal _ _ (λ a. weigh-append (λ b. word_weight A φ (sorted_word a ++ sorted_word b)) g h) f
      ∙ weigh-sum (row_weight A φ g) (row_weight A φ h) f)
      ∙ same_add A.p _ _ _ _ (sym (weigh-product A φ f g)) (sym (weigh-product A φ f h))
      ∙ sym (weigh-poly_add (order_cmp A.order.rows) (order_cmp_tied A.order.rows) A.p φ (product A f g) (product A f h)))

  -- the product with letters is a polynomial
  pub times_letters_is_polynomial : (f : Polynomial) (w : Word) → IsPolynomial A.p A.order f → IsPolynomial A.p A.order (times_letters A f w)
  times_letters_is_polynomial f [] h = h
  times_letters_is_polynomial f (v ∷ w) h =
      times_letters_is_polynomial (product A f (variable_polynomial A v)) w (product_is_polynomial A above_one f (variable_polynomial A v))

  -- the weight of a product with a variable is that of the words with its letter behind them
  weigh-variable : (φ : Monomial → ℕ) (f : Polynomial) (v : ℕ) → 1 ≤ v
      → Same A.p (weigh φ (product A f (variable_polynomial A v))) (weigh (λ a. word_weight A φ (sorted_word a ++ v ∷ [])) f)
  weigh-variable φ f v h =
      same_refl A.p _ _ (ap (weigh φ) (product-variable A above_one f v h))
      ∙ weigh-word_value A φ (with_letter v f)
      ∙ same_refl A.p _ _ (weigh-map_key (word_weight A φ) (λ m. sorted_word m ++ v ∷ []) f)

  module _ (downward : RewritesDown A) (confluent : IsConfluent A) where
    -- the weight of a product with letters is that of the words with the letters behind them
    weigh-times_letters : (φ : Monomial → ℕ) (w : Word) (f : Polynomial) → HasVars A.order.vars f → IsWord A.order.vars w
        → Same A.p (weigh φ (times_letters A f w)) (weigh (λ a. word_weight A φ (sorted_word a ++ w)) f)
    weigh-times_letters φ [] f vars word =
        weigh_alike_on A.p φ (λ a. word_weight A φ (sorted_word a ++ [])) f
        (Each-weaker _ _ (λ t len. same_refl A.p _ _ (sym (ap (word_weight A φ) (append-nil (sorted_word t.1)) ∙ word_weight-sorted A φ t.1 len))) f vars)
    weigh-times_letters φ (v ∷ w) f vars word =
        weigh-times_letters φ w (product A f (variable_polynomial A v)) (product_is_polynomial A above_one f (variable_polynomial A v)).vars word.1
        ∙ weigh-variable (λ a. word_weight A φ (sorted_word a ++ w)) f v word.0.0
        ∙ weigh_alike_on A.p _ (λ a. word_weight A φ (sorted_word a ++ v ∷ w)) f (Each-weaker _ _ (λ t len. moved t.1 len) f vars)
      where
        moved : (m : Monomial) → length m ≡ A.order.vars
            → Same A.p (word_weight A (λ a. word_weight A φ (sorted_word a ++ w)) (sorted_word m ++ v ∷ [])) (word_weight A φ (sorted_word m ++ v ∷ w))
        moved m len =
            let same : (sorted_word m ++ v ∷ []) ++ w ≡ sorted_word m ++ v ∷ w = append_assoc (sorted_word m) (v ∷ []) w in
            let whole : IsWord A.order.vars (sorted_word m ++ v ∷ w) = Each-append _ (sorted_word m) (v ∷ w) (IsWord-sorted_word A.order.vars m len) word in
            sym (first_part A downward confluent above_one φ (sorted_word m ++ v ∷ []) w (subst (IsWord A.order.vars) (sym same) whole))
            ∙ same_refl A.p _ _ (ap (word_weight A φ) same)

    -- the product with a term is the multiple by its number, times the letters of its sorted word
    pub product-term : (f : Polynomial) (k : ℕ) (m : Monomial) → IsPolynomial A.p A.order f → length m ≡ A.order.vars
        → product A f ((k, m) ∷ []) ≡ times_letters A (poly_scale A.p k f) (sorted_word m)
    product-term f k m h len =
        same_weights A _ _ (product_is_polynomial A above_one f ((k, m) ∷ []))
        (times_letters_is_polynomial (poly_scale A.p k f) (sorted_word m) (IsPolynomial-poly_scale A.p A.order (omega arith) k f h))
        (λ φ.
        let ψ : Monomial → ℕ = λ a. word_weight A φ (sorted_word a ++ sorted_word m) in
        let row : (a : Monomial) → row_weight A φ ((k, m) ∷ []) a ≡ k * ψ a = λ a. omega arith in
        weigh-product A φ f ((k, m) ∷ [])
        ∙ same_refl A.p _ _ (weigh_equal _ (λ a. k * ψ a) row f ∙ weigh-scaled k ψ f)
        ∙ sym (weigh-poly_scale A.p ψ k f)
        ∙ sym (weigh-times_letters φ (sorted_word m) (poly_scale A.p k f) (HasVars-poly_scale A.p A.order.vars k f h.vars) (IsWord-sorted_word A.order.vars m len)))
