-- Under another order the normal forms, and so products and rests, are the same polynomials, sorted by it.
use Rattle.std.proofs.Common.{◌≡◌, ℕ, zero, suc, ◌*◌, ◌-◌, ◌<◌, [], ◌∷◌, ◌++◌, map, length, get_or, Option, None, Some, refl, sym, ap, ◌∙◌, arith}
use Rattle.std.specs.List.{slice_index}
use Rattle.std.proofs.Math.ListN.{get_or-map}
use Rattle.std.proofs.lemmas.Option.{unwrap_or-slice_get}
use Rattle.monomials.specs.Monomials.{Monomial}
use Rattle.monomials.specs.Orders.{RowOrder, order_cmp}
use Rattle.monomials.specs.Polynomials.{Polynomial, IsPolynomial, from_terms}
use Rattle.monomials.proofs.Canonical.{same_poly, IsCanonical-from_terms}
use Rattle.monomials.proofs.Modulo.{Same, same_refl, same_add, same_mul}
use Rattle.monomials.proofs.OrderLaws.{order_cmp_total, order_cmp_tied}
use Rattle.monomials.proofs.Weights.{weigh, weigh-append, weigh_alike, weigh-map_key, weigh-times, weigh-from_terms, weigh-sum_over}
use Rattle.word_model.specs.Words.{Algebra, Word, WordSum, c_of, d_of, pair_index, sorted_word, monomial_of, Descent, leftmost_descent, rewritten, rewriting_step, normal_form_within, normal_form, enough}
use Rattle.word_model.specs.Conditions.{times_words, overlap, triple_rest}
use Rattle.word_model.specs.Products.{product}
use Rattle.word_model.proofs.NormalForms.{word_weight, weigh-word_value, weigh-product, normal_form_is_polynomial, word_value_is_polynomial, product_is_polynomial}
use Rattle.algebra.specs.Reordered.{reordered}

module _ (A : Algebra) (o : RowOrder) (vars : o.vars ≡ A.order.vars) where
  -- the numbers are the same
  pub c_of-reordered : (i j : ℕ) → c_of (reordered o A) i j ≡ c_of A i j
  c_of-reordered i j = ap (λ n. slice_index A.c (pair_index n i j)) vars

  -- the polynomials are sorted anew
  pub d_of-reordered : (i j : ℕ) → d_of (reordered o A) i j ≡ from_terms (order_cmp o.rows) A.p (d_of A i j)
  d_of-reordered i j =
      let sort : Polynomial → Polynomial = from_terms (order_cmp o.rows) A.p in
      let k : ℕ = pair_index o.vars i j in
      unwrap_or-slice_get (map sort A.d) k []
      ∙ (get_or-map sort A.d k []
      ∙ (ap (λ n. sort (get_or A.d (pair_index n i j) [])) vars
      ∙ ap sort (sym (unwrap_or-slice_get A.d (pair_index A.order.vars i j) []))))

  relation_same : (θ : Monomial → ℕ) (i j : ℕ) → Same A.p (weigh θ (d_of (reordered o A) i j)) (weigh θ (d_of A i j))
  relation_same θ i j =
      same_refl A.p _ _ (ap (weigh θ) (d_of-reordered i j)) ∙ weigh-from_terms (order_cmp o.rows) (order_cmp_tied o.rows) A.p θ (d_of A i j)

  rewritten_same : (ψ : Word → ℕ) (s : Descent) → Same A.p (weigh ψ (rewritten (reordered o A) s)) (weigh ψ (rewritten A s))
  rewritten_same ψ s =
      let word : Monomial → Word = λ m. s.before ++ (sorted_word m ++ s.after) in
      same_add A.p _ _ _ _ (same_refl A.p _ _ (ap (λ k. k * ψ (s.before ++ s.low ∷ s.high ∷ s.after)) (c_of-reordered s.low s.high)))
      (same_refl A.p _ _ (weigh-map_key ψ word (d_of (reordered o A) s.low s.high))
      ∙ (relation_same (λ m. ψ (word m)) s.low s.high ∙ same_refl A.p _ _ (sym (weigh-map_key ψ word (d_of A s.low s.high)))))

  times_same : (ψ : Word → ℕ) (word : Monomial → Word) (k k' i j : ℕ) → k ≡ k' →
      Same A.p (weigh ψ (times_words k word (d_of (reordered o A) i j))) (weigh ψ (times_words k' word (d_of A i j)))
  times_same ψ word k k' i j e =
      same_refl A.p _ _ (weigh-times ψ k word (d_of (reordered o A) i j) ∙ ap (λ x. x * weigh (λ m. ψ (word m)) (d_of (reordered o A) i j)) e)
      ∙ (same_mul A.p k' _ _ (relation_same (λ m. ψ (word m)) i j) ∙ same_refl A.p _ _ (sym (weigh-times ψ k' word (d_of A i j))))

  both : (ψ : Word → ℕ) (f f' g g' : WordSum) → Same A.p (weigh ψ f) (weigh ψ f') → Same A.p (weigh ψ g) (weigh ψ g') →
      Same A.p (weigh ψ (f ++ g)) (weigh ψ (f' ++ g'))
  both ψ f f' g g' e h =
      same_refl A.p _ _ (weigh-append ψ f g) ∙ (same_add A.p _ _ _ _ e h ∙ same_refl A.p _ _ (sym (weigh-append ψ f' g')))

  overlap_same : (ψ : Word → ℕ) (i j k : ℕ) → Same A.p (weigh ψ (overlap (reordered o A) i j k)) (weigh ψ (overlap A i j k))
  overlap_same ψ i j k =
      let ij : c_of (reordered o A) i j ≡ c_of A i j = c_of-reordered i j in
      let ik : c_of (reordered o A) i k ≡ c_of A i k = c_of-reordered i k in
      let jk : c_of (reordered o A) j k ≡ c_of A j k = c_of-reordered j k in
      both ψ _ _ _ _ (times_same ψ (λ m. sorted_word m ++ k ∷ []) _ _ i j (λ t. ik t * jk t))
      (both ψ _ _ _ _ (times_same ψ (λ m. k ∷ sorted_word m) (A.p - 1) (A.p - 1) i j refl)
      (both ψ _ _ _ _ (times_same ψ (λ m. j ∷ sorted_word m) _ _ i k jk)
      (both ψ _ _ _ _ (times_same ψ (λ m. sorted_word m ++ j ∷ []) _ _ i k (λ t. (A.p - 1) * ij t))
      (both ψ _ _ _ _ (times_same ψ (λ m. sorted_word m ++ i ∷ []) 1 1 j k refl)
      (times_same ψ (λ m. i ∷ sorted_word m) _ _ j k (λ t. (A.p - 1) * (ij t * ik t)))))))

  module _ (φ : Monomial → ℕ) where
    within_same : (k : ℕ) (w : Word) → Same A.p (weigh φ (normal_form_within (reordered o A) k w)) (weigh φ (normal_form_within A k w))
    unfolding normal_form_within
    within_same zero w = refl
    within_same (suc k) w = by (leftmost_descent w) (within_same k)
      where
        by : (r : Option Descent) → ((v : Word) → Same A.p (weigh φ (normal_form_within (reordered o A) k v)) (weigh φ (normal_form_within A k v))) →
            Same A.p (weigh φ (rewriting_step (reordered o A) (normal_form_within (reordered o A) k) w r)) (weigh φ (rewriting_step A (normal_form_within A k) w r))
        by None ih = same_refl A.p _ _ (ap (λ n. weigh φ ((1, monomial_of n w) ∷ [])) vars)
        by (Some s) ih =
            weigh-sum_over (order_cmp o.rows) (order_cmp_tied o.rows) A.p φ (normal_form_within (reordered o A) k) (rewritten (reordered o A) s)
            ∙ (weigh_alike A.p _ _ ih (rewritten (reordered o A) s)
            ∙ (rewritten_same (λ v. weigh φ (normal_form_within A k v)) s
            ∙ sym (weigh-sum_over (order_cmp A.order.rows) (order_cmp_tied A.order.rows) A.p φ (normal_form_within A k) (rewritten A s))))

    -- a word weighs the same
    word_same : (w : Word) → Same A.p (word_weight (reordered o A) φ w) (word_weight A φ w)
    unfolding normal_form
    word_same w =
        within_same (enough o.vars (length w)) w
        ∙ same_refl A.p _ _ (ap (λ n. weigh φ (normal_form_within A (enough n (length w)) w)) vars)

    -- the rest of a triple weighs the same
    rest_same : (i j k : ℕ) → Same A.p (weigh φ (triple_rest (reordered o A) i j k)) (weigh φ (triple_rest A i j k))
    rest_same i j k =
        weigh-word_value (reordered o A) φ (overlap (reordered o A) i j k)
        ∙ (weigh_alike A.p _ _ word_same (overlap (reordered o A) i j k)
        ∙ (overlap_same (word_weight A φ) i j k ∙ sym (weigh-word_value A φ (overlap A i j k))))

    product_same : (f g : Polynomial) → Same A.p (weigh φ (product (reordered o A) f g)) (weigh φ (product A f g))
    product_same f g =
        weigh-product (reordered o A) φ f g
        ∙ (weigh_alike A.p _ _ (λ a. weigh_alike A.p _ _ (λ b. word_same (sorted_word a ++ sorted_word b)) g) f
        ∙ sym (weigh-product A φ f g))

  module _ (above_one : 1 < A.p) where
    -- a polynomial that weighs as f does is f sorted anew
    sorted_anew : (f g : Polynomial) → IsPolynomial A.p o g → ((φ : Monomial → ℕ) → Same A.p (weigh φ g) (weigh φ f)) →
        g ≡ from_terms (order_cmp o.rows) A.p f
    sorted_anew f g h e =
        same_poly (order_cmp o.rows) (order_cmp_total o.rows) (order_cmp_tied o.rows) A.p g (from_terms (order_cmp o.rows) A.p f) h.canonical
        (IsCanonical-from_terms (order_cmp o.rows) (order_cmp_total o.rows) (order_cmp_tied o.rows) A.p (omega arith) f)
        (λ φ. e φ ∙ sym (weigh-from_terms (order_cmp o.rows) (order_cmp_tied o.rows) A.p φ f))

    -- the normal form of a word is the same, sorted anew
    pub normal_form-reordered : (w : Word) → normal_form (reordered o A) w ≡ from_terms (order_cmp o.rows) A.p (normal_form A w)
    normal_form-reordered w =
        sorted_anew (normal_form A w) (normal_form (reordered o A) w) (normal_form_is_polynomial (reordered o A) above_one w) (λ φ. word_same φ w)

    -- so is a product
    pub product-reordered : (f g : Polynomial) → product (reordered o A) f g ≡ from_terms (order_cmp o.rows) A.p (product A f g)
    product-reordered f g =
        sorted_anew (product A f g) (product (reordered o A) f g) (product_is_polynomial (reordered o A) above_one f g) (λ φ. product_same φ f g)

    -- and the rest of a triple
    pub triple_rest-reordered : (i j k : ℕ) → triple_rest (reordered o A) i j k ≡ from_terms (order_cmp o.rows) A.p (triple_rest A i j k)
    triple_rest-reordered i j k =
        sorted_anew (triple_rest A i j k) (triple_rest (reordered o A) i j k) (word_value_is_polynomial (reordered o A) above_one (overlap (reordered o A) i j k))
        (λ φ. rest_same φ i j k)
