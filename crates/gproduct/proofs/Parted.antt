-- Products with a term, by those of its terms that are passed and by the others.
use Rattle.std.proofs.Common.{◌≡◌, ℕ, ◌+◌, ◌-◌, ◌*◌, ◌%◌, ◌<◌, ◌≤◌, [], ◌∷◌, ◌++◌, length, refl, sym, ap, ◌∙◌, subst₂, arith, mod-lt}
use Rattle.monomials.specs.Monomials.{Monomial, degree, plus}
use Rattle.monomials.specs.Orders.{RowOrder, order_cmp}
use Rattle.monomials.specs.Polynomials.{Polynomial, from_terms, poly_add}
use Rattle.monomials.proofs.Modulo.{same_refl, same_add, same_mul, same_mul_right, same_rest}
use Rattle.monomials.proofs.Weights.{weigh, weigh-append, weigh-from_terms, weigh-poly_add}
use Rattle.monomials.proofs.Operations.{IsPolynomial-from_terms, IsPolynomial-poly_add}
use Rattle.monomials.proofs.OrderLaws.{order_cmp_tied}
use Rattle.monomials.proofs.Exponents.{degree-plus}
use Rattle.monomials.proofs.Keys.{Each-append, Each-weaker, EachKey-from_terms}
use Rattle.word_model.specs.Words.{Algebra, sorted_word, RewritesDown}
use Rattle.word_model.specs.Conditions.{IsGAlgebra}
use Rattle.word_model.specs.Products.{product}
use Rattle.word_model.proofs.CommonMultiples.{length-plus}
use Rattle.word_model.proofs.Degrees.{poly_degree-le}
use Rattle.word_model.proofs.NormalForms.{word_weight, row_weight, weigh-product, product_is_polynomial, same_weights}
use Rattle.gproduct.specs.Inside.Passing.{Passes, IsParted, IsSplit}
use Rattle.gproduct.proofs.Passing.{passed_weight}

module _ (A : Algebra) (downward : RewritesDown A) (k : ℕ) (m : Monomial) where
  -- at the beginning nothing is parted
  pub nothing_parted : IsParted A k m [] [] []
  nothing_parted = record {
    passed_terms = record { numbers = tt; vars = tt; small = tt };
    rest_numbers = tt;
    rest_vars = tt;
    rest_small = tt;
    sum = λ φ. same_refl A.p _ _ (omega arith);
  }

  module _ (more : 0 < A.p) (vars : length m ≡ A.order.vars) (f passed rest : Polynomial) (h : IsParted A k m f passed rest)
      (t : ℕ × Monomial) (t_number : t.0 < A.p) (t_vars : length t.1 ≡ A.order.vars) (t_small : degree m + degree t.1 ≤ 4095) where
    -- the weight of the product with a term more
    row_more : (φ : Monomial → ℕ) → k * row_weight A φ (f ++ t ∷ []) m ≡ k * row_weight A φ f m + k * (t.0 * word_weight A φ (sorted_word m ++ sorted_word t.1))
    row_more φ =
        let all : row_weight A φ (f ++ t ∷ []) m ≡ row_weight A φ f m + (t.0 * word_weight A φ (sorted_word m ++ sorted_word t.1) + 0) =
        weigh-append (λ b. word_weight A φ (sorted_word m ++ sorted_word b)) f (t ∷ []) in
        ap (λ w. k * w) all ∙ omega arith

    -- a term that m passes
    pub passed_more : Passes A m t.1 → IsParted A k m (f ++ t ∷ []) (passed ++ ((k * t.0) % A.p, plus m t.1) ∷ []) rest
    passed_more pass =
        let new : ℕ × Monomial = ((k * t.0) % A.p, plus m t.1) in
        let same_length : length m ≡ length t.1 = vars ∙ sym t_vars in
        record {
          passed_terms = record {
            numbers = Each-append (λ t. t.0 < A.p) passed (new ∷ []) h.passed_terms.numbers (mod-lt (k * t.0) more, tt);
            vars = Each-append (λ t. length t.1 ≡ A.order.vars) passed (new ∷ []) h.passed_terms.vars (length-plus m t.1 same_length ∙ vars, tt);
            small = Each-append (λ t. degree t.1 ≤ 4095) passed (new ∷ []) h.passed_terms.small (omega (arith, degree-plus m t.1 same_length), tt);
          };
          rest_numbers = h.rest_numbers;
          rest_vars = h.rest_vars;
          rest_small = h.rest_small;
          sum = λ φ.
              let w : ℕ = word_weight A φ (sorted_word m ++ sorted_word t.1) in
              let split : weigh φ (passed ++ new ∷ []) ≡ weigh φ passed + (((k * t.0) % A.p) * φ (plus m t.1) + 0) = weigh-append φ passed (new ∷ []) in
              let left : weigh φ (passed ++ new ∷ []) + k * row_weight A φ rest m ≡ (weigh φ passed + k * row_weight A φ rest m) + ((k * t.0) % A.p) * φ (plus m t.1) =
              omega (arith, split) in
              let right : k * row_weight A φ f m + (k * t.0) * w ≡ k * row_weight A φ f m + k * (t.0 * w) = omega arith in
              same_refl A.p _ _ left
              ∙ same_add A.p _ _ _ _ (h.sum φ)
              (same_mul_right A.p (φ (plus m t.1)) _ _ (same_rest A.p (k * t.0))
              ∙ same_mul A.p (k * t.0) _ _ (sym (passed_weight A downward φ m t.1 vars t_vars pass)))
              ∙ same_refl A.p _ _ (right ∙ sym (row_more φ));
        }

    -- a term that is left
    pub rest_more : IsParted A k m (f ++ t ∷ []) passed (rest ++ t ∷ [])
    rest_more = record {
      passed_terms = h.passed_terms;
      rest_numbers = Each-append (λ t. t.0 < A.p) rest (t ∷ []) h.rest_numbers (t_number, tt);
      rest_vars = Each-append (λ t. length t.1 ≡ A.order.vars) rest (t ∷ []) h.rest_vars (t_vars, tt);
      rest_small = Each-append (λ t. degree m + degree t.1 ≤ 4095) rest (t ∷ []) h.rest_small (t_small, tt);
      sum = λ φ.
          let w : ℕ = word_weight A φ (sorted_word m ++ sorted_word t.1) in
          let all : row_weight A φ (rest ++ t ∷ []) m ≡ row_weight A φ rest m + (t.0 * w + 0) = weigh-append (λ b. word_weight A φ (sorted_word m ++ sorted_word b)) rest (t ∷ []) in
          let left : weigh φ passed + k * row_weight A φ (rest ++ t ∷ []) m ≡ (weigh φ passed + k * row_weight A φ rest m) + k * (t.0 * w) =
          ap (λ x. weigh φ passed + k * x) all ∙ omega arith in
          same_refl A.p _ _ left ∙ same_add A.p _ _ (k * (t.0 * w)) _ (h.sum φ) refl ∙ same_refl A.p _ _ (sym (row_more φ));
    }

module _ (A : Algebra) (accepted : IsGAlgebra A) (k : ℕ) (m : Monomial) (f passed rest : Polynomial) where
  pos : 0 < A.p
  pos = omega (arith, accepted.field.more)

  -- the sums of the parts
  pub split_sums : degree m ≤ 4095 → IsParted A k m f passed rest → IsSplit A k m f (from_terms (order_cmp A.order.rows) A.p passed) (from_terms (order_cmp A.order.rows) A.p rest)
  split_sums small h =
      let sum_of_rest : Polynomial = from_terms (order_cmp A.order.rows) A.p rest in
      record {
        passed_sorted = IsPolynomial-from_terms A.p A.order pos passed h.passed_terms.vars;
        rest_sorted = IsPolynomial-from_terms A.p A.order pos rest h.rest_vars;
        rest_within = omega (
          arith,
          small,
          poly_degree-le sum_of_rest (4095 - degree m)
              (EachKey-from_terms (order_cmp A.order.rows) A.p (λ k. degree k ≤ 4095 - degree m) rest (Each-weaker _ _ (λ t le. omega (arith, le)) rest h.rest_small)),
        );
        sum = λ φ.
            same_add A.p _ _ _ _ (weigh-from_terms (order_cmp A.order.rows) (order_cmp_tied A.order.rows) A.p φ passed)
            (same_mul A.p k _ _ (weigh-from_terms (order_cmp A.order.rows) (order_cmp_tied A.order.rows) A.p (λ b. word_weight A φ (sorted_word m ++ sorted_word b)) rest))
            ∙ h.sum φ;
      }

  -- what is left is multiplied, and added
  pub joined : IsSplit A k m f passed rest → poly_add (order_cmp A.order.rows) A.p passed (product A ((k, m) ∷ []) rest) ≡ product A ((k, m) ∷ []) f
  joined h =
      let P : Polynomial = (k, m) ∷ [] in
      same_weights A _ _ (IsPolynomial-poly_add A.p A.order pos passed (product A P rest) h.passed_sorted (product_is_polynomial A accepted.field.more P rest))
      (product_is_polynomial A accepted.field.more P f)
      (λ φ.
      let left : k * row_weight A φ rest m + 0 ≡ k * row_weight A φ rest m = omega arith in
      let right : k * row_weight A φ f m ≡ k * row_weight A φ f m + 0 = omega arith in
      weigh-poly_add (order_cmp A.order.rows) (order_cmp_tied A.order.rows) A.p φ passed (product A P rest)
      ∙ same_add A.p (weigh φ passed) _ _ _ refl (weigh-product A φ P rest ∙ same_refl A.p _ _ left)
      ∙ h.sum φ
      ∙ same_refl A.p _ _ right
      ∙ sym (weigh-product A φ P f))

  -- where none is left that is all
  pub none_left : IsSplit A k m f passed rest → rest ≡ [] → passed ≡ product A ((k, m) ∷ []) f
  none_left h none =
      let P : Polynomial = (k, m) ∷ [] in
      same_weights A _ _ h.passed_sorted (product_is_polynomial A accepted.field.more P f)
      (λ φ.
      let left : weigh φ passed ≡ weigh φ passed + k * row_weight A φ rest m =
      omega arith ∙ ap (λ r. weigh φ passed + k * row_weight A φ r m) (sym none) in
      let right : k * row_weight A φ f m ≡ k * row_weight A φ f m + 0 = omega arith in
      same_refl A.p _ _ left ∙ h.sum φ ∙ same_refl A.p _ _ right ∙ sym (weigh-product A φ P f))

  -- the same with a field and an order that are the algebra's
  pub joined_by : IsSplit A k m f passed rest → (p : ℕ) (order : RowOrder) (crossed : Polynomial) → p ≡ A.p → order ≡ A.order → crossed ≡ product A ((k, m) ∷ []) rest
      → poly_add (order_cmp order.rows) p passed crossed ≡ product A ((k, m) ∷ []) f
  joined_by h p order crossed p_is order_is crossed_is = (λ i. poly_add (order_cmp (order_is i).rows) (p_is i) passed (crossed_is i)) ∙ joined h

  pub split_sums_by : degree m ≤ 4095 → IsParted A k m f passed rest → (p : ℕ) (order : RowOrder) (fs gs : Polynomial) → p ≡ A.p → order ≡ A.order
      → fs ≡ from_terms (order_cmp order.rows) p passed → gs ≡ from_terms (order_cmp order.rows) p rest → IsSplit A k m f fs gs
  split_sums_by small h p order fs gs p_is order_is fs_is gs_is =
      subst₂ (IsSplit A k m f)
      (sym (fs_is ∙ (λ i. from_terms (order_cmp (order_is i).rows) (p_is i) passed)))
      (sym (gs_is ∙ (λ i. from_terms (order_cmp (order_is i).rows) (p_is i) rest)))
      (split_sums small h)
