-- Sums of products of generators with polynomials on both sides, as weights see them.
use Rattle.std.proofs.Common.{◌≡◌, ℕ, ◌+◌, ◌-◌, ◌*◌, List, [], ◌∷◌, ◌++◌, length, refl, sym, ap, ◌∙◌, subst}
use Rattle.monomials.specs.Monomials.{Monomial, one}
use Rattle.monomials.specs.Orders.{order_cmp}
use Rattle.monomials.specs.Polynomials.{Polynomial, Each, HasVars, IsPolynomial, poly_scale}
use Rattle.monomials.proofs.Modulo.{Same, same_refl, same_add, same_mul}
use Rattle.monomials.proofs.Weights.{weigh, weigh_alike_on, weigh-poly_add, weigh-poly_scale}
use Rattle.monomials.proofs.OrderLaws.{order_cmp_tied}
use Rattle.monomials.proofs.Keys.{Each-weaker}
use Rattle.monomials.proofs.Operations.{IsPolynomial-poly_add}
use Rattle.word_model.specs.Words.{Algebra, sorted_word}
use Rattle.word_model.specs.Products.{product, variable_polynomial}
use Rattle.word_model.specs.Conditions.{IsGAlgebra}
use Rattle.word_model.specs.Reduction.{element}
use Rattle.word_model.specs.TwoSided.{TwoSidedMultiple, two_sided_product, two_sided_sum, IsTwoSidedMultiple, InTwoSidedIdeal}
use Rattle.word_model.specs.declared.records.Mode.TheVariants.{TwoSided}
use Rattle.word_model.proofs.NormalForms.{word_weight, row_weight, weigh-product, normal_form_is_polynomial, product_is_polynomial, same_weights}
use Rattle.word_model.proofs.Associativity.{product-assoc, length-variable, letters_product-normal_form}
use Rattle.word_model.proofs.LeastNumbers.{Each-element}
use Rattle.word_model.proofs.Settled.{IsNumber}
use Rattle.word_model.proofs.Sums.{IsSum, sum_zero, sum_same, sum_add, sum_scale, sum_one, sum_all}
use Rattle.word_model.proofs.MultipleWeights.{behind, weigh-term, multiple_weight}
use Rattle.word_model.proofs.Connections.{positive}
use Rattle.word_model.proofs.Differences.{sub_is, scale_is, multiple_is, weigh-sub, weigh-multiple}
use Rattle.word_model.proofs.Monic.{row_weight-one, behind-one}
use Rattle.word_model.proofs.Spans.{InSpan}
use Rattle.word_model.proofs.Making.{IsClosed}
use Rattle.word_model.proofs.RightSpans.{weigh-right_term}

module _ (A : Algebra) (ok : IsGAlgebra A) (gens : List Polynomial) (sorted : Each (IsPolynomial A.p A.order) gens) where
  at : (s : ℕ) → IsNumber gens s → IsPolynomial A.p A.order (element gens s)
  at s number = Each-element (IsPolynomial A.p A.order) gens s sorted number.0 number.1

  abbrev two_weight : (Monomial → ℕ) → TwoSidedMultiple → ℕ
  two_weight φ x = weigh φ (two_sided_product A gens x)

  -- a value that is such a sum
  abbrev pub IsTwoSidedSum : ((Monomial → ℕ) → ℕ) → Type 0
  IsTwoSidedSum F = IsSum A.p two_weight (IsTwoSidedMultiple A gens) F

  one_is : IsPolynomial A.p A.order ((1, one A.order.vars) ∷ [])
  one_is =
      subst (IsPolynomial A.p A.order) (sym (letters_product-normal_form A ok.downward ok.confluent ok.field.more [] tt)) (normal_form_is_polynomial A ok.field.more [])

  -- a generator
  two_sided_generator : (s : ℕ) → IsNumber gens s → IsTwoSidedSum (λ φ. weigh φ (element gens s))
  two_sided_generator s number =
      let one_p : Polynomial = (1, one A.order.vars) ∷ [] in
      let g : Polynomial = element gens s in
      sum_same A.p two_weight (IsTwoSidedMultiple A gens) (λ φ. two_weight φ (one_p, s, one_p)) (λ φ. weigh φ g)
      (λ φ.
      sym (weigh-right_term A ok φ (product A one_p g) (one A.order.vars)
      ∙ weigh_alike_on A.p (λ a. word_weight A φ (sorted_word a ++ sorted_word (one A.order.vars))) φ (product A one_p g)
      (Each-weaker _ _ (λ t len. same_refl A.p _ _ (behind-one A φ t.1 len)) (product A one_p g) (product_is_polynomial A ok.field.more one_p g).vars)
      ∙ weigh-term A φ (one A.order.vars) g ∙ row_weight-one A φ g (at s number).vars))
      (sum_one A.p two_weight (IsTwoSidedMultiple A gens) (one_p, s, one_p) (one_is, number, one_is))

  -- u times such a sum
  pub two_sided_behind : (u : Monomial) → length u ≡ A.order.vars → (F : (Monomial → ℕ) → ℕ) → IsTwoSidedSum F → IsTwoSidedSum (λ φ. F (behind A u φ))
  two_sided_behind u hu F sum =
      sum_same A.p two_weight (IsTwoSidedMultiple A gens) (λ φ. weigh (λ x. two_weight (behind A u φ) x) sum.terms) (λ φ. F (behind A u φ)) (λ φ. sum.value (behind A u φ))
      (sum_all A.p two_weight (IsTwoSidedMultiple A gens) (λ x φ. two_weight (behind A u φ) x) sum.terms (Each-weaker _ _ (λ e h. each e.1 h) sum.terms sum.each))
    where
      each : (x : TwoSidedMultiple) → IsTwoSidedMultiple A gens x → IsTwoSidedSum (λ φ. two_weight (behind A u φ) x)
      each x h =
          let term : Polynomial = (1, u) ∷ [] in
          let g : Polynomial = element gens x.1 in
          let g_vars : HasVars A.order.vars g = (at x.1 h.1).vars in
          let moved : product A (product A (product A term x.0) g) x.2 ≡ product A term (product A (product A x.0 g) x.2) =
          ap (λ f. product A f x.2) (product-assoc A ok.downward ok.confluent ok.field.more term x.0 g (hu, tt) h.0.vars g_vars)
          ∙ product-assoc A ok.downward ok.confluent ok.field.more term (product A x.0 g) x.2 (hu, tt) (product_is_polynomial A ok.field.more x.0 g).vars h.2.vars in
          sum_same A.p two_weight (IsTwoSidedMultiple A gens) (λ φ. two_weight φ (product A term x.0, x.1, x.2)) (λ φ. two_weight (behind A u φ) x)
          (λ φ. sym (same_refl A.p _ _ (ap (weigh φ) moved) ∙ weigh-term A φ u (two_sided_product A gens x)))
          (sum_one A.p two_weight (IsTwoSidedMultiple A gens) (product A term x.0, x.1, x.2) (product_is_polynomial A ok.field.more term x.0, h.1, h.2))

  -- such a sum times c
  two_sided_right : (c : Polynomial) → HasVars A.order.vars c → (F : (Monomial → ℕ) → ℕ) → IsTwoSidedSum F → IsTwoSidedSum (λ φ. F (row_weight A φ c))
  two_sided_right c hc F sum =
      sum_same A.p two_weight (IsTwoSidedMultiple A gens) (λ φ. weigh (λ x. two_weight (row_weight A φ c) x) sum.terms) (λ φ. F (row_weight A φ c)) (λ φ. sum.value (row_weight A φ c))
      (sum_all A.p two_weight (IsTwoSidedMultiple A gens) (λ x φ. two_weight (row_weight A φ c) x) sum.terms (Each-weaker _ _ (λ e h. each e.1 h) sum.terms sum.each))
    where
      each : (x : TwoSidedMultiple) → IsTwoSidedMultiple A gens x → IsTwoSidedSum (λ φ. two_weight (row_weight A φ c) x)
      each x h =
          let f : Polynomial = product A x.0 (element gens x.1) in
          sum_same A.p two_weight (IsTwoSidedMultiple A gens) (λ φ. two_weight φ (x.0, x.1, product A x.2 c)) (λ φ. two_weight (row_weight A φ c) x)
          (λ φ.
          sym (weigh-product A φ (two_sided_product A gens x) c)
          ∙ same_refl A.p _ _ (ap (weigh φ) (product-assoc A ok.downward ok.confluent ok.field.more f x.2 c (product_is_polynomial A ok.field.more x.0 (element gens x.1)).vars h.2.vars hc)))
          (sum_one A.p two_weight (IsTwoSidedMultiple A gens) (x.0, x.1, product A x.2 c) (h.0, h.1, product_is_polynomial A ok.field.more x.2 c))

  -- ---- polynomials with such values

  abbrev pub IsTwoSided : Polynomial → Type 0
  IsTwoSided f = IsPolynomial A.p A.order f × IsTwoSidedSum (λ φ. weigh φ f)

  -- they are closed under the operations of a run
  pub two_sided_closed : IsClosed A ok gens TwoSided IsTwoSided
  two_sided_closed = record {
    seed = λ s number. (at s number, two_sided_generator s number);
    difference = λ f g hf hg. (
      sub_is A ok f g hf.0 hg.0,
      sum_same A.p two_weight (IsTwoSidedMultiple A gens) (λ φ. weigh φ f + (A.p - 1) * weigh φ g) (λ φ. weigh φ (Rattle.word_model.proofs.Differences.sub A ok f g)) (λ φ. weigh-sub A ok φ f g)
          (sum_add A.p two_weight (IsTwoSidedMultiple A gens) (λ φ. weigh φ f) (λ φ. (A.p - 1) * weigh φ g) hf.1 (sum_scale A.p two_weight (IsTwoSidedMultiple A gens) (A.p - 1) (λ φ. weigh φ g) hg.1)),
    );
    multiplied = λ c m f hm h. (
      multiple_is A ok c m f,
      sum_same A.p two_weight (IsTwoSidedMultiple A gens) (λ φ. c * weigh (behind A m φ) f) (λ φ. weigh φ (Rattle.word_model.specs.Reduction.multiple A c m f)) (λ φ. weigh-multiple A ok φ c m f)
          (sum_scale A.p two_weight (IsTwoSidedMultiple A gens) c (λ φ. weigh (behind A m φ) f) (two_sided_behind m hm (λ φ. weigh φ f) h.1)),
    );
    scaled = λ c f h. (
      scale_is A ok c f h.0,
      sum_same A.p two_weight (IsTwoSidedMultiple A gens) (λ φ. c * weigh φ f) (λ φ. weigh φ (poly_scale A.p c f)) (λ φ. weigh-poly_scale A.p φ c f)
          (sum_scale A.p two_weight (IsTwoSidedMultiple A gens) c (λ φ. weigh φ f) h.1),
    );
    on_the_right = λ is f v low high h. (
      product_is_polynomial A ok.field.more f (variable_polynomial A v),
      sum_same A.p two_weight (IsTwoSidedMultiple A gens) (λ φ. weigh (row_weight A φ (variable_polynomial A v)) f) (λ φ. weigh φ (product A f (variable_polynomial A v)))
          (λ φ. weigh-product A φ f (variable_polynomial A v))
          (two_sided_right (variable_polynomial A v) (length-variable A.order.vars v low high, tt) (λ φ. weigh φ f) h.1),
    );
  }

  -- ---- and polynomials of the ideal

  pub two_sided_sum-is : (xs : List TwoSidedMultiple) → IsPolynomial A.p A.order (two_sided_sum A gens xs)
  two_sided_sum-is [] = record { canonical = tt; vars = tt }
  two_sided_sum-is (x ∷ xs) =
      IsPolynomial-poly_add A.p A.order (positive A ok) (two_sided_product A gens x) (two_sided_sum A gens xs)
      (product_is_polynomial A ok.field.more (product A x.0 (element gens x.1)) x.2) (two_sided_sum-is xs)

  pub ideal_is_two_sided : (f : Polynomial) → InTwoSidedIdeal A gens f → IsPolynomial A.p A.order f
  ideal_is_two_sided f h = subst (IsPolynomial A.p A.order) h.2 (two_sided_sum-is h.0)

  -- the terms with their coefficients
  with_coefs : List (ℕ × TwoSidedMultiple) → List TwoSidedMultiple
  with_coefs [] = []
  with_coefs (e ∷ r) = (poly_scale A.p e.0 e.1.0, e.1.1, e.1.2) ∷ with_coefs r

  with_coefs-are : (r : List (ℕ × TwoSidedMultiple)) → Each (λ e. IsTwoSidedMultiple A gens e.1) r → Each (IsTwoSidedMultiple A gens) (with_coefs r)
  unfolding with_coefs
  with_coefs-are [] h = tt
  with_coefs-are (e ∷ r) h = ((scale_is A ok e.0 e.1.0 h.0.0, h.0.1, h.0.2), with_coefs-are r h.1)

  weigh-with_coefs : (φ : Monomial → ℕ) (r : List (ℕ × TwoSidedMultiple)) → Same A.p (weigh φ (two_sided_sum A gens (with_coefs r))) (weigh (two_weight φ) r)
  unfolding with_coefs
  weigh-with_coefs φ [] = refl
  weigh-with_coefs φ (e ∷ r) =
      let g : Polynomial = element gens e.1.1 in
      let ψ : Monomial → ℕ = row_weight A φ e.1.2 in
      let a : Polynomial = poly_scale A.p e.0 e.1.0 in
      weigh-poly_add (order_cmp A.order.rows) (order_cmp_tied A.order.rows) A.p φ (product A (product A a g) e.1.2) (two_sided_sum A gens (with_coefs r))
      ∙ same_add A.p _ _ _ _
      (weigh-product A φ (product A a g) e.1.2 ∙ weigh-product A ψ a g ∙ weigh-poly_scale A.p (row_weight A ψ g) e.0 e.1.0
      ∙ same_mul A.p e.0 _ _ (sym (weigh-product A φ (product A e.1.0 g) e.1.2 ∙ weigh-product A ψ e.1.0 g)))
      (weigh-with_coefs φ r)

  pub sum_in_ideal : (f : Polynomial) → IsTwoSided f → InTwoSidedIdeal A gens f
  sum_in_ideal f h = (
    with_coefs h.1.terms,
    with_coefs-are h.1.terms h.1.each,
    same_weights A (two_sided_sum A gens (with_coefs h.1.terms)) f (two_sided_sum-is (with_coefs h.1.terms)) h.0 (λ φ. weigh-with_coefs φ h.1.terms ∙ sym (h.1.value φ)),
  )

  -- the value of a polynomial of the ideal
  ideal_sum : (xs : List TwoSidedMultiple) → Each (IsTwoSidedMultiple A gens) xs → IsTwoSidedSum (λ φ. weigh φ (two_sided_sum A gens xs))
  ideal_sum [] h = sum_zero A.p two_weight (IsTwoSidedMultiple A gens)
  ideal_sum (x ∷ xs) h =
      sum_same A.p two_weight (IsTwoSidedMultiple A gens) (λ φ. two_weight φ x + weigh φ (two_sided_sum A gens xs)) (λ φ. weigh φ (two_sided_sum A gens (x ∷ xs)))
      (λ φ. weigh-poly_add (order_cmp A.order.rows) (order_cmp_tied A.order.rows) A.p φ (two_sided_product A gens x) (two_sided_sum A gens xs))
      (sum_add A.p two_weight (IsTwoSidedMultiple A gens) (λ φ. two_weight φ x) (λ φ. weigh φ (two_sided_sum A gens xs))
      (sum_one A.p two_weight (IsTwoSidedMultiple A gens) x h.0) (ideal_sum xs h.1))

  pub ideal_to_sum : (f : Polynomial) → InTwoSidedIdeal A gens f → IsTwoSided f
  ideal_to_sum f h = (ideal_is_two_sided f h, subst (λ f. IsTwoSidedSum (λ φ. weigh φ f)) h.2 (ideal_sum h.0 h.1))

  -- a sum of multiples of polynomials of the ideal
  pub span_two_sided : (H : List Polynomial) → Each IsTwoSided H → (f : Polynomial) → IsPolynomial A.p A.order f → InSpan A H f → InTwoSidedIdeal A gens f
  span_two_sided H inside f f_is s =
      sum_in_ideal f (
        f_is,
        sum_same A.p two_weight (IsTwoSidedMultiple A gens) (λ φ. weigh (λ k. multiple_weight A H φ k) s.terms) (λ φ. weigh φ f) s.value
            (sum_all A.p two_weight (IsTwoSidedMultiple A gens) (λ k φ. multiple_weight A H φ k) s.terms
            (Each-weaker _ _ (λ e h. two_sided_behind e.1.0 h.0 (λ φ. weigh φ (element H e.1.1)) (Each-element IsTwoSided H e.1.1 inside h.1.0 h.1.1).1) s.terms s.each)),
      )
