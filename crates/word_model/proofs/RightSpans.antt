-- Products on the right: where those of the elements by variables are in the span of the elements, so are those of all that is
-- in it by all polynomials.
use Rattle.std.proofs.Common.{◌≡◌, ℕ, ◌+◌, ◌*◌, ◌≤◌, List, [], ◌∷◌, ◌++◌, length, sym, ap, ◌∙◌, subst, arith}
use Rattle.monomials.specs.Monomials.{Monomial, one}
use Rattle.monomials.specs.Polynomials.{Polynomial, Each, HasVars}
use Rattle.monomials.proofs.Modulo.{Same, same_refl}
use Rattle.monomials.proofs.Weights.{weigh, weigh_alike_on, weigh-swap}
use Rattle.monomials.proofs.Keys.{Each-weaker}
use Rattle.word_model.specs.Words.{Algebra, Word, IsWord, sorted_word, normal_form}
use Rattle.word_model.specs.Products.{product, variable_polynomial}
use Rattle.word_model.specs.Conditions.{IsGAlgebra}
use Rattle.word_model.specs.Reduction.{element}
use Rattle.word_model.proofs.Letters.{IsWord-sorted_word, monomial_of-sorted_word}
use Rattle.word_model.proofs.Descents.{leftmost_descent-sorted_word}
use Rattle.word_model.proofs.Termination.{normal_form-sorted}
use Rattle.word_model.proofs.NormalForms.{word_weight, row_weight, weigh-product, normal_form_is_polynomial, product_is_polynomial}
use Rattle.word_model.proofs.Associativity.{product-assoc, product-normal_form, normal_form-letter, letters_product-normal_form}
use Rattle.word_model.proofs.LeastNumbers.{Each-element}
use Rattle.word_model.proofs.Settled.{IsNumber}
use Rattle.word_model.proofs.Sums.{sum_same, sum_all}
use Rattle.word_model.proofs.MultipleWeights.{Multiple, behind, weigh-term, multiple_weight}
use Rattle.word_model.proofs.Monic.{behind-one}
use Rattle.word_model.proofs.Spans.{IsMultiple, IsSpanned, InSpan, span_behind}

module _ (A : Algebra) (ok : IsGAlgebra A) where
  -- m g b weighs behind m what g b does
  pub right_of_term : (φ : Monomial → ℕ) (m : Monomial) (g b : Polynomial) → length m ≡ A.order.vars → HasVars A.order.vars g → HasVars A.order.vars b
      → Same A.p (row_weight A (row_weight A φ b) g m) (weigh (behind A m φ) (product A g b))
  right_of_term φ m g b hm hg hb =
      sym (weigh-term A (row_weight A φ b) m g)
      ∙ sym (weigh-product A φ (product A ((1, m) ∷ []) g) b)
      ∙ same_refl A.p _ _ (ap (weigh φ) (product-assoc A ok.downward ok.confluent ok.field.more ((1, m) ∷ []) g b (hm, tt) hg hb))
      ∙ weigh-term A φ m (product A g b)

  -- h m weighs what h does by words that end with m
  pub weigh-right_term : (φ : Monomial → ℕ) (h : Polynomial) (m : Monomial) → Same A.p (weigh φ (product A h ((1, m) ∷ []))) (weigh (λ a. word_weight A φ (sorted_word a ++ sorted_word m)) h)
  weigh-right_term φ h m =
      weigh-product A φ h ((1, m) ∷ [])
      ∙ weigh_alike_on A.p (row_weight A φ ((1, m) ∷ [])) (λ a. word_weight A φ (sorted_word a ++ sorted_word m)) h (Rattle.word_model.proofs.NormalForms.Each-always _ (λ t. same_refl A.p _ _ (once (word_weight A φ (sorted_word t.1 ++ sorted_word m)))) h)
    where
      once : (x : ℕ) → 1 * x + 0 ≡ x
      once x = omega arith

  module _ (G : List Polynomial) (vars : Each (HasVars A.order.vars) G) where
    -- the span is closed under products by b on the right
    abbrev pub IsRight : Polynomial → Type 0
    IsRight b = (h : Polynomial) → HasVars A.order.vars h → InSpan A G h → InSpan A G (product A h b)

    -- where the products of the elements by b are in it
    pub right_elements : (b : Polynomial) → HasVars A.order.vars b → ((i : ℕ) → IsNumber G i → InSpan A G (product A (element G i) b)) → IsRight b
    right_elements b hb inside h hh s =
        sum_same A.p (multiple_weight A G) (IsMultiple A G) (λ φ. weigh (λ k. multiple_weight A G (row_weight A φ b) k) s.terms) (λ φ. weigh φ (product A h b))
        (λ φ. weigh-product A φ h b ∙ s.value (row_weight A φ b))
        (sum_all A.p (multiple_weight A G) (IsMultiple A G) (λ k φ. multiple_weight A G (row_weight A φ b) k) s.terms (Each-weaker _ _ (λ e m. one_right e.1 m) s.terms s.each))
      where
        one_right : (k : Multiple) → IsMultiple A G k → IsSpanned A G (λ φ. multiple_weight A G (row_weight A φ b) k)
        one_right k h =
            sum_same A.p (multiple_weight A G) (IsMultiple A G) (λ φ. weigh (behind A k.0 φ) (product A (element G k.1) b)) (λ φ. multiple_weight A G (row_weight A φ b) k)
            (λ φ. right_of_term φ k.0 (element G k.1) b h.0 (Each-element (HasVars A.order.vars) G k.1 vars h.1.0 h.1.1) hb)
            (span_behind A ok G vars k.0 h.0 (λ φ. weigh φ (product A (element G k.1) b)) (inside k.1 h.1))

    right_one : IsRight ((1, one A.order.vars) ∷ [])
    right_one h hh s =
        sum_same A.p (multiple_weight A G) (IsMultiple A G) (λ φ. weigh φ h) (λ φ. weigh φ (product A h ((1, one A.order.vars) ∷ [])))
        (λ φ.
        weigh-right_term φ h (one A.order.vars)
        ∙ weigh_alike_on A.p (λ a. word_weight A φ (sorted_word a ++ sorted_word (one A.order.vars))) φ h (Each-weaker _ _ (λ t len. same_refl A.p _ _ (behind-one A φ t.1 len)) h hh)) s

    right_product : (b c : Polynomial) → HasVars A.order.vars b → HasVars A.order.vars c → IsRight b → IsRight c → IsRight (product A b c)
    right_product b c hb hc rb rc h hh s =
        subst (InSpan A G) (product-assoc A ok.downward ok.confluent ok.field.more h b c hh hb hc)
        (rc (product A h b) (product_is_polynomial A ok.field.more h b).vars (rb h hh s))

    -- closed under products by variables
    module _ (letters : (v : ℕ) → 1 ≤ v → v ≤ A.order.vars → IsRight (variable_polynomial A v)) where
      right_word : (w : Word) → IsWord A.order.vars w → IsRight (normal_form A w)
      right_word [] word = subst IsRight (letters_product-normal_form A ok.downward ok.confluent ok.field.more [] tt) right_one
      right_word (v ∷ w) word =
          subst IsRight (product-normal_form A ok.downward ok.confluent ok.field.more (v ∷ []) w word)
          (right_product (normal_form A (v ∷ [])) (normal_form A w) (normal_form_is_polynomial A ok.field.more (v ∷ [])).vars (normal_form_is_polynomial A ok.field.more w).vars
          (subst IsRight (sym (normal_form-letter A v word.0.0 word.0.1)) (letters v word.0.0 word.0.1)) (right_word w word.1))

      right_monomial : (m : Monomial) → length m ≡ A.order.vars → IsRight ((1, m) ∷ [])
      right_monomial m hm =
          subst IsRight (normal_form-sorted A (sorted_word m) (leftmost_descent-sorted_word m) ∙ ap (λ x. (1, x) ∷ []) (monomial_of-sorted_word A.order.vars m hm))
          (right_word (sorted_word m) (IsWord-sorted_word A.order.vars m hm))

      -- it is closed under products by all polynomials
      pub right_all : (b : Polynomial) → HasVars A.order.vars b → IsRight b
      right_all b hb h hh s =
          sum_same A.p (multiple_weight A G) (IsMultiple A G) (λ φ. weigh (λ t. weigh (λ a. word_weight A φ (sorted_word a ++ sorted_word t)) h) b) (λ φ. weigh φ (product A h b))
          (λ φ. weigh-product A φ h b ∙ same_refl A.p _ _ (weigh-swap (λ a t. word_weight A φ (sorted_word a ++ sorted_word t)) h b))
          (sum_all A.p (multiple_weight A G) (IsMultiple A G) (λ t φ. weigh (λ a. word_weight A φ (sorted_word a ++ sorted_word t)) h) b
          (Each-weaker _ _ (λ t len.
          sum_same A.p (multiple_weight A G) (IsMultiple A G) (λ φ. weigh φ (product A h ((1, t.1) ∷ []))) (λ φ. weigh (λ a. word_weight A φ (sorted_word a ++ sorted_word t.1)) h)
          (λ φ. sym (weigh-right_term φ h t.1)) (right_monomial t.1 len h hh s)) b hb))
