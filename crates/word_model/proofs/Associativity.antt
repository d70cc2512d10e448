-- The product is associative, and normal forms multiply as words do.
use Rattle.std.proofs.Common.{◌≡◌, ℕ, zero, suc, ◌-◌, ◌<◌, ◌≤◌, [], ◌∷◌, ◌++◌, length, replicate, refl, sym, ap, ◌∙◌, subst, arith, append_assoc, append-nil, length-append}
use Rattle.std.proofs.Math.ListN.{length-replicate}
use Rattle.monomials.specs.Monomials.{Monomial, variable}
use Rattle.monomials.specs.Orders.{order_cmp}
use Rattle.monomials.specs.Polynomials.{Polynomial, HasVars, IsPolynomial}
use Rattle.monomials.proofs.Modulo.{Same, same_refl}
use Rattle.monomials.proofs.Weights.{weigh, weigh_alike_on, weigh-swap}
use Rattle.monomials.proofs.Canonical.{same_poly}
use Rattle.monomials.proofs.OrderLaws.{order_cmp_total, order_cmp_tied}
use Rattle.monomials.proofs.Keys.{Each-append, Each-first, Each-second, Each-weaker}
use Rattle.word_model.specs.Words.{Algebra, Word, IsWord, counts_from, monomial_of, sorted_word, normal_form, RewritesDown}
use Rattle.word_model.specs.Products.{product, variable_polynomial, times_letters, letters_product}
use Rattle.word_model.specs.Conditions.{IsConfluent}
use Rattle.word_model.proofs.Letters.{IsWord-sorted_word, monomial_of-sorted_word, sorted_word-variable}
use Rattle.word_model.proofs.Termination.{normal_form-sorted}
use Rattle.word_model.proofs.NormalForms.{word_weight, row_weight, weigh-product, normal_form_is_polynomial, product_is_polynomial}
use Rattle.word_model.proofs.Confluence.{word_weight-inside}

-- the monomial of the empty word is 1
counts_from-empty : (i n : ℕ) → counts_from i n [] ≡ replicate n 0
counts_from-empty i zero = refl
counts_from-empty i (suc n) = ap (λ m. 0 ∷ m) (counts_from-empty (suc i) n)

-- a variable has an exponent for each variable
pub length-variable : (n v : ℕ) → 1 ≤ v → v ≤ n → length (variable n v) ≡ n
length-variable n v low high =
    length-append (replicate (v - 1) 0) (1 ∷ replicate (n - v) 0) ∙ omega (arith, length-replicate {A = ℕ} (v - 1) 0, length-replicate {A = ℕ} (n - v) 0)

-- the normal form of a letter is its variable
pub normal_form-letter : (A : Algebra) (v : ℕ) → 1 ≤ v → v ≤ A.order.vars → normal_form A (v ∷ []) ≡ variable_polynomial A v
normal_form-letter A v low high =
    let is : monomial_of A.order.vars (v ∷ []) ≡ variable A.order.vars v =
    ap (monomial_of A.order.vars) (sym (sorted_word-variable A.order.vars v low))
    ∙ monomial_of-sorted_word A.order.vars (variable A.order.vars v) (length-variable A.order.vars v low high) in
    normal_form-sorted A (v ∷ []) refl ∙ ap (λ m. (1, m) ∷ []) is

module _ (A : Algebra) (downward : RewritesDown A) (confluent : IsConfluent A) (above_one : 1 < A.p) where
  equal : (f g : Polynomial) → IsPolynomial A.p A.order f → IsPolynomial A.p A.order g
      → ((φ : Monomial → ℕ) → Same A.p (weigh φ f) (weigh φ g)) → f ≡ g
  equal f g hf hg e = same_poly (order_cmp A.order.rows) (order_cmp_total A.order.rows) (order_cmp_tied A.order.rows) A.p f g hf.canonical hg.canonical e

  module _ (φ : Monomial → ℕ) where
    -- the first part of a word may be brought to its normal form first
    pub first_part : (s b : Word) → IsWord A.order.vars (s ++ b) → Same A.p (word_weight A φ (s ++ b)) (word_weight A (λ m. word_weight A φ (sorted_word m ++ b)) s)
    first_part s b word = word_weight-inside A downward confluent above_one φ [] s b word

    -- so may the last part
    pub last_part : (a s : Word) → IsWord A.order.vars (a ++ s) → Same A.p (word_weight A φ (a ++ s)) (word_weight A (λ m. word_weight A φ (a ++ sorted_word m)) s)
    last_part a s word =
        same_refl A.p _ _ (λ t. word_weight A φ (a ++ sym (append-nil s) t))
        ∙ word_weight-inside A downward confluent above_one φ a s [] (subst (λ w. IsWord A.order.vars (a ++ w)) (sym (append-nil s)) word)
        ∙ same_refl A.p _ _ (λ t. word_weight A (λ m. word_weight A φ (a ++ append-nil (sorted_word m) t)) s)

  -- ---- associativity

  module _ (φ : Monomial → ℕ) where
    -- the weight of the words of three monomials, one after another
    abbrev triple_weight : Monomial → Monomial → Monomial → ℕ
    triple_weight a b c = word_weight A φ (sorted_word a ++ (sorted_word b ++ sorted_word c))

    module _ (a b c : Monomial) (ha : length a ≡ A.order.vars) (hb : length b ≡ A.order.vars) (hc : length c ≡ A.order.vars) where
      triple_is_word : IsWord A.order.vars (sorted_word a ++ (sorted_word b ++ sorted_word c))
      triple_is_word =
          Each-append _ (sorted_word a) (sorted_word b ++ sorted_word c) (IsWord-sorted_word A.order.vars a ha)
          (Each-append _ (sorted_word b) (sorted_word c) (IsWord-sorted_word A.order.vars b hb) (IsWord-sorted_word A.order.vars c hc))

      last_two : Same A.p (triple_weight a b c) (word_weight A (λ m. word_weight A φ (sorted_word a ++ sorted_word m)) (sorted_word b ++ sorted_word c))
      last_two = last_part φ (sorted_word a) (sorted_word b ++ sorted_word c) triple_is_word

      first_two : Same A.p (triple_weight a b c) (word_weight A (λ m. word_weight A φ (sorted_word m ++ sorted_word c)) (sorted_word a ++ sorted_word b))
      first_two =
          let same : (sorted_word a ++ sorted_word b) ++ sorted_word c ≡ sorted_word a ++ (sorted_word b ++ sorted_word c) =
          append_assoc (sorted_word a) (sorted_word b) (sorted_word c) in
          same_refl A.p _ _ (ap (word_weight A φ) (sym same))
          ∙ first_part φ (sorted_word a ++ sorted_word b) (sorted_word c) (subst (IsWord A.order.vars) (sym same) triple_is_word)

    module _ (f g h : Polynomial) (hf : HasVars A.order.vars f) (hg : HasVars A.order.vars g) (hh : HasVars A.order.vars h) where
      -- the weight of all triples of terms
      abbrev all_triples : ℕ
      all_triples = weigh (λ a. weigh (λ b. weigh (λ c. triple_weight a b c) h) g) f

      weigh-right : Same A.p (weigh φ (product A f (product A g h))) all_triples
      weigh-right =
          weigh-product A φ f (product A g h)
          ∙ weigh_alike_on A.p _ _ f (Each-weaker _ _ (λ t ha.
          weigh-product A (λ m. word_weight A φ (sorted_word t.1 ++ sorted_word m)) g h
          ∙ weigh_alike_on A.p _ _ g (Each-weaker _ _ (λ u hb.
          weigh_alike_on A.p _ _ h (Each-weaker _ _ (λ w hc. sym (last_two t.1 u.1 w.1 ha hb hc)) h hh)) g hg)) f hf)

      weigh-left : Same A.p (weigh φ (product A (product A f g) h)) all_triples
      weigh-left =
          weigh-product A φ (product A f g) h
          ∙ weigh-product A (row_weight A φ h) f g
          ∙ weigh_alike_on A.p _ _ f (Each-weaker _ _ (λ t ha.
          weigh_alike_on A.p _ _ g (Each-weaker _ _ (λ u hb.
          same_refl A.p _ _ (weigh-swap (λ m c. word_weight A φ (sorted_word m ++ sorted_word c)) (normal_form A (sorted_word t.1 ++ sorted_word u.1)) h)
          ∙ weigh_alike_on A.p _ _ h (Each-weaker _ _ (λ w hc. sym (first_two t.1 u.1 w.1 ha hb hc)) h hh)) g hg)) f hf)

  -- the product is associative
  pub product-assoc : (f g h : Polynomial) → HasVars A.order.vars f → HasVars A.order.vars g → HasVars A.order.vars h
      → product A (product A f g) h ≡ product A f (product A g h)
  product-assoc f g h hf hg hh =
      equal _ _ (product_is_polynomial A above_one (product A f g) h) (product_is_polynomial A above_one f (product A g h))
      (λ φ. weigh-left φ f g h hf hg hh ∙ sym (weigh-right φ f g h hf hg hh))

  -- ---- normal forms of words

  -- the product of two words' normal forms is that of the words, one after the other
  pub product-normal_form : (u w : Word) → IsWord A.order.vars (u ++ w) → product A (normal_form A u) (normal_form A w) ≡ normal_form A (u ++ w)
  product-normal_form u w word =
      equal _ _ (product_is_polynomial A above_one (normal_form A u) (normal_form A w)) (normal_form_is_polynomial A above_one (u ++ w))
      (λ φ.
      weigh-product A φ (normal_form A u) (normal_form A w)
      ∙ weigh_alike_on A.p _ (λ a. word_weight A φ (sorted_word a ++ w)) (normal_form A u)
      (Each-weaker _ _ (λ t ha. sym (last_part φ (sorted_word t.1) w (behind_monomial t.1 ha))) (normal_form A u) (normal_form_is_polynomial A above_one u).vars)
      ∙ sym (first_part φ u w word))
    where
      behind_monomial : (a : Monomial) → length a ≡ A.order.vars → IsWord A.order.vars (sorted_word a ++ w)
      behind_monomial a ha = Each-append _ (sorted_word a) w (IsWord-sorted_word A.order.vars a ha) (Each-second _ u w word)

  times_letters-normal_form : (u w : Word) → IsWord A.order.vars (u ++ w) → times_letters A (normal_form A u) w ≡ normal_form A (u ++ w)
  times_letters-normal_form u [] word = ap (normal_form A) (sym (append-nil u))
  times_letters-normal_form u (v ∷ w) word =
      let same : (u ++ v ∷ []) ++ w ≡ u ++ v ∷ w = append_assoc u (v ∷ []) w in
      let moved : IsWord A.order.vars ((u ++ v ∷ []) ++ w) = subst (IsWord A.order.vars) (sym same) word in
      let letter : (1 ≤ v) × (v ≤ A.order.vars) = (Each-second _ u (v ∷ w) word).0 in
      ap (λ f. times_letters A f w)
      (ap (product A (normal_form A u)) (sym (normal_form-letter A v letter.0 letter.1)) ∙ product-normal_form u (v ∷ []) (Each-first _ (u ++ v ∷ []) w moved))
      ∙ times_letters-normal_form (u ++ v ∷ []) w moved
      ∙ ap (normal_form A) same

  -- the letters of a word multiply to its normal form
  pub letters_product-normal_form : (w : Word) → IsWord A.order.vars w → letters_product A w ≡ normal_form A w
  letters_product-normal_form [] word = sym (normal_form-sorted A [] refl ∙ ap (λ m. (1, m) ∷ []) (counts_from-empty 1 A.order.vars))
  letters_product-normal_form (v ∷ w) word =
      ap (λ f. times_letters A f w) (sym (normal_form-letter A v word.0.0 word.0.1)) ∙ times_letters-normal_form (v ∷ []) w word
