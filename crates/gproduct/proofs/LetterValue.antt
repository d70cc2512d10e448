-- The normal form of a word, a letter at a time from the left.
use Rattle.std.proofs.Common.{◌≡◌, ℕ, suc, ◌+◌, ◌*◌, ◌<◌, ◌≤◌, [], ◌∷◌, ◌++◌, length, replicate, sym, ap, ◌∙◌, arith, length-append, append-nil}
use Rattle.std.proofs.lemmas.List.{length-replicate}
use Rattle.monomials.specs.Monomials.{Monomial, variable}
use Rattle.monomials.specs.Polynomials.{Polynomial, IsPolynomial, poly_degree}
use Rattle.monomials.proofs.Modulo.{same_refl}
use Rattle.monomials.proofs.Keys.{Each-append}
use Rattle.monomials.proofs.Weights.{weigh}
use Rattle.word_model.specs.Words.{Algebra, Word, IsWord, monomial_of, normal_form, sorted_word}
use Rattle.word_model.specs.Conditions.{IsGAlgebra}
use Rattle.word_model.specs.Products.{product, variable_polynomial}
use Rattle.word_model.proofs.Associativity.{last_part, length-variable}
use Rattle.word_model.proofs.Degrees.{normal_form-degree, poly_degree-le}
use Rattle.word_model.proofs.Descents.{leftmost_descent-sorted_word}
use Rattle.word_model.proofs.Letters.{length-counts_from, monomial_of-sorted_word, sorted_word-variable}
use Rattle.word_model.proofs.NormalForms.{word_weight, weigh-product, product_is_polynomial, normal_form_is_polynomial, same_weights}
use Rattle.word_model.proofs.Termination.{normal_form-sorted}
use Rattle.word_model.proofs.TermProducts.{degree-variable}
use Rattle.closed_forms.proofs.Passing.{power_is_word}
use Rattle.gproduct.specs.Inside.Swaps.{IsSwap}
use Rattle.gproduct.specs.declared.swap.Swap.{Swap}
use Rattle.gproduct.proofs.TwoPowers.{sorted_word-powers}

-- a letter, as a polynomial
pub letter_sorted : (A : Algebra) (v : ℕ) → 1 < A.p → 1 ≤ v → v ≤ A.order.vars → IsPolynomial A.p A.order (variable_polynomial A v)
letter_sorted A v above_one low high = record { canonical = (omega arith, above_one, tt, tt); vars = (length-variable A.order.vars v low high, tt) }

pub letter_degree : (A : Algebra) (v : ℕ) → 1 ≤ v → poly_degree (variable_polynomial A v) ≤ 1
letter_degree A v low = omega (arith, degree-variable A.order.vars v low)

module _ (A : Algebra) (accepted : IsGAlgebra A) where
  -- a letter times the normal form of a word is the normal form of the longer word
  pub letter_times : (v : ℕ) (w : Word) → 1 ≤ v → IsWord A.order.vars (v ∷ w) → product A (variable_polynomial A v) (normal_form A w) ≡ normal_form A (v ∷ w)
  letter_times v w low word =
      let above_one : 1 < A.p = accepted.field.more in
      same_weights A _ _ (product_is_polynomial A above_one (variable_polynomial A v) (normal_form A w)) (normal_form_is_polynomial A above_one (v ∷ w))
      (λ φ.
      let once : 1 * weigh (λ b. word_weight A φ (v ∷ sorted_word b)) (normal_form A w) + 0 ≡ weigh (λ b. word_weight A φ (v ∷ sorted_word b)) (normal_form A w) = omega arith in
      weigh-product A φ (variable_polynomial A v) (normal_form A w)
      ∙ same_refl A.p _ _
      ((λ k. 1 * weigh (λ b. word_weight A φ (sorted_word-variable A.order.vars v low k ++ sorted_word b)) (normal_form A w) + 0) ∙ once)
      ∙ sym (last_part A accepted.downward accepted.confluent above_one φ (v ∷ []) w word))

  -- the product of two letters
  pub letters_value : (i j : ℕ) → 1 ≤ i → i < j → j ≤ A.order.vars → product A (variable_polynomial A j) (variable_polynomial A i) ≡ normal_form A (j ∷ i ∷ [])
  letters_value i j low ordered high =
      let n : ℕ = A.order.vars in
      let m : Monomial = variable n i in
      let letter : variable_polynomial A i ≡ normal_form A (i ∷ []) =
      ap (λ m. (1, m) ∷ []) (sym (monomial_of-sorted_word n m (length-variable n i low (omega arith))))
      ∙ sym (normal_form-sorted A (sorted_word m) (leftmost_descent-sorted_word m))
      ∙ ap (normal_form A) (sorted_word-variable n i low) in
      ap (product A (variable_polynomial A j)) letter ∙ letter_times j (i ∷ []) (omega arith) ((omega arith, high), ((low, omega arith), tt))

  module _ (swap : Swap) (is : IsSwap A swap) where
    -- the word x_j^k x_i^b
    abbrev pub raised : ℕ → Word
    raised k = replicate k swap.j ++ replicate swap.b swap.i

    raised_is_word : (k : ℕ) → IsWord A.order.vars (raised k)
    raised_is_word k =
        Each-append _ (replicate k swap.j) (replicate swap.b swap.i)
        (power_is_word A.order.vars swap.j (omega (arith, is.first, is.ordered)) is.last k) (power_is_word A.order.vars swap.i is.first (omega (arith, is.ordered, is.last)) swap.b)

    -- one letter more
    pub letter_more : (k : ℕ) (value : Polynomial) → value ≡ normal_form A (raised k) → product A (variable_polynomial A swap.j) value ≡ normal_form A (raised (k + 1))
    letter_more k value eq =
        let next : suc k ≡ k + 1 = omega arith in
        ap (product A (variable_polynomial A swap.j)) eq
        ∙ letter_times swap.j (raised k) (omega (arith, is.first, is.ordered)) ((omega (arith, is.first, is.ordered), is.last), raised_is_word k)
        ∙ ap (λ k. normal_form A (raised k)) next

    -- the degree stays in reach
    pub raised_degree : (k : ℕ) (value : Polynomial) → k < swap.a → value ≡ normal_form A (raised k) → 1 + poly_degree value ≤ 4095
    raised_degree k value less eq =
        let size : length (raised k) ≡ k + swap.b =
        length-append (replicate k swap.j) (replicate swap.b swap.i) ∙ (λ n. length-replicate {A = ℕ} k swap.j n + length-replicate {A = ℕ} swap.b swap.i n) in
        omega (
          arith,
          is.reach,
          ap poly_degree eq,
          size,
          poly_degree-le (normal_form A (raised k)) (length (raised k)) (normal_form-degree A accepted.downward (length (raised k)) (raised k) (raised_is_word k) (omega arith)),
        )

    -- the power of x_i alone
    pub raised_none : (1, monomial_of A.order.vars (replicate swap.b swap.i ++ replicate 0 swap.j)) ∷ [] ≡ normal_form A (raised 0)
    raised_none =
        let n : ℕ = A.order.vars in
        let low : Monomial = monomial_of n (replicate swap.b swap.i ++ replicate 0 swap.j) in
        let word : sorted_word low ≡ replicate swap.b swap.i =
        sorted_word-powers swap.i swap.j swap.b 0 is.first is.ordered n is.last ∙ append-nil (replicate swap.b swap.i) in
        ap (λ m. (1, m) ∷ []) (sym (monomial_of-sorted_word n low (length-counts_from 1 n (replicate swap.b swap.i ++ replicate 0 swap.j))))
        ∙ sym (normal_form-sorted A (sorted_word low) (leftmost_descent-sorted_word low))
        ∙ ap (normal_form A) word
