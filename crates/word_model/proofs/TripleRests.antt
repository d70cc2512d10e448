-- The rest of a triple is the difference of the two rewritings of its word, from the relations' pairs alone.
use Rattle.std.proofs.Common.{◌≡◌, ℕ, ◌+◌, ◌-◌, ◌*◌, ◌<◌, ◌≤◌, [], ◌∷◌, ◌++◌, refl, sym, ap, ◌∙◌, arith, append-nil}
use Rattle.monomials.specs.Monomials.{Monomial}
use Rattle.monomials.specs.Orders.{order_cmp}
use Rattle.monomials.specs.Polynomials.{Polynomial, poly_scale, poly_sub}
use Rattle.monomials.proofs.Modulo.{Same, same_refl, same_add, same_mul, same_lin, same_none}
use Rattle.monomials.proofs.OrderLaws.{order_cmp_tied}
use Rattle.monomials.proofs.Weights.{weigh, weigh-append, weigh-times, weigh_equal, weigh-poly_add, weigh-poly_scale}
use Rattle.monomials.proofs.Operations.{IsPolynomial-poly_add, IsPolynomial-poly_scale}
use Rattle.word_model.specs.Words.{Algebra, Word, WordSum, sorted_word, behind_letter, c_of, d_of, rewritten, word_value, RewritesDown}
use Rattle.word_model.specs.Conditions.{times_words, overlap, triple_rest}
use Rattle.word_model.proofs.Descents.{descent, descent_here, descent_behind}
use Rattle.word_model.proofs.NormalForms.{word_weight, weigh-word_value, word_value_is_polynomial, same_weights}
use Rattle.word_model.proofs.Rules.{weigh-rewritten, by_descent}
use Rattle.word_model.proofs.Overlaps.{six_terms, one_side}

other_way : (cij cik cjk z k_d d_j i_d : ℕ)
    → cij * (cik * (cjk * z + i_d) + d_j) + k_d ≡ cjk * cik * cij * z + (k_d + cij * d_j + cij * cik * i_d)
other_way cij cik cjk z k_d d_j i_d = omega arith

regrouped : (q m s t : ℕ) → (m + s) + q * (m + t) ≡ (m + q * m) + (s + q * t)
regrouped q m s t = omega arith

module _ (A : Algebra) (above_one : 1 < A.p) (downward : RewritesDown A) (i j k : ℕ) (low : 1 ≤ i) (ij : i < j) (jk : j < k) (high : k ≤ A.order.vars) where
  -- the value with k j rewritten first, and with j i
  abbrev first_value : Polynomial
  first_value = word_value A (rewritten A (descent [] k j (i ∷ [])))

  abbrev second_value : Polynomial
  second_value = word_value A (rewritten A (descent (k ∷ []) j i []))

  abbrev IsLetter : ℕ → Type 0
  IsLetter v = (1 ≤ v) × (v ≤ A.order.vars)

  i_in : IsLetter i
  i_in = (low, omega arith)

  j_in : IsLetter j
  j_in = (omega arith, omega arith)

  k_in : IsLetter k
  k_in = (omega arith, high)

  module _ (φ : Monomial → ℕ) where
    abbrev ψ : Word → ℕ
    ψ = word_weight A φ

    -- a pair in front of a letter
    in_front : (x y c : ℕ) → IsLetter x → IsLetter y → IsLetter c → y < x
        → Same A.p (ψ (x ∷ y ∷ c ∷ [])) (c_of A y x * ψ (y ∷ x ∷ c ∷ []) + weigh (λ m. ψ (sorted_word m ++ c ∷ [])) (d_of A y x))
    in_front x y c hx hy hc h = by_descent A downward φ [] x y (c ∷ []) (hx, (hy, (hc, tt))) (descent_here x y (c ∷ []) h)

    -- the words of a relation behind a letter
    last_sum : (a : ℕ) (f : Polynomial) → weigh (λ m. ψ (a ∷ (sorted_word m ++ []))) f ≡ weigh (λ m. ψ (a ∷ sorted_word m)) f
    last_sum a f = weigh_equal _ _ (λ m. ap (λ w. ψ (a ∷ w)) (append-nil (sorted_word m))) f

    -- a pair behind a letter that is no greater
    behind : (a x y : ℕ) → IsLetter a → IsLetter x → IsLetter y → y < x → a ≤ x
        → Same A.p (ψ (a ∷ x ∷ y ∷ [])) (c_of A y x * ψ (a ∷ y ∷ x ∷ []) + weigh (λ m. ψ (a ∷ sorted_word m)) (d_of A y x))
    behind a x y ha hx hy h le =
        by_descent A downward φ (a ∷ []) x y [] (ha, (hx, (hy, tt))) (descent_behind a x (y ∷ []) le ∙ ap (behind_letter a) (descent_here x y [] h))
        ∙ same_refl A.p _ _ (ap (λ s. c_of A y x * ψ (a ∷ y ∷ x ∷ []) + s) (last_sum a (d_of A y x)))

    -- ---- the sorted word, and six sums over the terms of the relations

    abbrev z : ℕ
    z = ψ (i ∷ j ∷ k ∷ [])

    abbrev d_k : ℕ
    d_k = weigh (λ m. ψ (sorted_word m ++ k ∷ [])) (d_of A i j)

    abbrev k_d : ℕ
    k_d = weigh (λ m. ψ (k ∷ sorted_word m)) (d_of A i j)

    abbrev j_d : ℕ
    j_d = weigh (λ m. ψ (j ∷ sorted_word m)) (d_of A i k)

    abbrev d_j : ℕ
    d_j = weigh (λ m. ψ (sorted_word m ++ j ∷ [])) (d_of A i k)

    abbrev d_i : ℕ
    d_i = weigh (λ m. ψ (sorted_word m ++ i ∷ [])) (d_of A j k)

    abbrev i_d : ℕ
    i_d = weigh (λ m. ψ (i ∷ sorted_word m)) (d_of A j k)

    -- both ways lead to the sorted word with the same number
    abbrev most : ℕ
    most = c_of A j k * c_of A i k * c_of A i j * z

    abbrev first_rest : ℕ
    first_rest = c_of A i k * c_of A j k * d_k + c_of A j k * j_d + d_i

    abbrev second_rest : ℕ
    second_rest = k_d + c_of A i j * d_j + c_of A i j * c_of A i k * i_d

    weigh-first : Same A.p (weigh φ first_value) (most + first_rest)
    weigh-first =
        weigh-word_value A φ (rewritten A (descent [] k j (i ∷ [])))
        ∙ same_refl A.p _ _ (weigh-rewritten A ψ [] k j (i ∷ []))
        ∙ same_lin A.p (c_of A j k) _ _ d_i d_i
        (behind j k i j_in k_in i_in (omega arith) (omega arith) ∙ same_lin A.p (c_of A i k) _ _ j_d j_d (in_front j i k j_in i_in k_in ij) refl)
        refl
        ∙ same_refl A.p _ _ (one_side (c_of A i j) (c_of A i k) (c_of A j k) z d_k j_d d_i)

    weigh-second : Same A.p (weigh φ second_value) (most + second_rest)
    weigh-second =
        weigh-word_value A φ (rewritten A (descent (k ∷ []) j i []))
        ∙ same_refl A.p _ _ (weigh-rewritten A ψ (k ∷ []) j i [] ∙ ap (λ s. c_of A i j * ψ (k ∷ i ∷ j ∷ []) + s) (last_sum k (d_of A i j)))
        ∙ same_lin A.p (c_of A i j) _ _ k_d k_d
        (in_front k i j k_in i_in j_in (omega arith) ∙ same_lin A.p (c_of A i k) _ _ d_j d_j (behind i k j i_in k_in j_in jk (omega arith)) refl)
        refl
        ∙ same_refl A.p _ _ (other_way (c_of A i j) (c_of A i k) (c_of A j k) z k_d d_j i_d)

    weigh-overlap : weigh ψ (overlap A i j k) ≡ first_rest + (A.p - 1) * second_rest
    weigh-overlap =
        let p1 : WordSum = times_words (c_of A i k * c_of A j k) (λ m. sorted_word m ++ k ∷ []) (d_of A i j) in
        let p2 : WordSum = times_words (A.p - 1) (λ m. k ∷ sorted_word m) (d_of A i j) in
        let p3 : WordSum = times_words (c_of A j k) (λ m. j ∷ sorted_word m) (d_of A i k) in
        let p4 : WordSum = times_words ((A.p - 1) * c_of A i j) (λ m. sorted_word m ++ j ∷ []) (d_of A i k) in
        let p5 : WordSum = times_words 1 (λ m. sorted_word m ++ i ∷ []) (d_of A j k) in
        let p6 : WordSum = times_words ((A.p - 1) * (c_of A i j * c_of A i k)) (λ m. i ∷ sorted_word m) (d_of A j k) in
        let q1 : weigh ψ p1 ≡ c_of A i k * c_of A j k * d_k = weigh-times ψ (c_of A i k * c_of A j k) (λ m. sorted_word m ++ k ∷ []) (d_of A i j) in
        let q2 : weigh ψ p2 ≡ (A.p - 1) * k_d = weigh-times ψ (A.p - 1) (λ m. k ∷ sorted_word m) (d_of A i j) in
        let q3 : weigh ψ p3 ≡ c_of A j k * j_d = weigh-times ψ (c_of A j k) (λ m. j ∷ sorted_word m) (d_of A i k) in
        let q4 : weigh ψ p4 ≡ (A.p - 1) * c_of A i j * d_j = weigh-times ψ ((A.p - 1) * c_of A i j) (λ m. sorted_word m ++ j ∷ []) (d_of A i k) in
        let q5 : weigh ψ p5 ≡ 1 * d_i = weigh-times ψ 1 (λ m. sorted_word m ++ i ∷ []) (d_of A j k) in
        let q6 : weigh ψ p6 ≡ (A.p - 1) * (c_of A i j * c_of A i k) * i_d =
        weigh-times ψ ((A.p - 1) * (c_of A i j * c_of A i k)) (λ m. i ∷ sorted_word m) (d_of A j k) in
        weigh-append ψ p1 (p2 ++ (p3 ++ (p4 ++ (p5 ++ p6))))
        ∙ ap (λ y. weigh ψ p1 + y) (weigh-append ψ p2 (p3 ++ (p4 ++ (p5 ++ p6))))
        ∙ ap (λ y. weigh ψ p1 + (weigh ψ p2 + y)) (weigh-append ψ p3 (p4 ++ (p5 ++ p6)))
        ∙ ap (λ y. weigh ψ p1 + (weigh ψ p2 + (weigh ψ p3 + y))) (weigh-append ψ p4 (p5 ++ p6))
        ∙ ap (λ y. weigh ψ p1 + (weigh ψ p2 + (weigh ψ p3 + (weigh ψ p4 + y)))) (weigh-append ψ p5 p6)
        ∙ (λ t. q1 t + (q2 t + (q3 t + (q4 t + (q5 t + q6 t)))))
        ∙ six_terms (A.p - 1) (c_of A i j) (c_of A i k) (c_of A j k) d_k k_d j_d d_j d_i i_d

    weigh-difference : Same A.p (weigh φ (poly_sub (order_cmp A.order.rows) A.p first_value second_value)) (first_rest + (A.p - 1) * second_rest)
    weigh-difference =
        weigh-poly_add (order_cmp A.order.rows) (order_cmp_tied A.order.rows) A.p φ first_value (poly_scale A.p (A.p - 1) second_value)
        ∙ same_add A.p _ _ _ _ weigh-first (weigh-poly_scale A.p φ (A.p - 1) second_value ∙ same_mul A.p (A.p - 1) _ _ weigh-second)
        ∙ same_refl A.p _ _ (regrouped (A.p - 1) most first_rest second_rest)
        ∙ same_add A.p (most + (A.p - 1) * most) 0 (first_rest + (A.p - 1) * second_rest) _ (same_none A.p most (omega (arith, above_one))) refl
        ∙ same_refl A.p (0 + (first_rest + (A.p - 1) * second_rest)) _ (omega arith)

  -- the rest is the difference of the two values
  pub triple_rest_is : triple_rest A i j k ≡ poly_sub (order_cmp A.order.rows) A.p first_value second_value
  triple_rest_is =
      same_weights A (triple_rest A i j k) (poly_sub (order_cmp A.order.rows) A.p first_value second_value)
      (word_value_is_polynomial A above_one (overlap A i j k))
      (IsPolynomial-poly_add A.p A.order (omega (arith, above_one)) first_value (poly_scale A.p (A.p - 1) second_value)
      (word_value_is_polynomial A above_one (rewritten A (descent [] k j (i ∷ []))))
      (IsPolynomial-poly_scale A.p A.order (omega (arith, above_one)) (A.p - 1) second_value (word_value_is_polynomial A above_one (rewritten A (descent (k ∷ []) j i [])))))
      (λ φ. weigh-word_value A φ (overlap A i j k) ∙ same_refl A.p _ _ (weigh-overlap φ) ∙ sym (weigh-difference φ))
