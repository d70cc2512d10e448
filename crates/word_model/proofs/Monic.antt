-- The monic multiple of a polynomial, and the monomial 1.
use Rattle.std.proofs.Common.{◌≡◌, ◌≢◌, ℕ, zero, suc, ◌+◌, ◌*◌, ◌%◌, [], ◌∷◌, ◌++◌, length, refl, sym, ap, ◌∙◌, subst, arith, append-nil}
use Rattle.std.proofs.Math.Nat.{mod-eq_of_lt}
use Rattle.std.proofs.Math.ListN.{length-replicate}
use Rattle.prime_field.specs.Modular.{inverse}
use Rattle.monomials.specs.Monomials.{Monomial, one, plus}
use Rattle.monomials.specs.Leading.{leading_monomial, leading_coefficient}
use Rattle.monomials.specs.Polynomials.{Polynomial, HasVars, IsPolynomial, cons_nonzero, poly_scale}
use Rattle.monomials.proofs.Modulo.{Same, same_refl, same_mul, same_mul_right}
use Rattle.monomials.proofs.Weights.{weigh, weigh_alike_on, weigh-poly_scale}
use Rattle.monomials.proofs.Keys.{Each-weaker}
use Rattle.word_model.specs.Words.{Algebra, sorted_word}
use Rattle.word_model.proofs.Letters.{word_from-zeros}
use Rattle.word_model.specs.Conditions.{IsGAlgebra}
use Rattle.word_model.specs.Reduction.{multiple}
use Rattle.word_model.specs.Machine.{IsElement}
use Rattle.word_model.proofs.NormalForms.{word_weight, word_weight-sorted, row_weight, same_weights}
use Rattle.word_model.proofs.Divisions.{inverse-is}
use Rattle.word_model.proofs.Multiples.{leading_coefficient-nonzero}
use Rattle.word_model.proofs.MultipleWeights.{behind, weigh-term}
use Rattle.word_model.proofs.Differences.{scale_is, multiple_is}

-- ---- the monomial 1

pub length-one : (n : ℕ) → length (one n) ≡ n
length-one n = length-replicate n 0

pub plus-one : (n : ℕ) (m : Monomial) → length m ≡ n → plus (one n) m ≡ m
plus-one zero [] e = refl
plus-one zero (x ∷ m) e = absurd (omega arith)
plus-one (suc n) [] e = absurd (omega arith)
plus-one (suc n) (x ∷ m) e = let z : 0 + x ≡ x = omega arith in λ t. z t ∷ plus-one n m (omega arith) t

module _ (A : Algebra) where
  -- behind m, 1 weighs what m does
  pub behind-one : (φ : Monomial → ℕ) (m : Monomial) → length m ≡ A.order.vars → behind A m φ (one A.order.vars) ≡ φ m
  behind-one φ m hm =
      ap (λ w. word_weight A φ (sorted_word m ++ w)) (word_from-zeros 1 A.order.vars) ∙ ap (word_weight A φ) (append-nil (sorted_word m)) ∙ word_weight-sorted A φ m hm

  -- 1 times g weighs what g does
  pub row_weight-one : (φ : Monomial → ℕ) (g : Polynomial) → HasVars A.order.vars g → Same A.p (row_weight A φ g (one A.order.vars)) (weigh φ g)
  row_weight-one φ g vars =
      weigh_alike_on A.p (λ b. word_weight A φ (sorted_word (one A.order.vars) ++ sorted_word b)) φ g
      (Each-weaker _ _ (λ t e.
      same_refl A.p _ _ (ap (λ w. word_weight A φ (w ++ sorted_word t.1)) (word_from-zeros 1 A.order.vars) ∙ word_weight-sorted A φ t.1 e)) g vars)

-- ---- monic multiples

module _ (A : Algebra) (ok : IsGAlgebra A) where
  -- 1 times g is g
  pub multiple-one : (g : Polynomial) → IsPolynomial A.p A.order g → multiple A 1 (one A.order.vars) g ≡ g
  multiple-one g g_is =
      same_weights A (multiple A 1 (one A.order.vars) g) g (multiple_is A ok 1 (one A.order.vars) g) g_is
      (λ φ. weigh-term A φ (one A.order.vars) g ∙ row_weight-one A φ g g_is.vars)

  -- the multiple of f with leading coefficient 1
  abbrev pub monic : Polynomial → Polynomial
  monic f = poly_scale A.p (inverse A.p (leading_coefficient f)) f

  module _ (f : Polynomial) (f_is : IsPolynomial A.p A.order f) (nonzero : f ≢ []) where
    inverted : Same A.p (leading_coefficient f * inverse A.p (leading_coefficient f)) 1
    inverted = inverse-is A.p (leading_coefficient f) ok.field (leading_coefficient-nonzero A f f_is.canonical nonzero)

    -- what it begins with
    begins : (g : Polynomial) → f ≡ g → (leading_coefficient (monic g) ≡ 1) × (leading_monomial (monic g) ≡ leading_monomial g) × (monic g ≢ [])
    begins [] e = absurd (nonzero e)
    begins (t ∷ g) e =
        let k : ℕ = inverse A.p t.0 in
        let unit : Same A.p (t.0 * k) 1 = subst (λ f. Same A.p (leading_coefficient f * inverse A.p (leading_coefficient f)) 1) e inverted in
        let turned : k * t.0 ≡ t.0 * k = omega arith in
        let is_one : (k * t.0) % A.p ≡ 1 = ap (λ x. x % A.p) turned ∙ unit ∙ mod-eq_of_lt ok.field.more in
        let is : monic (t ∷ g) ≡ (1, t.1) ∷ poly_scale A.p k g = ap (λ c. cons_nonzero c t.1 (poly_scale A.p k g)) is_one in
        (ap leading_coefficient is, ap leading_monomial is, λ none. (let no : (1, t.1) ∷ poly_scale A.p k g ≡ [] = sym is ∙ none in cc))

    pub monic-coefficient : leading_coefficient (monic f) ≡ 1
    monic-coefficient = (begins f refl).0

    pub monic-leading : leading_monomial (monic f) ≡ leading_monomial f
    monic-leading = (begins f refl).1

    pub monic-is : IsElement A (monic f)
    monic-is = (scale_is A ok (inverse A.p (leading_coefficient f)) f f_is, (begins f refl).2)

    -- the polynomial is its leading coefficient times that
    pub from_monic : (φ : Monomial → ℕ) → Same A.p (weigh φ f) (leading_coefficient f * weigh φ (monic f))
    from_monic φ =
        let c : ℕ = leading_coefficient f in
        let k : ℕ = inverse A.p (leading_coefficient f) in
        sym (same_mul A.p c _ _ (weigh-poly_scale A.p φ k f)
        ∙ same_refl A.p _ _ (regroup c k (weigh φ f))
        ∙ same_mul_right A.p (weigh φ f) (c * k) 1 inverted
        ∙ same_refl A.p _ _ (once (weigh φ f)))
      where
        regroup : (c k x : ℕ) → c * (k * x) ≡ c * k * x
        regroup c k x = omega arith

        once : (x : ℕ) → 1 * x ≡ x
        once x = omega arith
