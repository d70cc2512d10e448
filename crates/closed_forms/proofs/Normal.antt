-- The closed form of each kind is the normal form of y^a x^b.
use Rattle.std.proofs.Common.{◌≡◌, ℕ, suc, ◌+◌, ◌-◌, ◌*◌, ◌%◌, ◌^◌, ◌<◌, ◌≤◌, ◌⊎◌, inl, inr, min, [], ◌∷◌, ◌++◌, map, replicate, refl, sym, ap, ◌∙◌, arith}
use Rattle.monomials.specs.Monomials.{Monomial}
use Rattle.monomials.specs.Orders.{order_cmp}
use Rattle.monomials.proofs.Modulo.{Same, same_refl, same_mul_right, same_rest}
use Rattle.monomials.proofs.Weights.{weigh, weigh-cons_nonzero, weigh-map_key, weigh-from_terms}
use Rattle.monomials.proofs.Canonical.{same_poly, IsCanonical-from_terms}
use Rattle.monomials.proofs.OrderLaws.{order_cmp_total, order_cmp_tied}
use Rattle.word_model.specs.Words.{Algebra, monomial_of, normal_form, c_of, d_of, RewritesDown}
use Rattle.word_model.proofs.NormalForms.{normal_form_is_polynomial}
use Rattle.closed_forms.specs.declared.PairKind.{PairKind}
use Rattle.closed_forms.specs.declared.PairKind.TheVariants.{Commuting, Quasi, Weyl, QWeyl, LeftLinear, RightLinear}
use Rattle.closed_forms.specs.Kinds.{number_of, polynomial_of, HasKind}
use Rattle.closed_forms.specs.Forms.{Powers, Terms, sum_of_terms, weyl_number, weyl_form, binomial_number, closed_form, in_algebra}
use Rattle.closed_forms.proofs.Sums.{sum_below, sum_below_equal, sum_below-cut, weigh-sum_of_terms}
use Rattle.closed_forms.proofs.Pascal.{one_pow}
use Rattle.closed_forms.proofs.WeylNumbers.{weyl_number-above, weyl_number-beyond}
use Rattle.closed_forms.proofs.Shifts.{shifted, binomial_theorem}
use Rattle.closed_forms.proofs.Passing.{weight-sorted, IsWeylRule, weyl_rule, left_rule, right_rule}
use Rattle.closed_forms.proofs.Powers.{before_powers, sorted_powers, weyl_weight, weyl_powers, quasi_powers, left_powers, right_powers}

none_more : (b : ℕ) → 0 + b ≡ b
none_more b = omega arith

module _ (A : Algebra) (downward : RewritesDown A) (i j : ℕ) (low : 1 ≤ i) (ij : i < j) (high : j ≤ A.order.vars) where
  module _ (φ : Monomial → ℕ) where
    -- the weight of x^s y^t
    abbrev monomial_weight : Powers → ℕ
    monomial_weight m = sorted_powers A downward i j low ij high φ m.0 m.1

    -- the weight of y^a x^b
    abbrev word_of_powers : ℕ → ℕ → ℕ
    word_of_powers a b = before_powers A downward i j low ij high φ 0 a b

    -- a normal form weighs as the terms do in the algebra
    in_algebra-weight : (f : Terms) → Same A.p (weigh φ (in_algebra A i j f)) (weigh monomial_weight f)
    in_algebra-weight f =
        weigh-from_terms (order_cmp A.order.rows) (order_cmp_tied A.order.rows) A.p φ (map (λ t. (t.0, monomial_of A.order.vars (replicate t.1.0 i ++ replicate t.1.1 j))) f)
        ∙ same_refl A.p _ _
        (weigh-map_key φ (λ m. monomial_of A.order.vars (replicate m.0 i ++ replicate m.1 j)) f
        ∙ weigh_equal_sorted f)
      where
        weigh_equal_sorted : (f : Terms) → weigh (λ m. φ (monomial_of A.order.vars (replicate m.0 i ++ replicate m.1 j))) f ≡ weigh monomial_weight f
        weigh_equal_sorted [] = refl
        weigh_equal_sorted (t ∷ f) = λ k. t.0 * sym (weight-sorted A downward i j low ij high φ t.1.0 t.1.1) k + weigh_equal_sorted f k

    weyl_form-weight : (q delta : ℕ) → IsWeylRule A downward i j low ij high φ q delta → (a b : ℕ)
        → Same A.p (word_of_powers a b) (weigh monomial_weight (weyl_form A.p q delta a b))
    weyl_form-weight q delta rule a b =
        weyl_powers A downward i j low ij high φ q delta rule b 0 a (suc b) (omega arith)
        ∙ same_refl A.p _ _ (sum_below-cut (suc (min a b)) (suc b) (weyl_weight A downward i j low ij high φ q delta 0 a b) (omega arith) none)
        ∙ same_refl A.p _ _ (sum_below_equal (suc (min a b)) _ _ (λ k. ap (λ r. weyl_number q delta a b k * monomial_weight (r - k, a - k)) (none_more b)))
        ∙ sym (weigh-sum_of_terms A.p monomial_weight (weyl_number q delta a b) (λ k. (b - k, a - k)) (suc (min a b)))
      where
        beyond : (k : ℕ) → suc (min a b) ≤ k → (a < k) ⊎ (b < k)
        beyond k h = grind arith

        vanishes : (k : ℕ) → (a < k) ⊎ (b < k) → weyl_number q delta a b k ≡ 0
        vanishes k (inl h) = weyl_number-above q delta a b k h
        vanishes k (inr h) = weyl_number-beyond q delta a b k h

        none : (k : ℕ) → suc (min a b) ≤ k → weyl_weight A downward i j low ij high φ q delta 0 a b k ≡ 0
        none k h = ap (λ x. x * monomial_weight (0 + b - k, a - k)) (vanishes k (beyond k h)) ∙ omega arith

    binomial_form-weight : (c n : ℕ) (at : ℕ → Powers)
        → Same A.p (sum_below (suc n) (λ k. binomial_number c n k * monomial_weight (at k))) (weigh monomial_weight (sum_of_terms A.p (binomial_number c n) at (suc n)))
    binomial_form-weight c n at = sym (weigh-sum_of_terms A.p monomial_weight (binomial_number c n) at (suc n))

    -- the closed form weighs as y^a x^b does
    closed_form-weight : (kind : PairKind) → c_of A i j ≡ number_of kind → d_of A i j ≡ polynomial_of A.order.vars i j kind → (a b : ℕ)
        → Same A.p (word_of_powers a b) (weigh monomial_weight (closed_form A.p kind a b))
    closed_form-weight Commuting number polynomial a b =
        quasi_powers A downward i j low ij high φ 1 (weyl_rule A downward i j low ij high φ 1 0 number (λ ψ. ap (weigh ψ) polynomial ∙ omega arith)) b 0 a
        ∙ same_refl A.p _ _ (ap (λ x. x * monomial_weight (0 + b, a)) (one_pow (a * b)) ∙ ap (λ r. 1 * monomial_weight (r, a)) (none_more b) ∙ omega arith)
    closed_form-weight (Quasi q) number polynomial a b =
        quasi_powers A downward i j low ij high φ q (weyl_rule A downward i j low ij high φ q 0 number (λ ψ. ap (weigh ψ) polynomial ∙ omega arith)) b 0 a
        ∙ same_refl A.p _ _ (ap (λ r. q ^ (a * b) * monomial_weight (r, a)) (none_more b))
        ∙ sym (same_mul_right A.p (monomial_weight (b, a)) _ _ (same_rest A.p (q ^ (a * b))))
        ∙ same_refl A.p _ _ (omega (arith, weigh-cons_nonzero monomial_weight (q ^ (a * b) % A.p) (b, a) []))
    closed_form-weight (Weyl delta) number polynomial a b =
        weyl_form-weight 1 delta (weyl_rule A downward i j low ij high φ 1 delta number (λ ψ. ap (weigh ψ) polynomial ∙ omega arith)) a b
    closed_form-weight (QWeyl q delta) number polynomial a b =
        weyl_form-weight q delta (weyl_rule A downward i j low ij high φ q delta number (λ ψ. ap (weigh ψ) polynomial ∙ omega arith)) a b
    closed_form-weight (LeftLinear alpha) number polynomial a b =
        left_powers A downward i j low ij high φ alpha (left_rule A downward i j low ij high φ alpha number polynomial) b 0 a
        ∙ same_refl A.p _ _ (ap (λ r. shifted (b * alpha) a (λ k. monomial_weight (r, k))) (none_more b) ∙ binomial_theorem (b * alpha) a (suc a) (λ k. monomial_weight (b, k)) (omega arith))
        ∙ binomial_form-weight (b * alpha) a (λ k. (b, a - k))
    closed_form-weight (RightLinear beta) number polynomial a b =
        right_powers A downward i j low ij high φ beta (right_rule A downward i j low ij high φ beta number polynomial) b 0 a
        ∙ same_refl A.p _ _ ((λ t. shifted (a * beta) b (λ k. monomial_weight (none_more k t, a))) ∙ binomial_theorem (a * beta) b (suc b) (λ k. monomial_weight (k, a)) (omega arith))
        ∙ binomial_form-weight (a * beta) b (λ k. (b - k, a))

-- the closed form is the normal form
pub normal_form-powers : (A : Algebra) (i j : ℕ) (kind : PairKind) (a b : ℕ) → 1 < A.p → RewritesDown A → HasKind A i j kind
    → normal_form A (replicate a j ++ replicate b i) ≡ in_algebra A i j (closed_form A.p kind a b)
normal_form-powers A i j kind a b above_one downward has =
    same_poly (order_cmp A.order.rows) (order_cmp_total A.order.rows) (order_cmp_tied A.order.rows) A.p _ _
    (normal_form_is_polynomial A above_one (replicate a j ++ replicate b i)).canonical
    (IsCanonical-from_terms (order_cmp A.order.rows) (order_cmp_total A.order.rows) (order_cmp_tied A.order.rows) A.p (omega arith)
    (map (λ t. (t.0, monomial_of A.order.vars (replicate t.1.0 i ++ replicate t.1.1 j))) (closed_form A.p kind a b)))
    (λ φ.
    closed_form-weight A downward i j has.first has.ordered has.last φ kind has.relation.number has.relation.polynomial a b
    ∙ sym (in_algebra-weight A downward i j has.first has.ordered has.last φ (closed_form A.p kind a b)))
