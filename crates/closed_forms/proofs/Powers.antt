-- What y^a x^b weighs, by induction on b.
use Rattle.std.proofs.Common.{◌≡◌, ℕ, zero, suc, ◌+◌, ◌-◌, ◌*◌, ◌^◌, ◌<◌, ◌≤◌, [], replicate, refl, sym, ap, ◌∙◌, arith}
use Rattle.std.proofs.Math.Nat.{pow-zero}
use Rattle.std.proofs.Common.{pow-add}
use Rattle.monomials.specs.Monomials.{Monomial}
use Rattle.monomials.proofs.Modulo.{Same, same_refl, same_add, same_mul}
use Rattle.word_model.specs.Words.{Algebra, IsWord, RewritesDown}
use Rattle.closed_forms.specs.Binomials.{q_number}
use Rattle.closed_forms.specs.Forms.{weyl_number}
use Rattle.closed_forms.proofs.Sums.{sum_below, sum_below_equal, sum_below_none, sum_below-lin}
use Rattle.closed_forms.proofs.WeylNumbers.{weyl_number-first, weyl_number-next, weyl_number-start, weyl_number-none}
use Rattle.closed_forms.proofs.Shifts.{shifted, shifted_alike, shifted-none, shifted-shifted}
use Rattle.closed_forms.proofs.Passing.{power_is_word, weight, IsWeylRule, pass_weyl, IsLeftRule, pass_left, IsRightRule, pass_right}

module _ (A : Algebra) (downward : RewritesDown A) (i j : ℕ) (low : 1 ≤ i) (ij : i < j) (high : j ≤ A.order.vars) (φ : Monomial → ℕ) where
  -- the weight of x^s y^a x^b
  abbrev pub before_powers : ℕ → ℕ → ℕ → ℕ
  before_powers s a b = weight A downward i j low ij high φ s a (replicate b i)

  -- the weight of x^s y^t
  abbrev pub sorted_powers : ℕ → ℕ → ℕ
  sorted_powers s t = weight A downward i j low ij high φ s t []

  x_is_word : (b : ℕ) → IsWord A.order.vars (replicate b i)
  x_is_word b = power_is_word A.order.vars i low (omega arith) b

  -- ---- where y x = q x y + δ

  module _ (q delta : ℕ) where
    -- what the term k of y^a x^b weighs behind x^s
    abbrev pub weyl_weight : ℕ → ℕ → ℕ → ℕ → ℕ
    weyl_weight s a b k = weyl_number q delta a b k * sorted_powers (s + b - k) (a - k)

    weyl_weight-first : (s a b : ℕ) → weyl_weight s a (suc b) 0 ≡ q ^ a * weyl_weight (suc s) a b 0
    weyl_weight-first s a b =
        let e : s + suc b - 0 ≡ suc s + b - 0 = omega arith in
        rw (e, weyl_number-first q delta a b) (omega arith)

    weyl_weight-next : (s a b k : ℕ) → weyl_weight s a (suc b) (suc k) ≡ q ^ a * weyl_weight (suc s) a b (suc k) + (delta * q_number q a) * weyl_weight s (a - 1) b k
    weyl_weight-next s a b k =
        let e : s + suc b - suc k ≡ s + b - k = omega arith in
        let e' : suc s + b - suc k ≡ s + b - k = omega arith in
        let f : a - suc k ≡ a - 1 - k = omega arith in
        (λ t. weyl_number-next q delta a b k t * sorted_powers (e t) (f t))
        ∙ collect (q ^ a) (weyl_number q delta a b (suc k)) (delta * q_number q a) (weyl_number q delta (a - 1) b k) (sorted_powers (s + b - k) (a - 1 - k))
        ∙ (λ t. q ^ a * (weyl_number q delta a b (suc k) * sorted_powers (sym e' t) (sym f t)) + (delta * q_number q a) * weyl_weight s (a - 1) b k)
      where
        collect : (x n d m v : ℕ) → (x * n + d * m) * v ≡ x * (n * v) + d * (m * v)
        collect x n d m v = omega arith

    weyl_sum-next : (s a b m : ℕ)
        → sum_below (suc m) (weyl_weight s a (suc b)) ≡ q ^ a * sum_below (suc m) (weyl_weight (suc s) a b) + (delta * q_number q a) * sum_below m (weyl_weight s (a - 1) b)
    weyl_sum-next s a b m =
        collect (q ^ a) _ _ _ _ _ _ (weyl_weight-first s a b)
        (sum_below_equal m _ _ (weyl_weight-next s a b)
        ∙ sum_below-lin (q ^ a) (delta * q_number q a) m (λ k. weyl_weight (suc s) a b (suc k)) (weyl_weight s (a - 1) b))
      where
        collect : (x f g r t d u : ℕ) → f ≡ x * g → r ≡ x * t + d * u → f + r ≡ x * (g + t) + d * u
        collect x f g r t d u ef er = rw (ef, er) (omega arith)

    -- y^a x^b behind x^s, with the sum running over the numbers below any m above b
    pub weyl_powers : IsWeylRule A downward i j low ij high φ q delta → (b s a m : ℕ) → b < m
        → Same A.p (before_powers s a b) (sum_below m (weyl_weight s a b))
    weyl_powers rule b s a zero h = absurd (omega arith)
    weyl_powers rule zero s a (suc m) h =
        let e : s + 0 - 0 ≡ s = omega arith in
        let f : a - 0 ≡ a = omega arith in
        let rest : sum_below m (λ k. weyl_weight s a 0 (suc k)) ≡ 0 = sum_below_none m _ (λ k. rw (weyl_number-none q delta a k) (omega arith)) in
        let all : sum_below (suc m) (weyl_weight s a 0) ≡ sorted_powers s a = rw (rest, weyl_number-start q delta a, e, f) (omega arith) in
        same_refl A.p _ _ (sym all)
    weyl_powers rule (suc b) s a (suc m) h =
        pass_weyl A downward i j low ij high φ q delta rule a s (replicate b i) (x_is_word b)
        ∙ same_add A.p _ _ _ _
        (same_mul A.p (q ^ a) _ _ (weyl_powers rule b (suc s) a (suc m) (omega arith)))
        (same_mul A.p (delta * q_number q a) _ _ (weyl_powers rule b s (a - 1) m (omega arith)))
        ∙ same_refl A.p _ _ (sym (weyl_sum-next s a b m))

  -- without a constant there is one term
  pub quasi_powers : (q : ℕ) → IsWeylRule A downward i j low ij high φ q 0 → (b s a : ℕ) → Same A.p (before_powers s a b) (q ^ (a * b) * sorted_powers (s + b) a)
  quasi_powers q rule zero s a =
      let e : s + 0 ≡ s = omega arith in
      let none : a * 0 ≡ 0 = omega arith in
      let one : q ^ (a * 0) * sorted_powers (s + 0) a ≡ sorted_powers s a = rw (e, none, pow-zero q) (omega arith) in
      same_refl A.p _ _ (sym one)
  quasi_powers q rule (suc b) s a =
      let e : s + suc b ≡ suc s + b = omega arith in
      let exponents : a * suc b ≡ a + a * b = omega arith in
      pass_weyl A downward i j low ij high φ q 0 rule a s (replicate b i) (x_is_word b)
      ∙ same_add A.p _ _ _ _ (same_mul A.p (q ^ a) _ _ (quasi_powers q rule b (suc s) a)) refl
      ∙ same_refl A.p _ _
      (rw (e, exponents, pow-add q a (a * b)) (collect (q ^ a) (q ^ (a * b)) (sorted_powers (suc s + b) a) (q_number q a) (before_powers s (a - 1) b)))
    where
      collect : (x y v n z : ℕ) → x * (y * v) + 0 * n * z ≡ x * y * v
      collect x y v n z = omega arith

  -- y^a x^b = x^b (y + b α)^a where y x = x y + α x
  pub left_powers : (alpha : ℕ) → IsLeftRule A downward i j low ij high φ alpha → (b s a : ℕ)
      → Same A.p (before_powers s a b) (shifted (b * alpha) a (sorted_powers (s + b)))
  left_powers alpha rule zero s a =
      let e : s + 0 ≡ s = omega arith in
      let none : 0 * alpha ≡ 0 = omega arith in
      same_refl A.p _ _ (rw (e, none) (sym (shifted-none a (sorted_powers s))))
  left_powers alpha rule (suc b) s a =
      let e : s + suc b ≡ suc s + b = omega arith in
      let constant : suc b * alpha ≡ alpha + b * alpha = omega arith in
      pass_left A downward i j low ij high φ alpha rule a s (replicate b i) (x_is_word b)
      ∙ shifted_alike A.p alpha a _ _ (left_powers alpha rule b (suc s))
      ∙ same_refl A.p _ _ (shifted-shifted alpha (b * alpha) a (sorted_powers (suc s + b)) ∙ (λ k. shifted (sym constant k) a (sorted_powers (sym e k))))

  -- y^a x^b = (x + a β)^b y^a where y x = x y + β y
  pub right_powers : (beta : ℕ) → IsRightRule A downward i j low ij high φ beta → (b s a : ℕ)
      → Same A.p (before_powers s a b) (shifted (a * beta) b (λ k. sorted_powers (s + k) a))
  right_powers beta rule zero s a = let e : s + 0 ≡ s = omega arith in same_refl A.p _ _ (rw e refl)
  right_powers beta rule (suc b) s a =
      pass_right A downward i j low ij high φ beta rule a s (replicate b i) (x_is_word b)
      ∙ same_add A.p _ _ _ _
      (right_powers beta rule b (suc s) a
      ∙ shifted_alike A.p (a * beta) b _ _ (λ k. let e : suc s + k ≡ s + suc k = omega arith in same_refl A.p _ _ (ap (λ r. sorted_powers r a) e)))
      (same_mul A.p (a * beta) _ _ (right_powers beta rule b s a))
