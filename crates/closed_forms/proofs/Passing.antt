-- How a variable passes powers of a later one, by rewriting the leftmost descent.
use Rattle.std.proofs.Common.{◌≡◌, ℕ, zero, suc, ◌+◌, ◌-◌, ◌*◌, ◌^◌, ◌<◌, ◌≤◌, [], ◌∷◌, ◌++◌, replicate, None, Some, refl, sym, ap, ◌∙◌, arith, append_assoc, append-nil, le_refl, le_of_lt}
use Rattle.std.proofs.Math.Nat.{pow-zero, pow-succ'}
use Rattle.monomials.specs.Monomials.{Monomial, one, variable}
use Rattle.monomials.proofs.Keys.{Each-append}
use Rattle.monomials.proofs.Modulo.{Same, same_refl, same_add, same_mul}
use Rattle.monomials.proofs.Weights.{weigh}
use Rattle.word_model.specs.Words.{Algebra, Word, IsWord, monomial_of, sorted_word, leftmost_descent, behind_letter, c_of, d_of, RewritesDown}
use Rattle.word_model.proofs.Descents.{descent, descent_here, descent_behind}
use Rattle.word_model.proofs.Letters.{sorted_word-variable, word_from-zeros}
use Rattle.word_model.proofs.Termination.{normal_form-sorted}
use Rattle.word_model.proofs.NormalForms.{word_weight}
use Rattle.word_model.proofs.Rules.{by_descent}
use Rattle.closed_forms.specs.Binomials.{q_number}
use Rattle.closed_forms.proofs.Shifts.{shifted, shifted_alike}

-- a letter behind its own powers
pub power_letter : (t v : ℕ) (w : Word) → replicate t v ++ v ∷ w ≡ replicate (suc t) v ++ w
power_letter zero v w = refl
power_letter (suc t) v w = ap (λ r. v ∷ r) (power_letter t v w)

-- a power of a variable is a word
pub power_is_word : (n v : ℕ) → 1 ≤ v → v ≤ n → (t : ℕ) → IsWord n (replicate t v)
power_is_word n v low high zero = tt
power_is_word n v low high (suc t) = ((low, high), power_is_word n v low high t)

-- ---- the words x^s y^t w

module _ (i j : ℕ) (ij : i < j) where
  -- the word x_i^s x_j^t w
  abbrev pub behind : ℕ → ℕ → Word → Word
  behind s t w = replicate s i ++ (replicate t j ++ w)

  descent_y : (t : ℕ) (w : Word) → leftmost_descent (replicate t j ++ j ∷ i ∷ w) ≡ Some (descent (replicate t j) j i w)
  descent_y zero w = descent_here j i w ij
  descent_y (suc zero) w = descent_behind j j (i ∷ w) (le_refl j) ∙ ap (behind_letter j) (descent_y zero w)
  descent_y (suc (suc t)) w = descent_behind j j (replicate t j ++ j ∷ i ∷ w) (le_refl j) ∙ ap (behind_letter j) (descent_y (suc t) w)

  -- the leftmost descent of x^s y^t y x w is y x
  pub descent_xy : (s t : ℕ) (w : Word) → leftmost_descent (behind s t (j ∷ i ∷ w)) ≡ Some (descent (replicate s i ++ replicate t j) j i w)
  descent_xy zero t w = descent_y t w
  descent_xy (suc zero) zero w = descent_behind i j (i ∷ w) (le_of_lt ij) ∙ ap (behind_letter i) (descent_xy zero zero w)
  descent_xy (suc zero) (suc t) w = descent_behind i j (replicate t j ++ j ∷ i ∷ w) (le_of_lt ij) ∙ ap (behind_letter i) (descent_xy zero (suc t) w)
  descent_xy (suc (suc s)) t w = descent_behind i i (behind s t (j ∷ i ∷ w)) (le_refl i) ∙ ap (behind_letter i) (descent_xy (suc s) t w)

  sorted_y : (t : ℕ) → leftmost_descent (replicate t j) ≡ None
  sorted_y zero = refl
  sorted_y (suc zero) = refl
  sorted_y (suc (suc t)) = descent_behind j j (replicate t j) (le_refl j) ∙ ap (behind_letter j) (sorted_y (suc t))

  -- x^s y^t is sorted
  pub sorted_xy : (s t : ℕ) → leftmost_descent (replicate s i ++ replicate t j) ≡ None
  sorted_xy zero t = sorted_y t
  sorted_xy (suc zero) zero = refl
  sorted_xy (suc zero) (suc t) = descent_behind i j (replicate t j) (le_of_lt ij) ∙ ap (behind_letter i) (sorted_y (suc t))
  sorted_xy (suc (suc s)) t = descent_behind i i (replicate s i ++ replicate t j) (le_refl i) ∙ ap (behind_letter i) (sorted_xy (suc s) t)

-- ---- their weights

module _ (A : Algebra) (downward : RewritesDown A) (i j : ℕ) (low : 1 ≤ i) (ij : i < j) (high : j ≤ A.order.vars) (φ : Monomial → ℕ) where
  -- the weight of x^s y^t w
  abbrev pub weight : ℕ → ℕ → Word → ℕ
  weight s t w = word_weight A φ (behind i j ij s t w)

  -- the weight of the monomial x^s y^t
  pub weight-sorted : (s t : ℕ) → weight s t [] ≡ φ (monomial_of A.order.vars (replicate s i ++ replicate t j))
  weight-sorted s t =
      ap (λ w. word_weight A φ (replicate s i ++ w)) (append-nil (replicate t j))
      ∙ ap (weigh φ) (normal_form-sorted A (replicate s i ++ replicate t j) (sorted_xy i j ij s t))
      ∙ omega arith

  weight-y : (s t : ℕ) (w : Word) → weight s t (j ∷ w) ≡ weight s (suc t) w
  weight-y s t w = ap (λ r. word_weight A φ (replicate s i ++ r)) (power_letter t j w)

  weight-x : (s : ℕ) (w : Word) → weight s 0 (i ∷ w) ≡ weight (suc s) 0 w
  weight-x s w = ap (word_weight A φ) (power_letter s i w)

  y_is_word : (w : Word) → IsWord A.order.vars w → IsWord A.order.vars (j ∷ w)
  y_is_word w word = ((omega arith, high), word)

  -- y x behind x^s y^t is rewritten by the relation
  rewritten_xy : (s t : ℕ) (w : Word) → IsWord A.order.vars w
      → Same A.p (weight s t (j ∷ i ∷ w)) (c_of A i j * weight s t (i ∷ j ∷ w) + weigh (λ m. weight s t (sorted_word m ++ w)) (d_of A i j))
  rewritten_xy s t w word =
      let u : Word = replicate s i ++ replicate t j in
      let joined : (r : Word) → u ++ r ≡ behind i j ij s t r = append_assoc (replicate s i) (replicate t j) in
      let x : (1 ≤ i) × (i ≤ A.order.vars) = (low, omega arith) in
      let y : (1 ≤ j) × (j ≤ A.order.vars) = (omega arith, high) in
      let all : IsWord A.order.vars (u ++ j ∷ i ∷ w) =
      Each-append _ u (j ∷ i ∷ w) (Each-append _ (replicate s i) (replicate t j) (power_is_word A.order.vars i x.0 x.1 s) (power_is_word A.order.vars j y.0 y.1 t)) (y, (x, word)) in
      same_refl A.p _ _ (ap (word_weight A φ) (sym (joined (j ∷ i ∷ w))))
      ∙ by_descent A downward φ u j i w all (ap leftmost_descent (joined (j ∷ i ∷ w)) ∙ descent_xy i j ij s t w)
      ∙ same_refl A.p _ _ (λ k. c_of A i j * word_weight A φ (joined (i ∷ j ∷ w) k) + weigh (λ m. word_weight A φ (joined (sorted_word m ++ w) k)) (d_of A i j))

  -- ---- where y x = q x y + δ

  -- where the relation is one with the number q and the constant δ
  abbrev pub IsWeylRule : ℕ → ℕ → Type 0
  IsWeylRule q delta =
      (s t : ℕ) (w : Word) → IsWord A.order.vars w → Same A.p (weight s t (j ∷ i ∷ w)) (q * weight s t (i ∷ j ∷ w) + delta * weight s t w)

  pub weyl_rule : (q delta : ℕ) → c_of A i j ≡ q → ((ψ : Monomial → ℕ) → weigh ψ (d_of A i j) ≡ delta * ψ (one A.order.vars)) → IsWeylRule q delta
  weyl_rule q delta number polynomial s t w word =
      let empty : sorted_word (one A.order.vars) ++ w ≡ w = ap (λ r. r ++ w) (word_from-zeros 1 A.order.vars) in
      let constant : weigh (λ m. weight s t (sorted_word m ++ w)) (d_of A i j) ≡ delta * weight s t w =
      polynomial (λ m. weight s t (sorted_word m ++ w)) ∙ ap (λ r. delta * weight s t r) empty in
      rewritten_xy s t w word ∙ same_refl A.p _ _ (λ k. number k * weight s t (i ∷ j ∷ w) + constant k)

  -- [t]_q times the weight with a y fewer and one behind
  fewer : (q s t : ℕ) (w : Word) → q_number q t * weight s (t - 1) (j ∷ w) ≡ q_number q t * weight s t w
  fewer q s zero w = omega arith
  fewer q s (suc t) w =
      let e : suc t - 1 ≡ t = omega arith in
      ap (λ r. q_number q (suc t) * r) (ap (λ r. weight s r (j ∷ w)) e ∙ weight-y s t w)

  -- x passes y^t: y^t x = q^t x y^t + δ [t]_q y^(t-1)
  pub pass_weyl : (q delta : ℕ) → IsWeylRule q delta → (t s : ℕ) (w : Word) → IsWord A.order.vars w
      → Same A.p (weight s t (i ∷ w)) (q ^ t * weight (suc s) t w + (delta * q_number q t) * weight s (t - 1) w)
  pass_weyl q delta rule zero s w word =
      let none : q ^ 0 * weight (suc s) 0 w + (delta * 0) * weight s (0 - 1) w ≡ weight (suc s) 0 w = rw (pow-zero q) (omega arith) in
      same_refl A.p _ _ (weight-x s w ∙ sym none)
  pass_weyl q delta rule (suc t) s w word =
      let e : suc t - 1 ≡ t = omega arith in
      same_refl A.p _ _ (sym (weight-y s t (i ∷ w)))
      ∙ rule s t w word
      ∙ same_add A.p _ _ _ _ (same_mul A.p q _ _ (pass_weyl q delta rule t s (j ∷ w) (y_is_word w word))) refl
      ∙ same_refl A.p _ _
      (rw (e, pow-succ' q t, sym (weight-y (suc s) t w))
      (collect q (q ^ t) delta (q_number q t) (weight (suc s) t (j ∷ w)) (weight s (t - 1) (j ∷ w)) (weight s t w) (fewer q s t w)))
    where
      collect : (q qt d n x y z : ℕ) → n * y ≡ n * z → q * (qt * x + d * n * y) + d * z ≡ q * qt * x + d * (1 + q * n) * z
      collect q qt d n x y z e =
          let times : d * q * (n * y) ≡ d * q * (n * z) = ap (λ r. d * q * r) e in
          omega arith

  -- ---- where y x = x y + α x

  abbrev pub IsLeftRule : ℕ → Type 0
  IsLeftRule alpha =
      (s t : ℕ) (w : Word) → IsWord A.order.vars w → Same A.p (weight s t (j ∷ i ∷ w)) (weight s t (i ∷ j ∷ w) + alpha * weight s t (i ∷ w))

  pub left_rule : (alpha : ℕ) → c_of A i j ≡ 1 → d_of A i j ≡ (alpha, variable A.order.vars i) ∷ [] → IsLeftRule alpha
  left_rule alpha number polynomial s t w word =
      let letter : sorted_word (variable A.order.vars i) ++ w ≡ i ∷ w = ap (λ r. r ++ w) (sorted_word-variable A.order.vars i low) in
      rewritten_xy s t w word
      ∙ same_refl A.p _ _
      ((λ k. number k * weight s t (i ∷ j ∷ w) + weigh (λ m. weight s t (sorted_word m ++ w)) (polynomial k))
      ∙ (λ k. 1 * weight s t (i ∷ j ∷ w) + (alpha * weight s t (letter k) + 0)) ∙ omega arith)

  -- x passes y^t: y^t x = x (y + α)^t
  pub pass_left : (alpha : ℕ) → IsLeftRule alpha → (t s : ℕ) (w : Word) → IsWord A.order.vars w
      → Same A.p (weight s t (i ∷ w)) (shifted alpha t (λ k. weight (suc s) k w))
  pass_left alpha rule zero s w word = same_refl A.p _ _ (weight-x s w)
  pass_left alpha rule (suc t) s w word =
      same_refl A.p _ _ (sym (weight-y s t (i ∷ w)))
      ∙ rule s t w word
      ∙ same_add A.p _ _ _ _
      (pass_left alpha rule t s (j ∷ w) (y_is_word w word) ∙ shifted_alike A.p alpha t _ _ (λ k. same_refl A.p _ _ (weight-y (suc s) k w)))
      (same_mul A.p alpha _ _ (pass_left alpha rule t s w word))

  -- ---- where y x = x y + β y

  abbrev pub IsRightRule : ℕ → Type 0
  IsRightRule beta =
      (s t : ℕ) (w : Word) → IsWord A.order.vars w → Same A.p (weight s t (j ∷ i ∷ w)) (weight s t (i ∷ j ∷ w) + beta * weight s t (j ∷ w))

  pub right_rule : (beta : ℕ) → c_of A i j ≡ 1 → d_of A i j ≡ (beta, variable A.order.vars j) ∷ [] → IsRightRule beta
  right_rule beta number polynomial s t w word =
      let letter : sorted_word (variable A.order.vars j) ++ w ≡ j ∷ w = ap (λ r. r ++ w) (sorted_word-variable A.order.vars j (omega arith)) in
      rewritten_xy s t w word
      ∙ same_refl A.p _ _
      ((λ k. number k * weight s t (i ∷ j ∷ w) + weigh (λ m. weight s t (sorted_word m ++ w)) (polynomial k))
      ∙ (λ k. 1 * weight s t (i ∷ j ∷ w) + (beta * weight s t (letter k) + 0)) ∙ omega arith)

  -- x passes y^t: y^t x = (x + t β) y^t
  pub pass_right : (beta : ℕ) → IsRightRule beta → (t s : ℕ) (w : Word) → IsWord A.order.vars w
      → Same A.p (weight s t (i ∷ w)) (weight (suc s) t w + (t * beta) * weight s t w)
  pass_right beta rule zero s w word = same_refl A.p _ _ (weight-x s w ∙ omega arith)
  pass_right beta rule (suc t) s w word =
      same_refl A.p _ _ (sym (weight-y s t (i ∷ w)))
      ∙ rule s t w word
      ∙ same_add A.p _ _ _ _ (pass_right beta rule t s (j ∷ w) (y_is_word w word)) refl
      ∙ same_refl A.p _ _
      (rw (sym (weight-y (suc s) t w), sym (weight-y s t w)) (collect t beta (weight (suc s) t (j ∷ w)) (weight s t (j ∷ w))))
    where
      collect : (t b x y : ℕ) → x + t * b * y + b * y ≡ x + suc t * b * y
      collect t b x y = omega arith
