-- Steps and S-polynomials, as the program makes them; and reductions, a step at a time.
use Rattle.std.proofs.Common.{◌≡◌, ℕ, zero, suc, ◌+◌, ◌-◌, ◌*◌, ◌%◌, ◌<◌, true, false, List, [], ◌∷◌, ◌++◌, length, Some, refl, if◌then◌else◌, sym, ap, ◌∙◌, subst, append_assoc, append-nil, length-append, arith}
use Rattle.std.proofs.Math.Nat.{mod-eq_of_lt}
use Rattle.std.specs.declared.cmp.Ordering.{Ordering}
use Rattle.monomials.specs.Monomials.{Monomial, minus, lcm}
use Rattle.monomials.specs.Orders.{RowOrder, order_cmp}
use Rattle.monomials.specs.Polynomials.{Polynomial, Each, IsCanonical, IsPolynomial, poly_scale, poly_sub}
use Rattle.monomials.specs.Leading.{leading_monomial, leading_coefficient}
use Rattle.monomials.proofs.Keys.{Each-second}
use Rattle.monomials.proofs.Modulo.{Same, same_refl, same_add, same_mul, same_mul_right, same_rest, same_cancel, same_none}
use Rattle.monomials.proofs.Weights.{weigh, weigh-append, weigh-poly_scale, weigh-poly_add}
use Rattle.monomials.proofs.Canonical.{same_poly}
use Rattle.monomials.proofs.OrderLaws.{order_cmp_total, order_cmp_tied}
use Rattle.monomials.proofs.Operations.{IsPolynomial-poly_scale}
use Rattle.word_model.specs.Words.{Algebra}
use Rattle.word_model.specs.Conditions.{IsGAlgebra}
use Rattle.word_model.specs.Reduction.{element, quotient, multiple, is_within, step_by, less_step, Next, Ends, Undefined, Goes, next_step, Reduced, after_step}
use Rattle.word_model.specs.Jobs.{s_polynomial}
use Rattle.word_model.specs.declared.records.TraceStep.{TraceStep}
use Rattle.word_model.proofs.Reductions.{multiple-scale, next_step-goes}
use Rattle.word_model.proofs.LeastNumbers.{IsFirstDivisor}
use Rattle.word_model.proofs.Multiples.{less_step-sorted, step-cancels}
use Rattle.word_model.proofs.Targets.{IsBelow}
use Rattle.left_reduce.specs.Inside.Steps.{after_steps}

-- the part behind some terms is canonical
IsCanonical-second : (cmp : Monomial → Monomial → Ordering) (p : ℕ) (f r : Polynomial) → IsCanonical cmp p (f ++ r) → IsCanonical cmp p r
IsCanonical-second cmp p [] r h = h
IsCanonical-second cmp p (t ∷ f) r h = IsCanonical-second cmp p f r h.3

-- and sorted
pub IsPolynomial-second : (p : ℕ) (order : RowOrder) (f r : Polynomial) → IsPolynomial p order (f ++ r) → IsPolynomial p order r
IsPolynomial-second p order f r h = record { canonical = IsCanonical-second (order_cmp order.rows) p f r h.canonical; vars = Each-second _ f r h.vars }

module _ (A : Algebra) (ok : IsGAlgebra A) where
  -- c times 1 m g, subtracted from h
  pub less_multiple : (h g : Polynomial) (m : Monomial) (c c' : ℕ) (product : Polynomial) → length m ≡ A.order.vars → IsPolynomial A.p A.order g
      → c ≡ c' → product ≡ multiple A 1 m g
      → poly_sub (order_cmp A.order.rows) A.p h (poly_scale A.p c product) ≡ poly_sub (order_cmp A.order.rows) A.p h (multiple A c' m g)
  less_multiple h g m c c' product vars g_is number is =
      ap (poly_sub (order_cmp A.order.rows) A.p h) ((λ j. poly_scale A.p (number j) (is j)) ∙ sym (multiple-scale A ok c' m g vars g_is))

  -- a step, as it is made
  pub step-made : (G : List Polynomial) (h : Polynomial) (t : ℕ × Monomial) (i : ℕ) (m : Monomial) (c : ℕ) (product : Polynomial)
      → IsPolynomial A.p A.order (element G i) → length m ≡ A.order.vars → m ≡ minus t.1 (leading_monomial (element G i))
      → is_within m (element G i) ≡ true → product ≡ multiple A 1 m (element G i) → c ≡ quotient A.p t.0 (leading_coefficient product)
      → next_step A G h (Some (t, i))
      ≡ Goes (record { coef = c; mono = m; index = i }) (poly_sub (order_cmp A.order.rows) A.p h (poly_scale A.p c product))
  step-made G h t i m c product g_is vars is_m within is number =
      let g : Polynomial = element G i in
      let s : TraceStep = step_by A t i g in
      let same : product ≡ multiple A 1 s.mono g = is ∙ ap (λ m. multiple A 1 m g) is_m in
      let coef : c ≡ s.coef = number ∙ ap (λ f. quotient A.p t.0 (leading_coefficient f)) same in
      let left : poly_sub (order_cmp A.order.rows) A.p h (poly_scale A.p c product) ≡ less_step A G h s =
      less_multiple h g s.mono c s.coef product (ap length (sym is_m) ∙ vars) g_is coef same in
      ap (λ b. if b then Goes s (less_step A G h s) else Undefined) (ap (λ m. is_within m g) (sym is_m) ∙ within)
      ∙ sym (λ j. Goes (record { coef = coef j; mono = is_m j; index = i }) (left j))

  -- an S-polynomial, as it is made
  pub s_polynomial-made : (f g : Polynomial) (a b : Monomial) (first second : Polynomial) (k : ℕ)
      → IsPolynomial A.p A.order g → length b ≡ A.order.vars
      → a ≡ minus (lcm (leading_monomial f) (leading_monomial g)) (leading_monomial f)
      → b ≡ minus (lcm (leading_monomial f) (leading_monomial g)) (leading_monomial g)
      → first ≡ multiple A 1 a f → second ≡ multiple A 1 b g → k ≡ quotient A.p (leading_coefficient first) (leading_coefficient second)
      → poly_sub (order_cmp A.order.rows) A.p first (poly_scale A.p k second) ≡ s_polynomial A f g
  s_polynomial-made f g a b first second k g_is vars is_a is_b is_first is_second number =
      let l : Monomial = lcm (leading_monomial f) (leading_monomial g) in
      let first_is : first ≡ multiple A 1 (minus l (leading_monomial f)) f = is_first ∙ ap (λ m. multiple A 1 m f) is_a in
      let second_is : second ≡ multiple A 1 (minus l (leading_monomial g)) g = is_second ∙ ap (λ m. multiple A 1 m g) is_b in
      let k' : ℕ = quotient A.p (leading_coefficient (multiple A 1 (minus l (leading_monomial f)) f)) (leading_coefficient (multiple A 1 (minus l (leading_monomial g)) g)) in
      let k_is : k ≡ k' = number ∙ (λ j. quotient A.p (leading_coefficient (first_is j)) (leading_coefficient (second_is j))) in
      less_multiple first g (minus l (leading_monomial g)) k k' second (ap length (sym is_b) ∙ vars) g_is k_is second_is
      ∙ ap (λ f. poly_sub (order_cmp A.order.rows) A.p f (multiple A k' (minus l (leading_monomial g)) g)) first_is

  -- the step at a term leaves the terms above it as they are
  module _ (G : List Polynomial) (elements : Each (IsPolynomial A.p A.order) G) where
    less_step-behind : (f : Polynomial) (t : ℕ × Monomial) (rest : Polynomial) (i : ℕ) → IsPolynomial A.p A.order (f ++ t ∷ rest)
        → IsPolynomial A.p A.order (t ∷ rest) → IsFirstDivisor G t.1 i
        → less_step A G (f ++ t ∷ rest) (step_by A t i (element G i)) ≡ f ++ less_step A G (t ∷ rest) (step_by A t i (element G i))
    less_step-behind f t rest i whole behind divisor =
        let s : TraceStep = step_by A t i (element G i) in
        let m : Polynomial = poly_scale A.p (A.p - 1) (multiple A s.coef s.mono (element G i)) in
        let there : (r : Polynomial) × (less_step A G (f ++ t ∷ rest) s ≡ f ++ r) × IsBelow A t.1 r = step-cancels A ok G elements f t rest whole i divisor in
        let r : Polynomial = there.0 in
        let here : Polynomial = less_step A G (t ∷ rest) s in
        let pos : 0 < A.p = (let more : 1 < A.p = ok.field.more in omega arith) in
        let cmp : Monomial → Monomial → Ordering = order_cmp A.order.rows in
        let r_is : IsCanonical cmp A.p r =
        IsCanonical-second cmp A.p f r (subst (IsCanonical cmp A.p) there.1 (less_step-sorted A ok G (f ++ t ∷ rest) s whole).canonical) in
        let same : r ≡ here =
        same_poly cmp (order_cmp_total A.order.rows) (order_cmp_tied A.order.rows) A.p r here r_is (less_step-sorted A ok G (t ∷ rest) s behind).canonical
        (λ φ.
        let assoc : (weigh φ f + weigh φ (t ∷ rest)) + weigh φ m ≡ weigh φ f + (weigh φ (t ∷ rest) + weigh φ m) = omega arith in
        same_cancel A.p (weigh φ f) (weigh φ r) (weigh φ here) pos
        (same_refl A.p _ _ (sym (weigh-append φ f r) ∙ ap (weigh φ) (sym there.1))
        ∙ weigh-poly_add cmp (order_cmp_tied A.order.rows) A.p φ (f ++ t ∷ rest) m
        ∙ same_refl A.p _ _ (ap (λ x. x + weigh φ m) (weigh-append φ f (t ∷ rest)) ∙ assoc)
        ∙ sym (same_add A.p (weigh φ f) (weigh φ f) _ _ refl (weigh-poly_add cmp (order_cmp_tied A.order.rows) A.p φ (t ∷ rest) m)))) in
        there.1 ∙ ap (λ r. f ++ r) same

    -- and so what is added to all is added to the rest
    pub step-behind : (f : Polynomial) (t : ℕ × Monomial) (rest : Polynomial) (i : ℕ) (s : TraceStep) (left behind : Polynomial)
        → IsPolynomial A.p A.order (f ++ t ∷ rest) → IsPolynomial A.p A.order (t ∷ rest) → IsFirstDivisor G t.1 i
        → next_step A G (f ++ t ∷ rest) (Some (t, i)) ≡ Goes s left → next_step A G (t ∷ rest) (Some (t, i)) ≡ Goes s behind
        → f ++ behind ≡ left
    step-behind f t rest i s left behind whole_is behind_is divisor e d =
        let all = next_step-goes A G (f ++ t ∷ rest) t i s left e in
        let part = next_step-goes A G (t ∷ rest) t i s behind d in
        ap (λ r. f ++ r) (sym part.2) ∙ sym (less_step-behind f t rest i whole_is behind_is divisor) ∙ all.2

-- ---- minus a multiple

-- minus c, modulo p
minus_number : (p c w : ℕ) → 0 < p → c < p → Same p (((p - c) % p) * w) ((p - 1) * (c * w))
minus_number zero c w pos less = absurd (omega arith)
minus_number (suc q) c w pos less =
    let d : ℕ = suc q - c in
    let whole : c + d ≡ suc q = omega arith in
    let both : c * w + d * w ≡ w + (suc q - 1) * w = minus_both q c d w whole in
    same_mul_right (suc q) w _ _ (same_rest (suc q) d)
    ∙ same_cancel (suc q) (c * w) _ _ pos
    (same_refl (suc q) _ _ both ∙ same_none (suc q) w pos ∙ sym (same_none (suc q) (c * w) pos))
  where
    minus_both : (q c d w : ℕ) → c + d ≡ suc q → c * w + d * w ≡ w + (suc q - 1) * w
    minus_both q c d w e =
        let less : suc q - 1 ≡ q = omega arith in
        let sum : c * w + d * w ≡ w + q * w = omega (arith, ap (λ x. x * w) e) in
        sum ∙ ap (λ n. w + n * w) (sym less)

-- minus c is not zero where c is not
pub minus-positive : (p c : ℕ) → 0 < c → c < p → 0 < (p - c) % p
minus-positive p c some less =
    let below : p - c < p = omega arith in
    subst (λ x. 0 < x) (sym (mod-eq_of_lt below)) (omega arith)

-- the multiple by minus c is minus the multiple by c
pub minus_multiple : (p c : ℕ) (order : RowOrder) (g : Polynomial) → 0 < p → c < p → IsPolynomial p order g
    → poly_scale p ((p - c) % p) g ≡ poly_scale p (p - 1) (poly_scale p c g)
minus_multiple p c order g pos less g_is =
    let once : IsPolynomial p order (poly_scale p c g) = IsPolynomial-poly_scale p order pos c g g_is in
    same_poly (order_cmp order.rows) (order_cmp_total order.rows) (order_cmp_tied order.rows) p _ _
    (IsPolynomial-poly_scale p order pos ((p - c) % p) g g_is).canonical (IsPolynomial-poly_scale p order pos (p - 1) (poly_scale p c g) once).canonical
    (λ φ.
    weigh-poly_scale p φ ((p - c) % p) g
    ∙ minus_number p c (weigh φ g) pos less
    ∙ sym (weigh-poly_scale p φ (p - 1) (poly_scale p c g) ∙ same_mul p (p - 1) _ _ (weigh-poly_scale p φ c g)))

-- ---- reductions, a step at a time

module _ (go : Polynomial → Reduced) (whole : Reduced) (steps : List TraceStep) (h : Polynomial) (n : Next)
    (so_far : whole ≡ after_steps steps (go h)) (next : go h ≡ after_step go h n) where
  -- one more step
  pub one_more : (s : TraceStep) (left : Polynomial) → n ≡ Goes s left → whole ≡ after_steps (steps ++ s ∷ []) (go left)
  one_more s left is =
      so_far ∙ ap (after_steps steps) (next ∙ ap (after_step go h) is)
      ∙ (λ j. record (go left) { trace = sym (append_assoc steps (s ∷ []) (go left).trace) j })

  -- no step
  pub at_end : n ≡ Ends → whole ≡ record { trace = steps; rest = h; over = false }
  at_end is = so_far ∙ ap (after_steps steps) (next ∙ ap (after_step go h) is) ∙ (λ j. record { trace = append-nil steps j; rest = h; over = false })

  -- a step that is undefined
  pub at_over : n ≡ Undefined → whole ≡ record { trace = steps; rest = h; over = true }
  at_over is = so_far ∙ ap (after_steps steps) (next ∙ ap (after_step go h) is) ∙ (λ j. record { trace = append-nil steps j; rest = h; over = true })

-- where steps are counted from those given on, their number is that of the reduction's own steps
pub counted-own : (given steps : List TraceStep) (r s : Reduced) (before now : ℕ) → after_steps given r ≡ s → s.trace ≡ steps
    → now + length given ≡ before + length steps → now ≡ before + length r.trace
counted-own given steps r s before now e is count =
    let whole : length given + length r.trace ≡ length steps = sym (length-append given r.trace) ∙ ap (λ (s : Reduced). length s.trace) e ∙ ap length is in
    omega (arith, whole, count)
