-- A step subtracts a multiple of an element: the terms above its target stay, and all behind them is below it.
use Rattle.std.proofs.Common.{◌≡◌, ◌≢◌, ℕ, ◌+◌, ◌-◌, ◌*◌, ◌<◌, ◌≤◌, ◌⊎◌, inl, inr, true, Less, Equal, Greater, List, [], ◌∷◌, ◌++◌, length, refl, sym, ap, ◌∙◌, subst, arith}
use Rattle.std.proofs.Math.Nat.{mod-eq_of_lt}
use Rattle.monomials.specs.Monomials.{Monomial, degree, plus, minus}
use Rattle.monomials.specs.Polynomials.{Polynomial, Each, HasVars, IsCanonical, IsPolynomial, cons_nonzero, insert_term, poly_add, poly_scale, poly_degree}
use Rattle.monomials.specs.Leading.{leading_monomial, leading_coefficient}
use Rattle.monomials.proofs.Modulo.{Same, same_refl, same_add, same_mul, same_none}
use Rattle.monomials.proofs.Insertion.{cons_nonzero-positive, insert_term_cases}
use Rattle.monomials.proofs.Weights.{weigh, weigh-poly_scale, weigh-poly_add}
use Rattle.monomials.proofs.OrderLaws.{order_cmp_total, order_cmp_tied}
use Rattle.monomials.proofs.Canonical.{only_at, turn, lead_alone}
use Rattle.monomials.proofs.Keys.{Each-second, Each-weaker, EachKey, EachKey-poly_scale, EachKey-poly_add}
use Rattle.monomials.proofs.Operations.{IsPolynomial-poly_add, IsPolynomial-poly_scale}
use Rattle.word_model.specs.Words.{Algebra}
use Rattle.word_model.specs.Conditions.{NonZero, IsGAlgebra}
use Rattle.word_model.specs.Products.{degree_limit}
use Rattle.word_model.specs.Reduction.{element, quotient, multiple, is_within, step_by, less_step}
use Rattle.word_model.specs.declared.records.TraceStep.{TraceStep}
use Rattle.word_model.proofs.Reach.{within-degrees}
use Rattle.word_model.proofs.TermProducts.{product-zero}
use Rattle.word_model.proofs.NormalForms.{row_weight, weigh-product, product_is_polynomial, same_weights}
use Rattle.word_model.proofs.PairCofactors.{length-leading_monomial}
use Rattle.word_model.proofs.LeadingMonomials.{order, NonZero-below, rest_below, leading_monomial-product}
use Rattle.word_model.proofs.Degrees.{HasDegrees-poly_degree, poly_degree-le, poly_degree-product}
use Rattle.word_model.proofs.LeastNumbers.{Each-element, IsFirstDivisor}
use Rattle.word_model.proofs.Divisions.{quotient-times, length-minus, plus-minus}
use Rattle.word_model.proofs.Targets.{IsBelow}

-- ---- polynomials in the algebra's order

module _ (A : Algebra) where
  -- canonical, in the algebra's order
  abbrev IsInOrder : Polynomial → Type 0
  IsInOrder f = IsCanonical (order A) A.p f

  -- a term above a polynomial, added to it
  insert_term-first : (t : ℕ × Monomial) (f : Polynomial) → 0 < t.0 → t.0 < A.p → IsBelow A t.1 f → insert_term (order A) A.p t.0 t.1 f ≡ t ∷ f
  insert_term-first t [] some small below =
      ap (λ c. cons_nonzero c t.1 []) (mod-eq_of_lt small) ∙ cons_nonzero-positive t.0 t.1 [] some
  insert_term-first t (u ∷ f) some small below =
      let above : order A t.1 u.1 ≡ Greater = turn (order A) (order_cmp_total A.order.rows) (order_cmp_tied A.order.rows) A.p u.1 t.1 below.0 in
      insert_term_cases (order A) A.p (λ r. r ≡ t ∷ (u ∷ f)) t.0 t.1 u f
      (λ is. ap (λ c. cons_nonzero c t.1 (u ∷ f)) (mod-eq_of_lt small) ∙ cons_nonzero-positive t.0 t.1 (u ∷ f) some)
      (λ is. absurd (let no : Equal ≡ Greater = sym is ∙ above in cc))
      (λ is. absurd (let no : Less ≡ Greater = sym is ∙ above in cc))

  -- terms above all of g stay where g is added
  poly_add-above : (f r g : Polynomial) → IsInOrder (f ++ r) → Each (λ t. IsBelow A t.1 g) f
      → poly_add (order A) A.p (f ++ r) g ≡ f ++ poly_add (order A) A.p r g
  poly_add-above [] r g h below = refl
  poly_add-above (t ∷ f) r g h below =
      insert_term-first t (poly_add (order A) A.p (f ++ r) g) h.0 h.1
      (EachKey-poly_add (order A) A.p (λ k. order A k t.1 ≡ Less) (f ++ r) g (rest_below A t (f ++ r) h.3 h.2) below.0)
      ∙ ap (λ r. t ∷ r) (poly_add-above f r g h.3 below.1)

  -- the part behind some terms is in order
  IsInOrder-second : (f r : Polynomial) → IsInOrder (f ++ r) → IsInOrder r
  IsInOrder-second [] r h = h
  IsInOrder-second (t ∷ f) r h = IsInOrder-second f r h.3

  -- a term is below those in front of it
  below_front : (f : Polynomial) (t : ℕ × Monomial) (r : Polynomial) → IsInOrder (f ++ t ∷ r) → Each (λ u. order A t.1 u.1 ≡ Less) f
  below_front [] t r h = tt
  below_front (u ∷ f) t r h =
      ((Each-second (λ t. order A t.1 u.1 ≡ Less) f (t ∷ r) (rest_below A u (f ++ t ∷ r) h.3 h.2)).0, below_front f t r h.3)

  -- a monomial that is not above m
  abbrev pub IsAtMost : Monomial → Monomial → Type 0
  IsAtMost m k = (order A k m ≡ Less) ⊎ (k ≡ m)

  -- what is at most m is below all that m is below
  at_most_below : (m x k : Monomial) → order A m x ≡ Less → IsAtMost m k → order A k x ≡ Less
  at_most_below m x k less (inl lower) = (order_cmp_total A.order.rows).trans k m x lower less
  at_most_below m x k less (inr same) = ap (λ k. order A k x) same ∙ less

  -- a polynomial whose monomials are at most m, and that has no number at m, is below m
  pub at_most_but_zero : (m : Monomial) (f : Polynomial) → IsInOrder f → EachKey (IsAtMost m) f → Same A.p (weigh (only_at (order A) m) f) 0 → IsBelow A m f
  at_most_but_zero m [] h keys zero = tt
  at_most_but_zero m (t ∷ f) h keys zero =
      let first : order A t.1 m ≡ Less = by keys.0 in
      (first, Each-weaker _ _ (λ u less. (order_cmp_total A.order.rows).trans u.1 t.1 m less first) f (rest_below A t f h.3 h.2))
    where
      by : IsAtMost m t.1 → order A t.1 m ≡ Less
      by (inl less) = less
      by (inr same) =
          absurd (NonZero-below A.p t.0 h.0 h.1
          (same_refl A.p _ _ (sym (lead_alone (order A) (order_cmp_total A.order.rows) (order_cmp_tied A.order.rows) A.p t f h)
          ∙ ap (λ k. weigh (only_at (order A) k) (t ∷ f)) same)
          ∙ zero))

  -- the leading term of a polynomial other than zero: its number, and that all else is below it
  pub leading_number : (f : Polynomial) → IsInOrder f → f ≢ [] → weigh (only_at (order A) (leading_monomial f)) f ≡ leading_coefficient f
  leading_number [] h nonzero = absurd (nonzero refl)
  leading_number (t ∷ f) h nonzero = lead_alone (order A) (order_cmp_total A.order.rows) (order_cmp_tied A.order.rows) A.p t f h

  pub leading_coefficient-nonzero : (f : Polynomial) → IsInOrder f → f ≢ [] → NonZero A.p (leading_coefficient f)
  leading_coefficient-nonzero [] h nonzero = absurd (nonzero refl)
  leading_coefficient-nonzero (t ∷ f) h nonzero = NonZero-below A.p t.0 h.0 h.1

  pub at_most_leading : (f : Polynomial) → IsInOrder f → EachKey (IsAtMost (leading_monomial f)) f
  at_most_leading [] h = tt
  at_most_leading (t ∷ f) h = (inr refl, Each-weaker _ _ (λ u less. inl less) f (rest_below A t f h.3 h.2))

-- ---- multiples

module _ (A : Algebra) (ok : IsGAlgebra A) where
  positive : 0 < A.p
  positive = let more : 1 < A.p = ok.field.more in omega arith

  -- c m g is c times 1 m g
  pub multiple-scale : (c : ℕ) (m : Monomial) (g : Polynomial) → length m ≡ A.order.vars → IsPolynomial A.p A.order g
      → multiple A c m g ≡ poly_scale A.p c (multiple A 1 m g)
  multiple-scale c m g vars g_is =
      same_weights A _ _ (product_is_polynomial A ok.field.more ((c, m) ∷ []) g)
      (IsPolynomial-poly_scale A.p A.order positive c (multiple A 1 m g) (product_is_polynomial A ok.field.more ((1, m) ∷ []) g))
      (λ φ.
      let once : c * row_weight A φ g m + 0 ≡ c * (1 * row_weight A φ g m + 0) = omega arith in
      weigh-product A φ ((c, m) ∷ []) g
      ∙ same_refl A.p _ _ once
      ∙ same_mul A.p c _ _ (sym (weigh-product A φ ((1, m) ∷ []) g))
      ∙ sym (weigh-poly_scale A.p φ c (multiple A 1 m g)))

  -- m g leads with the product of m and the leading monomial of g
  pub multiple-leading : (m : Monomial) (g : Polynomial) → length m ≡ A.order.vars → IsPolynomial A.p A.order g → g ≢ []
      → (multiple A 1 m g ≢ []) × (leading_monomial (multiple A 1 m g) ≡ plus m (leading_monomial g))
  multiple-leading m g vars g_is nonzero =
      leading_monomial-product A ok.field ok.downward ok.nonzero ((1, m) ∷ []) g (λ e. cc) nonzero
      (record { canonical = (omega arith, ok.field.more, tt, tt); vars = (vars, tt) }) g_is

  -- a multiple that is computed has no degree above the limit
  pub multiple-low : (c : ℕ) (m : Monomial) (g : Polynomial) → length m ≡ A.order.vars → HasVars A.order.vars g → is_within m g ≡ true
      → poly_degree (multiple A c m g) ≤ degree_limit
  multiple-low c m [] vars g_vars within = omega (arith, ap poly_degree (product-zero A ((c, m) ∷ [])))
  multiple-low c m (t ∷ g) vars g_vars within =
      omega (arith, poly_degree-product A ok.downward ((c, m) ∷ []) (t ∷ g) (vars, tt) g_vars, within-degrees m (t ∷ g) (λ e. cc) within)

  -- ---- steps

  -- what any step leaves is a polynomial
  pub less_step-sorted : (G : List Polynomial) (h : Polynomial) (s : TraceStep) → IsPolynomial A.p A.order h → IsPolynomial A.p A.order (less_step A G h s)
  less_step-sorted G h s h_is =
      IsPolynomial-poly_add A.p A.order positive h (poly_scale A.p (A.p - 1) (multiple A s.coef s.mono (element G s.index))) h_is
      (IsPolynomial-poly_scale A.p A.order positive (A.p - 1) (multiple A s.coef s.mono (element G s.index))
      (product_is_polynomial A ok.field.more ((s.coef, s.mono) ∷ []) (element G s.index)))

  -- a step whose product is computed raises no degree above D
  pub less_step-degree : (D : ℕ) → degree_limit ≤ D → (G : List Polynomial) (h : Polynomial) (c : ℕ) (m : Monomial) (i : ℕ) → length m ≡ A.order.vars
      → HasVars A.order.vars (element G i) → is_within m (element G i) ≡ true → poly_degree h ≤ D
      → poly_degree (less_step A G h (record { coef = c; mono = m; index = i })) ≤ D
  less_step-degree D wide G h c m i vars g_vars within low =
      let product_low : poly_degree (multiple A c m (element G i)) ≤ D =
      omega (arith, multiple-low c m (element G i) vars g_vars within, wide) in
      poly_degree-le (less_step A G h (record { coef = c; mono = m; index = i })) D
      (EachKey-poly_add (order A) A.p (λ k. degree k ≤ D) h (poly_scale A.p (A.p - 1) (multiple A c m (element G i)))
      (HasDegrees-poly_degree h D low)
      (EachKey-poly_scale A.p (λ k. degree k ≤ D) (A.p - 1) (multiple A c m (element G i)) (HasDegrees-poly_degree (multiple A c m (element G i)) D product_low)))

  -- the step at a term t between terms f above it and the rest
  module _ (G : List Polynomial) (elements : Each (IsPolynomial A.p A.order) G) (f : Polynomial) (t : ℕ × Monomial) (rest : Polynomial)
      (whole : IsPolynomial A.p A.order (f ++ t ∷ rest)) (i : ℕ) (divisor : IsFirstDivisor G t.1 i) where
    abbrev g : Polynomial
    g = element G i

    abbrev m : Monomial
    m = minus t.1 (leading_monomial g)

    -- m g
    abbrev q : Polynomial
    q = multiple A 1 m g

    abbrev c : ℕ
    c = quotient A.p t.0 (leading_coefficient q)

    -- what the step adds
    abbrev added : Polynomial
    added = poly_scale A.p (A.p - 1) (poly_scale A.p c q)

    -- what takes the place of t and the rest
    abbrev left : Polynomial
    left = poly_add (order A) A.p (t ∷ rest) added

    g_is : IsPolynomial A.p A.order g
    g_is = Each-element (IsPolynomial A.p A.order) G i elements divisor.low divisor.high

    t_vars : length t.1 ≡ A.order.vars
    t_vars = (Each-second _ f (t ∷ rest) whole.vars).0

    same_vars : length t.1 ≡ length (leading_monomial g)
    same_vars = t_vars ∙ sym (length-leading_monomial A.order.vars g g_is.vars divisor.nonzero)

    pub step_vars : length (minus t.1 (leading_monomial (element G i))) ≡ A.order.vars
    step_vars = length-minus t.1 (leading_monomial g) same_vars ∙ t_vars

    q_is : IsPolynomial A.p A.order q
    q_is = product_is_polynomial A ok.field.more ((1, m) ∷ []) g

    q_leads : (q ≢ []) × (leading_monomial q ≡ plus m (leading_monomial g))
    q_leads = multiple-leading m g step_vars g_is divisor.nonzero

    -- m g leads with the monomial of t
    q_at : leading_monomial q ≡ t.1
    q_at = q_leads.1 ∙ plus-minus t.1 (leading_monomial g) same_vars divisor.divides_it

    added_is : IsPolynomial A.p A.order added
    added_is = IsPolynomial-poly_scale A.p A.order positive (A.p - 1) (poly_scale A.p c q) (IsPolynomial-poly_scale A.p A.order positive c q q_is)

    added_at_most : EachKey (IsAtMost A t.1) added
    added_at_most =
        EachKey-poly_scale A.p (IsAtMost A t.1) (A.p - 1) (poly_scale A.p c q) (EachKey-poly_scale A.p (IsAtMost A t.1) c q
        (subst (λ k. EachKey (IsAtMost A k) q) q_at (at_most_leading A q q_is.canonical)))

    behind : IsInOrder A (t ∷ rest)
    behind = IsInOrder-second A f (t ∷ rest) whole.canonical

    -- the number of what is added at t's monomial is minus that of t
    added_number : Same A.p (weigh (only_at (order A) t.1) added) ((A.p - 1) * t.0)
    added_number =
        let w : Monomial → ℕ = only_at (order A) t.1 in
        let number : weigh (only_at (order A) t.1) q ≡ leading_coefficient q =
        ap (λ k. weigh (only_at (order A) k) q) (sym q_at) ∙ leading_number A q q_is.canonical q_leads.0 in
        weigh-poly_scale A.p w (A.p - 1) (poly_scale A.p c q)
        ∙ same_mul A.p (A.p - 1) _ _ (weigh-poly_scale A.p w c q
        ∙ same_refl A.p _ _ (ap (λ x. c * x) number)
        ∙ quotient-times A.p t.0 (leading_coefficient q) ok.field (leading_coefficient-nonzero A q q_is.canonical q_leads.0))

    cancelled : Same A.p (weigh (only_at (order A) t.1) left) 0
    cancelled =
        let w : Monomial → ℕ = only_at (order A) t.1 in
        weigh-poly_add (order A) (order_cmp_tied A.order.rows) A.p w (t ∷ rest) added
        ∙ same_add A.p (weigh w (t ∷ rest)) t.0 (weigh w added) ((A.p - 1) * t.0)
        (same_refl A.p _ _ (lead_alone (order A) (order_cmp_total A.order.rows) (order_cmp_tied A.order.rows) A.p t rest behind)) added_number
        ∙ same_none A.p t.0 positive

    left_below : IsBelow A t.1 left
    left_below =
        at_most_but_zero A t.1 left (IsPolynomial-poly_add A.p A.order positive (t ∷ rest) added (record { canonical = behind; vars = Each-second _ f (t ∷ rest) whole.vars }) added_is).canonical
        (EachKey-poly_add (order A) A.p (IsAtMost A t.1) (t ∷ rest) added (inr refl, Each-weaker _ _ (λ u less. inl less) rest (rest_below A t rest behind.3 behind.2)) added_at_most)
        cancelled

    stays : less_step A G (f ++ t ∷ rest) (step_by A t i (element G i)) ≡ f ++ left
    stays =
        ap (λ x. poly_add (order A) A.p (f ++ t ∷ rest) (poly_scale A.p (A.p - 1) x)) (multiple-scale c m g step_vars g_is)
        ∙ poly_add-above A f (t ∷ rest) added whole.canonical
        (Each-weaker _ _ (λ u less. Each-weaker _ _ (λ v at_most. at_most_below A t.1 u.1 v.1 less at_most) added added_at_most) f (below_front A f t rest whole.canonical))

    -- the terms above t stay, and all behind them is below t
    pub step-cancels : (r : Polynomial) × (less_step A G (f ++ t ∷ rest) (step_by A t i (element G i)) ≡ f ++ r) × IsBelow A t.1 r
    step-cancels = (left, stays, left_below)
