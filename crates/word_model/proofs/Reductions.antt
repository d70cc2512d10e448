-- Reductions: each step leads downwards, so their fuel is enough, and what they leave are polynomials of the algebra.
use Rattle.std.proofs.Common.{◌≡◌, ℕ, zero, suc, ◌+◌, ◌^◌, ◌<◌, ◌≤◌, max, Less, Bool, true, false, List, ◌∷◌, ◌++◌, Option, Some, None, if◌then◌else◌, refl, sym, ap, ◌∙◌, subst, arith}
use Rattle.monomials.specs.Monomials.{Monomial, degree}
use Rattle.monomials.specs.Polynomials.{Polynomial, Each, IsPolynomial, poly_degree}
use Rattle.monomials.proofs.Keys.{Each-second}
use Rattle.word_model.specs.Words.{Algebra}
use Rattle.word_model.specs.Conditions.{IsGAlgebra}
use Rattle.word_model.specs.Products.{degree_limit}
use Rattle.word_model.specs.Reduction.{element, is_within, Target, leading_target, greatest_target, tail_target, step_by, less_step, Next, Ends, Undefined, Goes, next_step, Reduced, after_step, steps_within, enough_steps, reduce, normal_form_by, reduce_tail}
use Rattle.word_model.proofs.LeadingMonomials.{order}
use Rattle.word_model.proofs.Ranks.{IsIn, monomials_up_to, rank, rank_falls}
use Rattle.word_model.proofs.MoreRanks.{rank-below, IsIn-degree}
use Rattle.word_model.proofs.Degrees.{HasDegrees, HasDegrees-poly_degree}
use Rattle.word_model.proofs.LeastNumbers.{Each-element}
use Rattle.word_model.proofs.Targets.{IsBelow, IsPicked, IsTargeting, leading_target-falls, greatest_target-falls, tail_target-falls}
pub use Rattle.word_model.proofs.Multiples.{multiple-scale, multiple-leading}
use Rattle.word_model.proofs.Multiples.{less_step-sorted, less_step-degree, step_vars, step-cancels}
use Rattle.word_model.specs.declared.records.TraceStep.{TraceStep}

-- what a step is, and what it leaves
pub next_step-goes : (A : Algebra) (G : List Polynomial) (h : Polynomial) (t : ℕ × Monomial) (i : ℕ) (s : TraceStep) (h' : Polynomial)
    → next_step A G h (Some (t, i)) ≡ Goes s h'
    → (is_within (step_by A t i (element G i)).mono (element G i) ≡ true) × (step_by A t i (element G i) ≡ s) × (less_step A G h (step_by A t i (element G i)) ≡ h')
next_step-goes A G h t i s h' e = by (is_within (step_by A t i (element G i)).mono (element G i)) e
  where
    by : (b : Bool) → (if b then Goes (step_by A t i (element G i)) (less_step A G h (step_by A t i (element G i))) else Undefined) ≡ Goes s h'
        → (b ≡ true) × (step_by A t i (element G i) ≡ s) × (less_step A G h (step_by A t i (element G i)) ≡ h')
    by true e = (refl, cc, cc)
    by false e = cc

module _ (A : Algebra) (ok : IsGAlgebra A) where
  -- a polynomial of the algebra
  abbrev pub IsOf : Polynomial → Type 0
  IsOf f = IsPolynomial A.p A.order f

  -- how many steps may follow where the next one cancels at this target, and no degree is above D
  abbrev pub steps_left : ℕ → Option Target → ℕ
  steps_left D None = 0
  steps_left D (Some (t, i)) = suc (rank A.order.rows A.order.vars D t.1)

  module _ (G : List Polynomial) (elements : Each IsOf G) where
    -- what a step leaves is a polynomial
    pub next_step-sorted : (h : Polynomial) (target : Option Target) (s : TraceStep) (h' : Polynomial) → IsOf h → next_step A G h target ≡ Goes s h' → IsOf h'
    next_step-sorted h None s h' h_is e = cc
    next_step-sorted h (Some (t, i)) s h' h_is e =
        subst IsOf (next_step-goes A G h t i s h' e).2 (less_step-sorted A ok G h (step_by A t i (element G i)) h_is)

    -- the steps of a reduction lead downwards, whichever of the targets it has
    module _ (target : Polynomial → Option Target) (targeting : IsTargeting A G target) where
      -- a target's monomial is one of those with exponents up to D
      target_is_in : (D : ℕ) (h : Polynomial) (t : ℕ × Monomial) (i : ℕ) → IsOf h → poly_degree h ≤ D → target h ≡ Some (t, i) → IsIn t.1 (monomials_up_to A.order.vars D)
      target_is_in D h t i h_is low e =
          let picked : IsPicked A G target h t i = targeting h t i e in
          let whole : IsOf (picked.above ++ t ∷ picked.rest) = subst IsOf picked.is h_is in
          let degrees : HasDegrees D (picked.above ++ t ∷ picked.rest) = subst (HasDegrees D) picked.is (HasDegrees-poly_degree h D low) in
          IsIn-degree A.order.vars D t.1 (Each-second _ picked.above (t ∷ picked.rest) whole.vars).0
          (Each-second (λ t. degree t.1 ≤ D) picked.above (t ∷ picked.rest) degrees).0

      -- the steps that may follow are no more than there are such monomials
      steps_left-le : (D : ℕ) (h : Polynomial) → IsOf h → poly_degree h ≤ D → steps_left D (target h) ≤ (D + 1) ^ A.order.vars
      steps_left-le D h h_is low = by (target h) refl
        where
          by : (o : Option Target) → target h ≡ o → steps_left D o ≤ (D + 1) ^ A.order.vars
          by None e = omega arith
          by (Some (t, i)) e = rank-below A.order.rows A.order.vars D t.1 (target_is_in D h t i h_is low e)

      -- the next target is below the term that a step cancels
      step_falls : (h : Polynomial) (t : ℕ × Monomial) (i : ℕ) (u : ℕ × Monomial) (j : ℕ) → IsOf h → target h ≡ Some (t, i)
          → target (less_step A G h (step_by A t i (element G i))) ≡ Some (u, j) → order A u.1 t.1 ≡ Less
      step_falls h t i u j h_is e next =
          let picked : IsPicked A G target h t i = targeting h t i e in
          let left : (r : Polynomial) × (less_step A G (picked.above ++ t ∷ picked.rest) (step_by A t i (element G i)) ≡ picked.above ++ r) × IsBelow A t.1 r =
          step-cancels A ok G elements picked.above t picked.rest (subst IsOf picked.is h_is) i picked.divisor in
          picked.falls left.0 left.2 u j
          (ap target (sym (ap (λ h. less_step A G h (step_by A t i (element G i))) picked.is ∙ left.1)) ∙ next)

      step_degree : (D : ℕ) → degree_limit ≤ D → (h : Polynomial) (t : ℕ × Monomial) (i : ℕ) → IsOf h → poly_degree h ≤ D → target h ≡ Some (t, i)
          → is_within (step_by A t i (element G i)).mono (element G i) ≡ true → poly_degree (less_step A G h (step_by A t i (element G i))) ≤ D
      step_degree D wide h t i h_is low e within =
          let picked : IsPicked A G target h t i = targeting h t i e in
          let g_is : IsOf (element G i) = Each-element IsOf G i elements picked.divisor.low picked.divisor.high in
          less_step-degree A ok D wide G h (step_by A t i (element G i)).coef (step_by A t i (element G i)).mono i
          (step_vars A ok G elements picked.above t picked.rest (subst IsOf picked.is h_is) i picked.divisor) g_is.vars within low

      -- a step lowers the number of steps that may follow
      targeting-falls : (D : ℕ) → degree_limit ≤ D → (h : Polynomial) (s : TraceStep) (h' : Polynomial) → IsOf h → poly_degree h ≤ D
          → next_step A G h (target h) ≡ Goes s h' → (poly_degree h' ≤ D) × (steps_left D (target h') < steps_left D (target h))
      targeting-falls D wide h s h' h_is low e = by (target h) refl e
        where
          by : (o : Option Target) → target h ≡ o → next_step A G h o ≡ Goes s h' → (poly_degree h' ≤ D) × (steps_left D (target h') < steps_left D o)
          by None at e = cc
          by (Some (t, i)) at e = (less, next (target h') refl)
            where
              goes : (is_within (step_by A t i (element G i)).mono (element G i) ≡ true) × (step_by A t i (element G i) ≡ s) × (less_step A G h (step_by A t i (element G i)) ≡ h')
              goes = next_step-goes A G h t i s h' e

              less : poly_degree h' ≤ D
              less = subst (λ h. poly_degree h ≤ D) goes.2 (step_degree D wide h t i h_is low at goes.0)

              next : (o : Option Target) → target h' ≡ o → steps_left D o < suc (rank A.order.rows A.order.vars D t.1)
              next None e' = omega arith
              next (Some (u, j)) e' =
                  let falls : rank A.order.rows A.order.vars D u.1 < rank A.order.rows A.order.vars D t.1 =
                  rank_falls A.order.rows A.order.vars D u.1 t.1 (step_falls h t i u j h_is at (ap target goes.2 ∙ e'))
                  (target_is_in D h' u j (next_step-sorted h (Some (t, i)) s h' h_is e) less e') in
                  omega (arith, falls)

      -- any two numbers of steps above those that may follow give the same
      steps_within-steady : (k k' D D' : ℕ) → degree_limit ≤ D → degree_limit ≤ D' → (h : Polynomial) → IsOf h → poly_degree h ≤ D → poly_degree h ≤ D'
          → steps_left D (target h) < k → steps_left D' (target h) < k' → steps_within A G target k h ≡ steps_within A G target k' h
      unfolding steps_within
      steps_within-steady zero k' D D' wide wide' h h_is low low' a a' = absurd (omega arith)
      steps_within-steady (suc k) zero D D' wide wide' h h_is low low' a a' = absurd (omega arith)
      steps_within-steady (suc k) (suc k') D D' wide wide' h h_is low low' a a' =
          by (next_step A G h (target h)) refl (steps_within-steady k k' D D' wide wide')
        where
          by : (n : Next) → next_step A G h (target h) ≡ n
              → ((h' : Polynomial) → IsOf h' → poly_degree h' ≤ D → poly_degree h' ≤ D' → steps_left D (target h') < k → steps_left D' (target h') < k'
              → steps_within A G target k h' ≡ steps_within A G target k' h')
              → after_step (steps_within A G target k) h n ≡ after_step (steps_within A G target k') h n
          by Ends e ih = refl
          by Undefined e ih = refl
          by (Goes s h') e ih =
              let falls : (poly_degree h' ≤ D) × (steps_left D (target h') < steps_left D (target h)) = targeting-falls D wide h s h' h_is low e in
              let falls' : (poly_degree h' ≤ D') × (steps_left D' (target h') < steps_left D' (target h)) = targeting-falls D' wide' h s h' h_is low' e in
              ap (λ (r : Reduced). after_step (λ x. r) h (Goes s h'))
              (ih h' (next_step-sorted h (target h) s h' h_is e) falls.0 falls'.0 (omega (arith, falls.1)) (omega (arith, falls'.1)))

      -- all steps: the recursion without fuel
      abbrev all_steps : Polynomial → Reduced
      all_steps h = steps_within A G target (enough_steps A.order.vars h) h

      -- the degree that is not exceeded
      abbrev highest : Polynomial → ℕ
      highest h = max degree_limit (poly_degree h)

      steps_left-enough : (h : Polynomial) → IsOf h → steps_left (highest h) (target h) < enough_steps A.order.vars h
      steps_left-enough h h_is =
          let low : poly_degree h ≤ highest h = omega arith in
          let same : highest h + 1 ≡ suc (highest h) = omega arith in
          let most : steps_left (highest h) (target h) ≤ suc (highest h) ^ A.order.vars =
          subst (λ x. steps_left (highest h) (target h) ≤ x ^ A.order.vars) same (steps_left-le (highest h) h h_is low) in
          omega (arith, most)

      all_steps-next : (h : Polynomial) → IsOf h → all_steps h ≡ after_step all_steps h (next_step A G h (target h))
      unfolding steps_within
      all_steps-next h h_is = by (next_step A G h (target h)) refl
        where
          by : (n : Next) → next_step A G h (target h) ≡ n → after_step (steps_within A G target (suc (highest h) ^ A.order.vars)) h n ≡ after_step all_steps h n
          by Ends e = refl
          by Undefined e = refl
          by (Goes s h') e =
              let falls : (poly_degree h' ≤ highest h) × (steps_left (highest h) (target h') < steps_left (highest h) (target h)) =
              targeting-falls (highest h) (omega arith) h s h' h_is (omega arith) e in
              let h'_is : IsOf h' = next_step-sorted h (target h) s h' h_is e in
              let here : steps_left (highest h) (target h') < suc (highest h) ^ A.order.vars = omega (arith, falls.1, steps_left-enough h h_is) in
              ap (λ (r : Reduced). after_step (λ x. r) h (Goes s h'))
              (steps_within-steady (suc (highest h) ^ A.order.vars) (enough_steps A.order.vars h') (highest h) (highest h') (omega arith) (omega arith)
              h' h'_is falls.0 (omega arith) here (steps_left-enough h' h'_is))

      steps_within-sorted : (k : ℕ) (h : Polynomial) → IsOf h → IsOf (steps_within A G target k h).rest
      unfolding steps_within
      steps_within-sorted zero h h_is = h_is
      steps_within-sorted (suc k) h h_is = by (next_step A G h (target h)) refl (steps_within-sorted k)
        where
          by : (n : Next) → next_step A G h (target h) ≡ n → ((h' : Polynomial) → IsOf h' → IsOf (steps_within A G target k h').rest)
              → IsOf (after_step (steps_within A G target k) h n).rest
          by Ends e ih = h_is
          by Undefined e ih = h_is
          by (Goes s h') e ih = ih h' (next_step-sorted h (target h) s h' h_is e)

    -- a step of each of the three reductions lowers the number of steps that may follow
    pub leading-falls : (D : ℕ) → degree_limit ≤ D → (h : Polynomial) (s : TraceStep) (h' : Polynomial) → IsOf h → poly_degree h ≤ D
        → next_step A G h (leading_target G h) ≡ Goes s h' → (poly_degree h' ≤ D) × (steps_left D (leading_target G h') < steps_left D (leading_target G h))
    leading-falls D wide h s h' h_is low e = targeting-falls (leading_target G) (leading_target-falls A G) D wide h s h' h_is low e

    pub greatest-falls : (D : ℕ) → degree_limit ≤ D → (h : Polynomial) (s : TraceStep) (h' : Polynomial) → IsOf h → poly_degree h ≤ D
        → next_step A G h (greatest_target G h) ≡ Goes s h' → (poly_degree h' ≤ D) × (steps_left D (greatest_target G h') < steps_left D (greatest_target G h))
    greatest-falls D wide h s h' h_is low e = targeting-falls (greatest_target G) (greatest_target-falls A G) D wide h s h' h_is low e

    pub tail-falls : (D : ℕ) → degree_limit ≤ D → (h : Polynomial) (s : TraceStep) (h' : Polynomial) → IsOf h → poly_degree h ≤ D
        → next_step A G h (tail_target G h) ≡ Goes s h' → (poly_degree h' ≤ D) × (steps_left D (tail_target G h') < steps_left D (tail_target G h))
    tail-falls D wide h s h' h_is low e = targeting-falls (tail_target G) (tail_target-falls A G) D wide h s h' h_is low e

    -- the recursions, without fuel
    pub reduce-next : (h : Polynomial) → IsOf h → reduce A G h ≡ after_step (reduce A G) h (next_step A G h (leading_target G h))
    unfolding reduce
    reduce-next h h_is = all_steps-next (leading_target G) (leading_target-falls A G) h h_is

    pub normal_form_by-next : (h : Polynomial) → IsOf h → normal_form_by A G h ≡ after_step (normal_form_by A G) h (next_step A G h (greatest_target G h))
    unfolding normal_form_by
    normal_form_by-next h h_is = all_steps-next (greatest_target G) (greatest_target-falls A G) h h_is

    pub reduce_tail-next : (h : Polynomial) → IsOf h → reduce_tail A G h ≡ after_step (reduce_tail A G) h (next_step A G h (tail_target G h))
    unfolding reduce_tail
    reduce_tail-next h h_is = all_steps-next (tail_target G) (tail_target-falls A G) h h_is

    -- what is left is a polynomial
    pub reduce-sorted : (h : Polynomial) → IsOf h → IsOf (reduce A G h).rest
    unfolding reduce
    reduce-sorted h h_is = steps_within-sorted (leading_target G) (leading_target-falls A G) (enough_steps A.order.vars h) h h_is

    pub normal_form_by-sorted : (h : Polynomial) → IsOf h → IsOf (normal_form_by A G h).rest
    unfolding normal_form_by
    normal_form_by-sorted h h_is = steps_within-sorted (greatest_target G) (greatest_target-falls A G) (enough_steps A.order.vars h) h h_is

    pub reduce_tail-sorted : (h : Polynomial) → IsOf h → IsOf (reduce_tail A G h).rest
    unfolding reduce_tail
    reduce_tail-sorted h h_is = steps_within-sorted (tail_target G) (tail_target-falls A G) (enough_steps A.order.vars h) h h_is
