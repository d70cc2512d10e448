-- The steps of a reduction, by whichever of the targets, are steps by its elements.
use Rattle.std.proofs.Common.{◌≡◌, ◌≢◌, ℕ, zero, suc, ◌+◌, ◌*◌, ◌%◌, ◌<◌, ◌≤◌, true, List, [], ◌∷◌, ◌++◌, length, Option, Some, None, refl, sym, ap, ◌∙◌, subst, arith, mod-lt}
use Rattle.std.proofs.Math.Nat.{mod-eq_of_lt}
use Rattle.std.specs.declared.cmp.Ordering.{Ordering}
use Rattle.monomials.specs.Monomials.{Monomial, degree, minus}
use Rattle.monomials.specs.Polynomials.{Polynomial, Each, IsCanonical, IsPolynomial, poly_degree}
use Rattle.monomials.specs.Leading.{leading_monomial, leading_coefficient}
use Rattle.monomials.proofs.Modulo.{Same}
use Rattle.word_model.specs.Words.{Algebra}
use Rattle.word_model.specs.Conditions.{NonZero, IsField, IsGAlgebra}
use Rattle.word_model.specs.Products.{degree_limit}
use Rattle.word_model.specs.Reduction.{element, quotient, multiple, is_within, Target, leading_target, greatest_target, tail_target, step_by, Next, Ends, Undefined, Goes, next_step, after_step, steps_within, enough_steps, reduce, normal_form_by, reduce_tail}
use Rattle.word_model.specs.declared.records.TraceStep.{TraceStep}
use Rattle.word_model.proofs.Reach.{within-degrees}
use Rattle.word_model.proofs.Divisions.{quotient-times}
use Rattle.word_model.proofs.LeastNumbers.{Each-element}
use Rattle.word_model.proofs.NormalForms.{product_is_polynomial}
use Rattle.word_model.proofs.Multiples.{leading_coefficient-nonzero, multiple-leading, step_vars}
use Rattle.word_model.proofs.Targets.{IsPicked, IsTargeting, leading_target-falls, greatest_target-falls, tail_target-falls}
use Rattle.word_model.proofs.Reductions.{next_step-goes, next_step-sorted}
use Rattle.word_model.specs.Inside.Sound.{IsStep}

-- the number of a term in the midst of a polynomial
number_inside : (cmp : Monomial → Monomial → Ordering) (p : ℕ) (f : Polynomial) (t : ℕ × Monomial) (r : Polynomial) → IsCanonical cmp p (f ++ t ∷ r) → (0 < t.0) × (t.0 < p)
number_inside cmp p [] t r h = (h.0, h.1)
number_inside cmp p (u ∷ f) t r h = number_inside cmp p f t r h.3

-- a quotient of numbers that are not zero is a number of the field, and not zero
pub quotient-some : (p a b : ℕ) → IsField p → 0 < a → a < p → NonZero p b → 0 < quotient p a b
quotient-some p a b field some small nonzero = by (quotient p a b) (quotient-times p a b field nonzero)
  where
    by : (q : ℕ) → Same p (q * b) a → 0 < q
    by zero same =
        let zero_times : 0 ≡ 0 * b = omega arith in
        let no : 0 % p ≡ a = ap (λ x. x % p) zero_times ∙ same ∙ mod-eq_of_lt small in
        let none : 0 % p ≡ 0 = mod-eq_of_lt (omega arith) in
        omega (arith, no, none, some)
    by (suc q) same = omega arith

pub quotient-small : (p a b : ℕ) → 0 < p → quotient p a b < p
quotient-small p a b some = mod-lt _ some

module _ (A : Algebra) (ok : IsGAlgebra A) (G : List Polynomial) (elements : Each (IsPolynomial A.p A.order) G) where
  module _ (target : Polynomial → Option Target) (targeting : IsTargeting A G target) where
    -- one step
    next_step-is : (h : Polynomial) (t : ℕ × Monomial) (i : ℕ) (s : TraceStep) (h' : Polynomial) → IsPolynomial A.p A.order h → target h ≡ Some (t, i)
        → next_step A G h (Some (t, i)) ≡ Goes s h' → IsStep A (length G) s
    next_step-is h t i s h' h_is at e =
        let picked : IsPicked A G target h t i = targeting h t i at in
        let whole : IsPolynomial A.p A.order (picked.above ++ t ∷ picked.rest) = subst (IsPolynomial A.p A.order) picked.is h_is in
        let goes : (is_within (step_by A t i (element G i)).mono (element G i) ≡ true) × (step_by A t i (element G i) ≡ s) × _ = next_step-goes A G h t i s h' e in
        let g_is : IsPolynomial A.p A.order (element G i) = Each-element (IsPolynomial A.p A.order) G i elements picked.divisor.low picked.divisor.high in
        let m : Monomial = minus t.1 (leading_monomial (element G i)) in
        let vars : length m ≡ A.order.vars = step_vars A ok G elements picked.above t picked.rest whole i picked.divisor in
        let q : Polynomial = multiple A 1 m (element G i) in
        let q_is : IsPolynomial A.p A.order q = product_is_polynomial A ok.field.more ((1, m) ∷ []) (element G i) in
        let q_some : q ≢ [] = (multiple-leading A ok m (element G i) vars g_is picked.divisor.nonzero).0 in
        let number : (0 < t.0) × (t.0 < A.p) = number_inside _ A.p picked.above t picked.rest whole.canonical in
        let low : degree m + poly_degree (element G i) ≤ degree_limit = within-degrees m (element G i) picked.divisor.nonzero goes.0 in
        let step : IsStep A (length G) (step_by A t i (element G i)) =
        record {
          some = quotient-some A.p t.0 (leading_coefficient q) ok.field number.0 number.1 (leading_coefficient-nonzero A q q_is.canonical q_some);
          small = quotient-small A.p t.0 (leading_coefficient q) (omega (arith, number.0, number.1));
          vars = vars;
          within = omega (arith, low);
          first = picked.divisor.low;
          last = picked.divisor.high;
        } in
        subst (IsStep A (length G)) goes.1 step

    -- and so all
    steps_within-are : (k : ℕ) (h : Polynomial) → IsPolynomial A.p A.order h → Each (IsStep A (length G)) (steps_within A G target k h).trace
    unfolding steps_within
    steps_within-are zero h h_is = tt
    steps_within-are (suc k) h h_is = at (target h) refl (steps_within-are k)
      where
        by : (o : Option Target) (n : Next) → target h ≡ o → next_step A G h o ≡ n
            → ((h : Polynomial) → IsPolynomial A.p A.order h → Each (IsStep A (length G)) (steps_within A G target k h).trace)
            → Each (IsStep A (length G)) (after_step (steps_within A G target k) h n).trace
        by o Ends is e ih = tt
        by o Undefined is e ih = tt
        by None (Goes s h') is e ih = cc
        by (Some (t, i)) (Goes s h') is e ih =
            (next_step-is h t i s h' h_is is e, ih h' (next_step-sorted A ok G elements h (Some (t, i)) s h' h_is e))

        at : (o : Option Target) → target h ≡ o
            → ((h : Polynomial) → IsPolynomial A.p A.order h → Each (IsStep A (length G)) (steps_within A G target k h).trace)
            → Each (IsStep A (length G)) (after_step (steps_within A G target k) h (next_step A G h (target h))).trace
        at o is ih =
            subst (λ o. Each (IsStep A (length G)) (after_step (steps_within A G target k) h (next_step A G h o)).trace) (sym is) (by o (next_step A G h o) is refl ih)

  -- the steps of each of the three reductions
  pub reduce-steps : (h : Polynomial) → IsPolynomial A.p A.order h → Each (IsStep A (length G)) (reduce A G h).trace
  unfolding reduce
  reduce-steps h h_is = steps_within-are (leading_target G) (leading_target-falls A G) (enough_steps A.order.vars h) h h_is

  pub normal_form_by-steps : (h : Polynomial) → IsPolynomial A.p A.order h → Each (IsStep A (length G)) (normal_form_by A G h).trace
  unfolding normal_form_by
  normal_form_by-steps h h_is = steps_within-are (greatest_target G) (greatest_target-falls A G) (enough_steps A.order.vars h) h h_is

  pub reduce_tail-steps : (h : Polynomial) → IsPolynomial A.p A.order h → Each (IsStep A (length G)) (reduce_tail A G h).trace
  unfolding reduce_tail
  reduce_tail-steps h h_is = steps_within-are (tail_target G) (tail_target-falls A G) (enough_steps A.order.vars h) h h_is
