-- The basis of a finished two-sided run: its left ideal is closed under products on the right, and is the two-sided ideal of the
-- generators.
use Rattle.std.proofs.Common.{◌≡◌, ◌≢◌, ℕ, ◌+◌, ◌≤◌, List, [], ◌∷◌, sym, subst}
use Rattle.monomials.specs.Orders.{order_cmp}
use Rattle.monomials.specs.Polynomials.{Polynomial, Each, HasVars, IsPolynomial}
use Rattle.monomials.proofs.Weights.{weigh, weigh-poly_add}
use Rattle.monomials.proofs.OrderLaws.{order_cmp_tied}
use Rattle.monomials.proofs.Keys.{Each-weaker}
use Rattle.word_model.specs.Words.{Algebra}
use Rattle.word_model.specs.Products.{product, variable_polynomial}
use Rattle.word_model.specs.Conditions.{IsGAlgebra}
use Rattle.word_model.specs.Reduction.{element}
use Rattle.word_model.specs.Machine.{Journal, machine, IsElement}
use Rattle.word_model.specs.Ideals.{InLeftIdeal}
use Rattle.word_model.specs.TwoSided.{TwoSidedMultiple, two_sided_product, two_sided_sum, IsTwoSidedMultiple, InTwoSidedIdeal}
use Rattle.word_model.specs.declared.records.Job.TheVariants.{Right}
use Rattle.word_model.specs.declared.records.Mode.TheVariants.{TwoSided}
use Rattle.word_model.specs.declared.records.Outcome.TheVariants.{Finished}
use Rattle.word_model.proofs.NormalForms.{product_is_polynomial, Each-always}
use Rattle.word_model.proofs.Associativity.{length-variable}
use Rattle.word_model.proofs.LeastNumbers.{Each-element}
use Rattle.word_model.proofs.Settled.{IsNumber, Treats, each_number}
use Rattle.word_model.proofs.Sums.{sum_zero, sum_same, sum_add, sum_weaker}
use Rattle.word_model.proofs.MultipleWeights.{multiple_weight, Fits}
use Rattle.word_model.proofs.Starts.{start_of-right}
use Rattle.word_model.proofs.TreatedJobs.{IsStartSum, treated_sum}
use Rattle.word_model.proofs.Spans.{IsMultiple, InSpan, span_element, span_product}
use Rattle.word_model.proofs.Combinations.{span_in_ideal, ideal_is, ideal_in_span}
use Rattle.word_model.proofs.Making.{elements_in}
use Rattle.word_model.proofs.FinishedBases.{settled_treated, told, run_elements, generator_span}
use Rattle.word_model.proofs.Deciding.{Spans}
use Rattle.word_model.proofs.RightSpans.{IsRight, right_elements, right_all}
use Rattle.word_model.proofs.TwoSidedSums.{IsTwoSided, two_sided_closed, ideal_is_two_sided, sum_in_ideal, span_two_sided}

module _ (A : Algebra) (ok : IsGAlgebra A) (gens : List Polynomial) (sorted : Each (IsPolynomial A.p A.order) gens) (budget : ℕ) where
  abbrev J : Journal
  J = machine A gens TwoSided budget

  elements : Each (IsElement A) J.basis
  elements = run_elements A ok gens sorted TwoSided budget

  basis_vars : Each (HasVars A.order.vars) J.basis
  basis_vars = Each-weaker _ _ (λ f e. e.0.vars) J.basis elements

  -- the elements are in the two-sided ideal, whatever the outcome
  elements_two_sided : Each (IsTwoSided A ok gens sorted) J.basis
  elements_two_sided =
      elements_in A ok gens sorted TwoSided (IsTwoSided A ok gens sorted) (two_sided_closed A ok gens sorted) [] J.entries J.basis (told A ok gens sorted TwoSided budget).replay tt tt

  pub elements_in_two_sided : Each (InTwoSidedIdeal A gens) J.basis
  elements_in_two_sided = Each-weaker _ _ (λ f h. sum_in_ideal A ok gens sorted f h) J.basis elements_two_sided

  spanned_in_two_sided : (f : Polynomial) → IsPolynomial A.p A.order f → InSpan A J.basis f → InTwoSidedIdeal A gens f
  spanned_in_two_sided f f_is s = span_two_sided A ok gens sorted J.basis elements_two_sided f f_is s

  module _ (end : J.outcome ≡ Finished) where
    -- the products of the elements by variables are in the span
    right_variables : (v : ℕ) → 1 ≤ v → v ≤ A.order.vars → (i : ℕ) → IsNumber J.basis i → InSpan A J.basis (product A (element J.basis i) (variable_polynomial A v))
    right_variables v low high i number =
        let nonzero : element J.basis i ≢ [] = (Each-element (IsElement A) J.basis i elements number.0 number.1).1 in
        let t : Treats J.entries (Right i v) =
        settled_treated J.basis J.entries (Right i v) ((told A ok gens sorted TwoSided budget).settled end (Right i v) (((number.0, number.1, low, high), nonzero), tt)) in
        let sum : IsStartSum A ok gens sorted TwoSided J.basis elements (λ m. Unit {0}) (λ x m less q. tt) (Right i v) =
        treated_sum A ok gens sorted TwoSided J.basis elements (λ m. Unit {0}) (λ x m less q. tt) (Right i v) (λ h e. Each-always (λ t. Unit {0}) (λ t. tt) h) [] J.entries
        (told A ok gens sorted TwoSided budget).replay t in
        subst (InSpan A J.basis) (sym (start_of-right A gens J.basis i v sum.start sum.start_is).0)
        (sum_weaker A.p (multiple_weight A J.basis) (λ k. Fits A J.basis k × Unit {0}) (IsMultiple A J.basis) (λ k h. (h.0.0, (h.0.1.low, h.0.1.high))) (λ φ. weigh φ sum.start) sum.sum)

    -- and so are all products on the right
    span_right : (b : Polynomial) → HasVars A.order.vars b → IsRight A ok J.basis basis_vars b
    span_right =
        right_all A ok J.basis basis_vars (λ v low high.
        right_elements A ok J.basis basis_vars (variable_polynomial A v) (length-variable A.order.vars v low high, tt) (right_variables v low high))

    -- the left ideal of the basis is closed under products on the right
    pub closed_right : (f b : Polynomial) → IsPolynomial A.p A.order b → InLeftIdeal A J.basis f → InLeftIdeal A J.basis (product A f b)
    closed_right f b b_is h =
        span_in_ideal A ok J.basis (product A f b) (product_is_polynomial A ok.field.more f b)
        (span_right b b_is.vars f (ideal_is A ok J.basis f h).vars
        (ideal_in_span A ok J.basis J.basis basis_vars (each_number (InSpan A J.basis) J.basis (λ i n. span_element A ok J.basis basis_vars i n)) f h))

    sums_spanned : (xs : List TwoSidedMultiple) → Each (IsTwoSidedMultiple A gens) xs → InSpan A J.basis (two_sided_sum A gens xs)
    sums_spanned [] h = sum_zero A.p (multiple_weight A J.basis) (IsMultiple A J.basis)
    sums_spanned (x ∷ xs) h =
        let f : Polynomial = product A x.0 (element gens x.1) in
        sum_same A.p (multiple_weight A J.basis) (IsMultiple A J.basis) (λ φ. weigh φ (two_sided_product A gens x) + weigh φ (two_sided_sum A gens xs)) (λ φ. weigh φ (two_sided_sum A gens (x ∷ xs)))
        (λ φ. weigh-poly_add (order_cmp A.order.rows) (order_cmp_tied A.order.rows) A.p φ (two_sided_product A gens x) (two_sided_sum A gens xs))
        (sum_add A.p (multiple_weight A J.basis) (IsMultiple A J.basis) (λ φ. weigh φ (two_sided_product A gens x)) (λ φ. weigh φ (two_sided_sum A gens xs))
        (span_right x.2 h.0.2.vars f (product_is_polynomial A ok.field.more x.0 (element gens x.1)).vars
        (span_product A ok J.basis basis_vars x.0 (element gens x.1) h.0.0.vars (generator_span A ok gens sorted TwoSided budget end x.1 h.0.1)))
        (sums_spanned xs h.1))

    -- the two-sided ideal of the generators is the span of the basis
    two_sided_spanned : (f : Polynomial) → InTwoSidedIdeal A gens f → InSpan A J.basis f
    two_sided_spanned f h = subst (InSpan A J.basis) h.2 (sums_spanned h.0 h.1)

    pub two_sided_spans : Spans A J.basis (InTwoSidedIdeal A gens)
    two_sided_spans = record { sorted = ideal_is_two_sided A ok gens sorted; spanned = two_sided_spanned; inside = spanned_in_two_sided }
