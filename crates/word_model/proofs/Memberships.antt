-- What the basis of a finished run decides: its S-polynomials, and the members of the ideal that it spans.
use Rattle.std.proofs.Common.{◌≡◌, ◌≢◌, ℕ, ◌⊎◌, ⊎_elim, Less, false, List, []}
use Rattle.monomials.specs.Orders.{order_cmp}
use Rattle.monomials.specs.Leading.{leading_monomial}
use Rattle.monomials.specs.Polynomials.{Polynomial, Each, HasVars, IsPolynomial}
use Rattle.monomials.specs.WellFounded.{IsWellFounded}
use Rattle.monomials.proofs.Weights.{weigh}
use Rattle.monomials.proofs.Keys.{Each-weaker}
use Rattle.word_model.specs.Words.{Algebra}
use Rattle.word_model.specs.Conditions.{IsGAlgebra}
use Rattle.word_model.specs.Reduction.{element, reduce}
use Rattle.word_model.specs.Jobs.{pair_lcm, s_polynomial}
use Rattle.word_model.specs.Machine.{Journal, machine, IsElement}
use Rattle.word_model.specs.Ideals.{InLeftIdeal, IsCombinationBelow, IsCombinationWithin, IsGroebnerBasis}
use Rattle.word_model.specs.declared.records.Mode.{Mode}
use Rattle.word_model.specs.declared.records.Outcome.TheVariants.{Finished}
use Rattle.word_model.proofs.LeadingMonomials.{order}
use Rattle.word_model.proofs.LeastNumbers.{Each-element}
use Rattle.word_model.proofs.Reductions.{IsOf}
use Rattle.word_model.proofs.Sums.{sum_weaker}
use Rattle.word_model.proofs.MultipleWeights.{multiple_weight, IsThere, Under, AtMost, top}
use Rattle.word_model.proofs.Criterion.{IsWithin}
use Rattle.word_model.proofs.SPolynomials.{s_polynomial-is}
use Rattle.word_model.proofs.ReducedToZero.{lead_divides-is}
use Rattle.word_model.proofs.Settled.{IsNumber, each_number}
use Rattle.word_model.proofs.Chains.{is_there}
use Rattle.word_model.proofs.Spans.{IsMultiple, span_element}
use Rattle.word_model.proofs.Combinations.{sum_combination}
use Rattle.word_model.proofs.Deciding.{Spans, own_span, reductions_decide}
use Rattle.word_model.proofs.FinishedBases.{s_polynomial-sum, span_within, run_elements, run_linked}

module _ (A : Algebra) (ok : IsGAlgebra A) (gens : List Polynomial) (sorted : Each (IsPolynomial A.p A.order) gens) (mode : Mode) (budget : ℕ) (end : (machine A gens mode budget).outcome ≡ Finished) where
  abbrev pub J : Journal
  J = machine A gens mode budget

  elements : Each (IsElement A) J.basis
  elements = run_elements A ok gens sorted mode budget

  basis_vars : Each (HasVars A.order.vars) J.basis
  basis_vars = Each-weaker _ _ (λ f e. e.0.vars) J.basis elements

  -- each S-polynomial is a left combination below the least common multiple
  pub pairs_below : (i j : ℕ) → IsNumber J.basis i → IsNumber J.basis j → IsCombinationBelow A J.basis (pair_lcm J.basis i j) (s_polynomial A (element J.basis i) (element J.basis j))
  pairs_below i j hi hj =
      let ti : IsThere A J.basis i = is_there A J.basis elements i hi in
      let tj : IsThere A J.basis j = is_there A J.basis elements j hj in
      let S : Polynomial = s_polynomial A (element J.basis i) (element J.basis j) in
      sum_combination A ok (λ m. order_cmp A.order.rows m (pair_lcm J.basis i j) ≡ Less) J.basis S (s_polynomial-is A ok J.basis i j ti tj)
      (sum_weaker A.p (multiple_weight A J.basis) (Under A J.basis (pair_lcm J.basis i j))
      (λ k. IsMultiple A J.basis k × (order A (top A J.basis k) (pair_lcm J.basis i j) ≡ Less))
      (λ k u. ((u.0.0, (u.0.1.low, u.0.1.high)), u.1)) (λ φ. weigh φ S)
      (s_polynomial-sum A ok J.basis elements (run_linked A ok gens sorted mode budget end) i j ti tj))

  module _ (well : IsWellFounded A.order) (I : Polynomial → Type 0) (spans : Spans A J.basis I) where
    member : (f : Polynomial) → I f → f ≢ [] → IsWithin A ok J.basis f
    member f h nonzero =
        ⊎_elim (λ zero. absurd (nonzero zero)) (λ w. w)
        (span_within A ok J.basis elements (run_linked A ok gens sorted mode budget end) well f (spans.sorted f h) (spans.spanned f h))

    -- each polynomial of an ideal that the basis spans is, unless zero, a left combination within its leading monomial
    pub members_within : (f : Polynomial) → I f → f ≢ [] → IsCombinationWithin A J.basis (leading_monomial f) f
    members_within f h nonzero =
        let w : IsWithin A ok J.basis f = member f h nonzero in
        sum_combination A ok (λ m. (order_cmp A.order.rows m (leading_monomial f) ≡ Less) ⊎ (m ≡ leading_monomial f)) J.basis f (spans.sorted f h)
        (sum_weaker A.p (multiple_weight A J.basis) (AtMost A J.basis (leading_monomial f))
        (λ k. IsMultiple A J.basis k × ((order A (top A J.basis k) (leading_monomial f) ≡ Less) ⊎ (top A J.basis k ≡ leading_monomial f)))
        (λ k u. ((u.0.0, (u.0.1.low, u.0.1.high)), u.1)) (λ φ. weigh φ f) w.sum)

    -- the basis is a Gröbner basis of this ideal
    pub basis_is : IsGroebnerBasis A I J.basis
    basis_is = record {
      inside = each_number I J.basis (λ i n.
          spans.inside (element J.basis i) (Each-element (IsElement A) J.basis i elements n.0 n.1).0 (span_element A ok J.basis basis_vars i n));
      divided = λ f h nonzero.
          (let w : IsWithin A ok J.basis f = member f h nonzero in
          (w.i, w.there.low, w.there.high, lead_divides-is (element J.basis w.i) (leading_monomial f) w.there.is.1 w.divides_it));
    }

  -- each S-polynomial whose reduction has no undefined step is reduced to zero
  pub pairs_to_zero : IsWellFounded A.order → (i j : ℕ) → IsNumber J.basis i → IsNumber J.basis j → (reduce A J.basis (s_polynomial A (element J.basis i) (element J.basis j))).over ≡ false
      → (reduce A J.basis (s_polynomial A (element J.basis i) (element J.basis j))).rest ≡ []
  pairs_to_zero well i j hi hj over =
      let ti : IsThere A J.basis i = is_there A J.basis elements i hi in
      let tj : IsThere A J.basis j = is_there A J.basis elements j hj in
      let S : Polynomial = s_polynomial A (element J.basis i) (element J.basis j) in
      let S_is : IsOf A ok S = s_polynomial-is A ok J.basis i j ti tj in
      let G_is : Each (IsOf A ok) J.basis = Each-weaker _ _ (λ f e. e.0) J.basis elements in
      let spans : Spans A J.basis (InLeftIdeal A J.basis) = own_span A ok J.basis G_is in
      (reductions_decide A ok J.basis G_is (InLeftIdeal A J.basis) spans (basis_is well (InLeftIdeal A J.basis) spans) S S_is over).0
      (spans.inside S S_is
      (sum_weaker A.p (multiple_weight A J.basis) (Under A J.basis (pair_lcm J.basis i j)) (IsMultiple A J.basis)
      (λ k u. (u.0.0, (u.0.1.low, u.0.1.high))) (λ φ. weigh φ S)
      (s_polynomial-sum A ok J.basis elements (run_linked A ok gens sorted mode budget end) i j ti tj)))
