-- Reduced bases of an ideal: there is at most one, and it generates the ideal.
use Rattle.std.proofs.Common.{◌≡◌, ◌≢◌, ℕ, true, List, [], length, ap, ◌∙◌}
use Rattle.monomials.specs.Monomials.{Monomial}
use Rattle.monomials.specs.Leading.{leading_monomial}
use Rattle.monomials.specs.Polynomials.{Polynomial, Each, HasVars, IsPolynomial}
use Rattle.monomials.specs.WellFounded.{IsWellFounded}
use Rattle.monomials.proofs.Keys.{Each-weaker}
use Rattle.word_model.specs.Words.{Algebra}
use Rattle.word_model.specs.Conditions.{IsGAlgebra}
use Rattle.word_model.specs.Reduction.{element, lead_divides, multiple}
use Rattle.word_model.specs.Ideals.{InLeftIdeal, IsOneOf, IsGroebnerBasis, IsReducedBasis}
use Rattle.word_model.specs.TwoSided.{InTwoSidedIdeal}
use Rattle.word_model.proofs.Reductions.{IsOf}
use Rattle.word_model.proofs.Differences.{sub, sub_is, multiple_is}
use Rattle.word_model.proofs.Settled.{IsNumber}
use Rattle.word_model.proofs.Spans.{InSpan, span_sub, span_multiple}
use Rattle.word_model.proofs.Combinations.{span_in_ideal, ideal_in_span}
use Rattle.word_model.proofs.Deciding.{Spans, own_span}
use Rattle.word_model.proofs.TwoSidedSums.{two_sided_closed, ideal_is_two_sided, sum_in_ideal, ideal_to_sum, span_two_sided}
use Rattle.word_model.proofs.ReducedLists.{number_of}
use Rattle.word_model.proofs.Unique.{reduced_unique}
use Rattle.word_model.proofs.Generated.{generated}

-- what holds of left ideals and of two-sided ones
pub record IsIdeal (A : Algebra) (ok : IsGAlgebra A) (I : Polynomial → Type 0) : Type 0 where
  pub sorted : (f : Polynomial) → I f → IsPolynomial A.p A.order f
  pub difference : (f g : Polynomial) → I f → I g → I (sub A ok f g)
  pub multiplied : (c : ℕ) (m : Monomial) (f : Polynomial) → length m ≡ A.order.vars → I f → I (multiple A c m f)
  -- what a list of its polynomials spans is in the ideal
  pub spanned : (F : List Polynomial) → Each I F → (f : Polynomial) → IsPolynomial A.p A.order f → InSpan A F f → I f

module _ (A : Algebra) (ok : IsGAlgebra A) (gens : List Polynomial) (sorted : Each (IsPolynomial A.p A.order) gens) where
  pub left_ideal : IsIdeal A ok (InLeftIdeal A gens)
  left_ideal =
      let own : Spans A gens (InLeftIdeal A gens) = own_span A ok gens sorted in
      let vars : Each (HasVars A.order.vars) gens = Each-weaker _ _ (λ f h. h.vars) gens sorted in
      record {
        sorted = own.sorted;
        difference = λ f g hf hg.
            span_in_ideal A ok gens (sub A ok f g) (sub_is A ok f g (own.sorted f hf) (own.sorted g hg)) (span_sub A ok gens vars f g (own.spanned f hf) (own.spanned g hg));
        multiplied = λ c m f hm h. span_in_ideal A ok gens (multiple A c m f) (multiple_is A ok c m f) (span_multiple A ok gens vars c m f hm (own.spanned f h));
        spanned = λ F inside f f_is s.
            own.inside f f_is (ideal_in_span A ok gens F vars (Each-weaker _ _ own.spanned F inside) f (span_in_ideal A ok F f f_is s));
      }

  pub two_sided_ideal : IsIdeal A ok (InTwoSidedIdeal A gens)
  two_sided_ideal = record {
    sorted = ideal_is_two_sided A ok gens sorted;
    difference = λ f g hf hg.
        sum_in_ideal A ok gens sorted (sub A ok f g) ((two_sided_closed A ok gens sorted).difference f g (ideal_to_sum A ok gens sorted f hf) (ideal_to_sum A ok gens sorted g hg));
    multiplied = λ c m f hm h. sum_in_ideal A ok gens sorted (multiple A c m f) ((two_sided_closed A ok gens sorted).multiplied c m f hm (ideal_to_sum A ok gens sorted f h));
    spanned = λ F inside f f_is s. span_two_sided A ok gens sorted F (Each-weaker _ _ (ideal_to_sum A ok gens sorted) F inside) f f_is s;
  }

module _ (A : Algebra) (ok : IsGAlgebra A) (well : IsWellFounded A.order) (I : Polynomial → Type 0) (ideal : IsIdeal A ok I) where
  pub unique : (F H : List Polynomial) → IsReducedBasis A I F → IsReducedBasis A I H → F ≡ H
  unique F H a b = reduced_unique A ok well I ideal.sorted ideal.difference F H a b

  module _ (F : List Polynomial) (r : IsReducedBasis A I F) where
    pub polynomials : Each (IsOf A ok) F
    polynomials = Each-weaker _ _ ideal.sorted F r.inside

    divisor : (f : Polynomial) → I f → f ≢ [] → (i : ℕ) × IsNumber F i × (lead_divides (element F i) (leading_monomial f) ≡ true)
    divisor f h nonzero = by f (r.divided f h nonzero)
      where
        by : (f : Polynomial) → (g : Polynomial) × IsOneOf g F × (lead_divides g (leading_monomial f) ≡ true) → (i : ℕ) × IsNumber F i × (lead_divides (element F i) (leading_monomial f) ≡ true)
        by f d =
            let n : (i : ℕ) × IsNumber F i × (element F i ≡ d.0) = number_of F d.0 d.1 in
            (n.0, n.1, ap (λ g. lead_divides g (leading_monomial f)) n.2 ∙ d.2)

    -- a reduced basis is a Gröbner basis
    pub reduced_groebner : IsGroebnerBasis A I F
    reduced_groebner = record {
      inside = r.inside;
      divided = λ f h nonzero.
          (let d : (i : ℕ) × IsNumber F i × (lead_divides (element F i) (leading_monomial f) ≡ true) = divisor f h nonzero in
          (d.0, d.1.0, d.1.1, d.2));
    }

    -- and spans the ideal
    pub reduced_spans : Spans A F I
    reduced_spans = record {
      sorted = ideal.sorted;
      spanned = generated A ok well I ideal.sorted ideal.difference ideal.multiplied F r.inside polynomials divisor;
      inside = ideal.spanned F r.inside;
    }
