-- The basis of a left run is in the left ideal of the generators, and that of a finished one spans it.
use Rattle.std.proofs.Common.{◌≡◌, ℕ, List, []}
use Rattle.monomials.specs.Polynomials.{Polynomial, Each, HasVars, IsPolynomial}
use Rattle.monomials.proofs.Weights.{weigh}
use Rattle.monomials.proofs.Keys.{Each-weaker}
use Rattle.word_model.specs.Words.{Algebra}
use Rattle.word_model.specs.Conditions.{IsGAlgebra}
use Rattle.word_model.specs.Machine.{Journal, machine, IsElement}
use Rattle.word_model.specs.Ideals.{InLeftIdeal}
use Rattle.word_model.specs.declared.records.Mode.TheVariants.{Left}
use Rattle.word_model.specs.declared.records.Outcome.TheVariants.{Finished}
use Rattle.word_model.proofs.LeastNumbers.{Each-element}
use Rattle.word_model.proofs.Differences.{sub_is, scale_is, multiple_is}
use Rattle.word_model.proofs.Settled.{each_number}
use Rattle.word_model.proofs.Spans.{InSpan, span_element, span_sub, span_scale, span_multiple, span_through}
use Rattle.word_model.proofs.Combinations.{span_in_ideal, ideal_is, ideal_in_span}
use Rattle.word_model.proofs.Making.{IsClosed, elements_in}
use Rattle.word_model.proofs.Deciding.{Spans}
use Rattle.word_model.proofs.FinishedBases.{told, run_elements, generator_span}

module _ (A : Algebra) (ok : IsGAlgebra A) (gens : List Polynomial) (sorted : Each (IsPolynomial A.p A.order) gens) where
  gens_vars : Each (HasVars A.order.vars) gens
  gens_vars = Each-weaker _ _ (λ f h. h.vars) gens sorted

  -- polynomials in the span of the generators
  abbrev pub IsInSpan : Polynomial → Type 0
  IsInSpan f = IsPolynomial A.p A.order f × InSpan A gens f

  pub span_closed : IsClosed A ok gens Left IsInSpan
  span_closed = record {
    seed = λ s number. (Each-element (IsPolynomial A.p A.order) gens s sorted number.0 number.1, span_element A ok gens gens_vars s number);
    difference = λ f g hf hg. (sub_is A ok f g hf.0 hg.0, span_sub A ok gens gens_vars f g hf.1 hg.1);
    multiplied = λ c m f hm h. (multiple_is A ok c m f, span_multiple A ok gens gens_vars c m f hm h.1);
    scaled = λ c f h. (scale_is A ok c f h.0, span_scale A ok gens gens_vars c f h.1);
    on_the_right = λ is f v low high h. cc;
  }

  module _ (budget : ℕ) where
    abbrev pub J : Journal
    J = machine A gens Left budget

    elements : Each (IsElement A) J.basis
    elements = run_elements A ok gens sorted Left budget

    basis_vars : Each (HasVars A.order.vars) J.basis
    basis_vars = Each-weaker _ _ (λ f e. e.0.vars) J.basis elements

    -- the elements of a left run are in the span of the generators, whatever its outcome
    pub elements_span : Each IsInSpan J.basis
    elements_span = elements_in A ok gens sorted Left IsInSpan span_closed [] J.entries J.basis (told A ok gens sorted Left budget).replay tt tt

    pub elements_in_ideal : Each (InLeftIdeal A gens) J.basis
    elements_in_ideal = Each-weaker _ _ (λ f h. span_in_ideal A ok gens f h.0 h.1) J.basis elements_span

    module _ (end : J.outcome ≡ Finished) where
      -- the left ideal of the generators is the span of the basis
      ideal_spanned : (f : Polynomial) → InLeftIdeal A gens f → InSpan A J.basis f
      ideal_spanned f h = ideal_in_span A ok J.basis gens basis_vars (each_number (InSpan A J.basis) gens (generator_span A ok gens sorted Left budget end)) f h

      spanned_in_ideal : (f : Polynomial) → IsPolynomial A.p A.order f → InSpan A J.basis f → InLeftIdeal A gens f
      spanned_in_ideal f f_is s =
          span_in_ideal A ok gens f f_is
          (span_through A ok gens gens_vars J.basis
          (λ i number. (Each-element IsInSpan J.basis i elements_span number.0 number.1).1) (λ φ. weigh φ f) s)

      pub left_spans : Spans A J.basis (InLeftIdeal A gens)
      left_spans = record { sorted = ideal_is A ok gens; spanned = ideal_spanned; inside = spanned_in_ideal }
