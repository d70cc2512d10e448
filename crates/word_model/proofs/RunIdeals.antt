-- Runs and the ideals of their generators, left and two-sided: what a finished basis gives, and its finished list.
use Rattle.std.proofs.Common.{◌≡◌, ◌↔◌, ℕ, ◌≤◌, List, [], map, length, Some}
use Rattle.monomials.specs.Polynomials.{Polynomial, Each, IsPolynomial, poly_degree}
use Rattle.monomials.specs.WellFounded.{IsWellFounded}
use Rattle.monomials.proofs.Keys.{Each-weaker}
use Rattle.word_model.specs.Words.{Algebra}
use Rattle.word_model.specs.Conditions.{IsGAlgebra}
use Rattle.word_model.specs.Products.{degree_limit}
use Rattle.word_model.specs.Cofactors.{row_value, basis_rows}
use Rattle.word_model.specs.Reduction.{element, normal_form_by}
use Rattle.word_model.specs.Machine.{Journal, machine}
use Rattle.word_model.specs.Finished.{FinishedList, finished}
use Rattle.word_model.specs.Ideals.{InLeftIdeal, ReducesToZero, IsGroebnerBasis, IsReducedBasis}
use Rattle.word_model.specs.TwoSided.{InTwoSidedIdeal}
use Rattle.word_model.specs.Bases.{InIdeal, Decides, IsFinishedBasis, RunLaws}
use Rattle.word_model.specs.declared.records.Mode.{Mode}
use Rattle.word_model.specs.declared.records.Mode.TheVariants.{Left, TwoSided}
use Rattle.word_model.specs.declared.records.Outcome.TheVariants.{Finished}
use Rattle.word_model.proofs.LeastNumbers.{Each-element}
use Rattle.word_model.proofs.Settled.{each_number}
use Rattle.word_model.proofs.Spans.{span_element}
use Rattle.word_model.proofs.Combinations.{span_in_ideal}
use Rattle.word_model.proofs.TwoSidedSums.{two_sided_closed, sum_in_ideal}
use Rattle.word_model.proofs.Reductions.{IsOf}
use Rattle.word_model.proofs.FinishedBases.{told, run_elements, generator_reduced}
use Rattle.word_model.proofs.ReducedStarts.{entries_reduced}
use Rattle.word_model.proofs.FinishedRows.{basis_values}
use Rattle.word_model.proofs.Memberships.{pairs_below, members_within, basis_is, pairs_to_zero}
use Rattle.word_model.proofs.Deciding.{Spans, spans_left, reductions_decide, normal_forms_decide}
use Rattle.word_model.proofs.LeftBases.{left_spans}
use Rattle.word_model.proofs.TwoSidedBases.{two_sided_spans}
use Rattle.word_model.proofs.ReducedLists.{list_reduced_basis}
use Rattle.word_model.proofs.ReducedBases.{IsIdeal, left_ideal, two_sided_ideal, unique, polynomials, reduced_groebner, reduced_spans}

module _ (A : Algebra) (ok : IsGAlgebra A) (gens : List Polynomial) (sorted : Each (IsPolynomial A.p A.order) gens) where
  pub run_ideal : (mode : Mode) → IsIdeal A ok (InIdeal A mode gens)
  run_ideal Left = left_ideal A ok gens sorted
  run_ideal TwoSided = two_sided_ideal A ok gens sorted

  pub run_spans : (mode : Mode) (budget : ℕ) → (machine A gens mode budget).outcome ≡ Finished → Spans A (machine A gens mode budget).basis (InIdeal A mode gens)
  run_spans Left budget end = left_spans A ok gens sorted budget end
  run_spans TwoSided budget end = two_sided_spans A ok gens sorted budget end

  module _ (mode : Mode) (budget : ℕ) (end : (machine A gens mode budget).outcome ≡ Finished) where
    abbrev J : Journal
    J = machine A gens mode budget

    abbrev I : Polynomial → Type 0
    I = InIdeal A mode gens

    basis_polynomials : Each (IsOf A ok) J.basis
    basis_polynomials = Each-weaker _ _ (λ f e. e.0) J.basis (run_elements A ok gens sorted mode budget)

    -- the ideal of the generators is the left ideal of the basis
    pub same_ideal : (f : Polynomial) → InIdeal A mode gens f ↔ InLeftIdeal A (machine A gens mode budget).basis f
    same_ideal = spans_left A ok J.basis basis_polynomials I (run_spans mode budget end)

    module _ (well : IsWellFounded A.order) where
      groebner : IsGroebnerBasis A I J.basis
      groebner = basis_is A ok gens sorted mode budget end well I (run_spans mode budget end)

      pub finished_basis : IsFinishedBasis A mode gens (machine A gens mode budget).basis
      finished_basis = record {
        groebner = groebner;
        same_ideal = same_ideal;
        within = members_within A ok gens sorted mode budget end well I (run_spans mode budget end);
        pairs = λ i j li hi lj hj. (
          pairs_below A ok gens sorted mode budget end i j (li, hi) (lj, hj),
          pairs_to_zero A ok gens sorted mode budget end well i j (li, hi) (lj, hj),
        );
        reductions = reductions_decide A ok J.basis basis_polynomials I (run_spans mode budget end) groebner;
        normal_forms = normal_forms_decide A ok J.basis basis_polynomials I (run_spans mode budget end) groebner;
      }

      -- the finished list is the reduced basis of the ideal
      pub finished_reduced : (F : FinishedList) → finished A (machine A gens mode budget).basis ≡ Some F → IsReducedBasis A (InIdeal A mode gens) F.list
      finished_reduced F listed = list_reduced_basis A ok gens sorted mode budget F listed I (run_spans mode budget end).inside groebner

  -- the generators are in their ideal
  generators_inside : (mode : Mode) → Each (InIdeal A mode gens) gens
  generators_inside Left =
      each_number (InLeftIdeal A gens) gens (λ i n.
      span_in_ideal A ok gens (element gens i) (Each-element (IsPolynomial A.p A.order) gens i sorted n.0 n.1)
      (span_element A ok gens (Each-weaker _ _ (λ f h. h.vars) gens sorted) i n))
  generators_inside TwoSided =
      each_number (InTwoSidedIdeal A gens) gens (λ i n. sum_in_ideal A ok gens sorted (element gens i) ((two_sided_closed A ok gens sorted).seed i n))

  module _ (well : IsWellFounded A.order) (mode : Mode) (F : List Polynomial) (r : IsReducedBasis A (InIdeal A mode gens) F) where
    -- the ideal is the left ideal of its reduced basis
    pub reduced_same_ideal : (f : Polynomial) → InIdeal A mode gens f ↔ InLeftIdeal A F f
    reduced_same_ideal =
        spans_left A ok F (polynomials A ok well (InIdeal A mode gens) (run_ideal mode) F r) (InIdeal A mode gens)
        (reduced_spans A ok well (InIdeal A mode gens) (run_ideal mode) F r)

    -- and the generators are in that
    pub reduced_has_generators : Each (InLeftIdeal A F) gens
    reduced_has_generators = Each-weaker _ _ (λ f h. (reduced_same_ideal f).0 h) gens (generators_inside mode)

    -- normal forms by the reduced basis decide what is in the ideal
    pub reduced_decides : Decides A (InIdeal A mode gens) (normal_form_by A F)
    reduced_decides =
        normal_forms_decide A ok F (polynomials A ok well (InIdeal A mode gens) (run_ideal mode) F r) (InIdeal A mode gens)
        (reduced_spans A ok well (InIdeal A mode gens) (run_ideal mode) F r) (reduced_groebner A ok well (InIdeal A mode gens) (run_ideal mode) F r)

    pub reduced_is_one : (H : List Polynomial) → IsReducedBasis A (InIdeal A mode gens) H → F ≡ H
    reduced_is_one H other = unique A ok well (InIdeal A mode gens) (run_ideal mode) F H r other

-- what is proved of every run
module _ (A : Algebra) (ok : IsGAlgebra A) (well : IsWellFounded A.order) (gens : List Polynomial) (sorted : Each (IsPolynomial A.p A.order) gens) (low : Each (λ f. poly_degree f ≤ degree_limit) gens) where
  pub run_laws : (mode : Mode) (budget : ℕ) → RunLaws A mode gens (machine A gens mode budget)
  run_laws mode budget = record {
    elements = run_elements A ok gens sorted mode budget;
    starts = entries_reduced A ok gens sorted low mode (machine A gens mode budget).basis (run_elements A ok gens sorted mode budget) [] (machine A gens mode budget).entries
        (told A ok gens sorted mode budget).replay;
    values = values mode;
    generators = λ end. each_number (ReducesToZero A (machine A gens mode budget).basis) gens (λ s n. generator_reduced A ok gens sorted mode budget end low s n);
    basis = λ end. finished_basis A ok gens sorted mode budget end well;
  }
    where
      values : (m : Mode) → m ≡ Left → map (λ row. row_value A row gens) (basis_rows A (length gens) (machine A gens m budget)) ≡ (machine A gens m budget).basis
      values Left is = basis_values A ok gens sorted budget
      values TwoSided is = cc

-- runs over lists that generate the same ideal have the same finished list
pub same_lists : (A : Algebra) → IsGAlgebra A → IsWellFounded A.order → (gens gens' : List Polynomial) → Each (IsPolynomial A.p A.order) gens → Each (IsPolynomial A.p A.order) gens'
    → (mode : Mode) → ((f : Polynomial) → InIdeal A mode gens f ↔ InIdeal A mode gens' f)
    → (budget budget' : ℕ) → (machine A gens mode budget).outcome ≡ Finished → (machine A gens' mode budget').outcome ≡ Finished
    → (F F' : FinishedList) → finished A (machine A gens mode budget).basis ≡ Some F → finished A (machine A gens' mode budget').basis ≡ Some F' → F.list ≡ F'.list
same_lists A ok well gens gens' sorted sorted' mode same budget budget' end end' F F' e e' =
    let r : IsReducedBasis A (InIdeal A mode gens') F'.list = finished_reduced A ok gens' sorted' mode budget' end' well F' e' in
    reduced_is_one A ok gens sorted well mode F.list (finished_reduced A ok gens sorted mode budget end well F e) F'.list (record {
      monic = r.monic;
      ascends = r.ascends;
      inside = Each-weaker _ _ (λ f h. (same f).1 h) F'.list r.inside;
      apart = r.apart;
      divided = λ f h nonzero. r.divided f ((same f).0 h) nonzero;
    })
