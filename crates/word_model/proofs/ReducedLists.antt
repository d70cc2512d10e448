-- The finished list of a run whose basis is a Gröbner basis of the ideal that it spans is the ideal's reduced basis.
use Rattle.std.proofs.Common.{◌≡◌, ◌≢◌, ℕ, suc, ◌+◌, ◌-◌, ◌*◌, ◌<◌, ◌≤◌, inl, inr, Less, Equal, true, false, List, [], ◌∷◌, length, Some, None, slice_index_or, refl, sym, ap, ◌∙◌, subst, arith}
use Rattle.monomials.specs.Monomials.{Monomial, divides}
use Rattle.monomials.specs.Leading.{leading_monomial, leading_coefficient}
use Rattle.monomials.specs.Polynomials.{Polynomial, Each, HasVars, IsPolynomial}
use Rattle.monomials.proofs.Modulo.{same_refl, same_move}
use Rattle.monomials.proofs.Weights.{weigh}
use Rattle.monomials.proofs.OrderLaws.{order_cmp_total, order_cmp_tied}
use Rattle.monomials.proofs.Canonical.{ties_itself}
use Rattle.monomials.proofs.Keys.{Each-weaker}
use Rattle.word_model.specs.Words.{Algebra}
use Rattle.word_model.specs.Conditions.{IsGAlgebra}
use Rattle.word_model.specs.Reduction.{element, lead_divides, first_divisor}
use Rattle.word_model.specs.Machine.{machine, IsElement}
use Rattle.word_model.specs.Finished.{kept, Final, FinishedList, list_of, finished}
use Rattle.word_model.specs.Ideals.{IsOneOf, Ascends, IsGroebnerBasis, IsReducedBasis}
use Rattle.word_model.specs.declared.records.Mode.{Mode}
use Rattle.word_model.proofs.LeadingMonomials.{order}
use Rattle.word_model.proofs.LeastNumbers.{Each-element, first_divisor-none, lead_divides-divides}
use Rattle.word_model.proofs.PairCofactors.{length-leading_monomial}
use Rattle.word_model.proofs.Sums.{sum_same, sum_add, sum_scale}
use Rattle.word_model.proofs.MultipleWeights.{multiple_weight}
use Rattle.word_model.proofs.Connections.{positive}
use Rattle.word_model.proofs.CommonMultiples.{divides-trans}
use Rattle.word_model.proofs.ReducedToZero.{lead_divides-is}
use Rattle.word_model.proofs.TraceValues.{terms_of, trace_weight}
use Rattle.word_model.proofs.Settled.{IsNumber}
use Rattle.word_model.proofs.Spans.{IsMultiple, InSpan, span_element}
use Rattle.word_model.proofs.Making.{elements_monic}
use Rattle.word_model.proofs.FinishedBases.{told, run_elements}
use Rattle.word_model.proofs.Kept.{length-kept, kept-is, kept-apart, kept-under, IsUnder}
use Rattle.word_model.proofs.FinalLists.{polynomials_of, FinalsAscend}
use Rattle.word_model.proofs.Finals.{IsFinal, final-leading, AreFinals, finished-finals}
use Rattle.word_model.proofs.Unique.{one_each, place_of}

-- ---- members of lists

of_list : (L : List Final) (f : Polynomial) → IsOneOf f (polynomials_of L) → (x : Final) × IsOneOf x L × (x.polynomial ≡ f)
of_list [] f m = absurd m
of_list (x ∷ L) f (inl e) = (x, inl refl, e)
of_list (x ∷ L) f (inr m) = let r : (y : Final) × IsOneOf y L × (y.polynomial ≡ f) = of_list L f m in (r.0, inr r.1, r.2)

in_list : (L : List Final) (x : Final) → IsOneOf x L → IsOneOf x.polynomial (polynomials_of L)
in_list [] x m = absurd m
in_list (y ∷ L) x (inl e) = inl (ap (λ (y : Final). y.polynomial) e)
in_list (y ∷ L) x (inr m) = inr (in_list L x m)

-- the number of a member
pub number_of : (F : List Polynomial) (g : Polynomial) → IsOneOf g F → (i : ℕ) × IsNumber F i × (element F i ≡ g)
number_of F g m =
    let p : (k : ℕ) × (k < length F) × (slice_index_or F k [] ≡ g) = place_of F g [] m in
    let z : suc p.0 - 1 ≡ p.0 = omega arith in
    (suc p.0, (omega arith, omega (arith, p.1)), ap (λ n. slice_index_or F n []) z ∙ p.2)

module _ (A : Algebra) where
  ascends-list : (L : List Final) → FinalsAscend A L → Ascends A (polynomials_of L)
  ascends-list [] a = tt
  ascends-list (x ∷ L) a = (one_each (λ g. order A (leading_monomial x.polynomial) (leading_monomial g) ≡ Less) (polynomials_of L) (λ g m. above g (of_list L g m)), ascends-list L a.1)
    where
      above : (g : Polynomial) → (y : Final) × IsOneOf y L × (y.polynomial ≡ g) → order A (leading_monomial x.polynomial) (leading_monomial g) ≡ Less
      above g y = ap (λ g. order A (leading_monomial x.polynomial) (leading_monomial g)) (sym y.2) ∙ a.0 y.0 y.1

  -- finals with the same leading monomial are the same
  same_final : (L : List Final) → FinalsAscend A L → (x y : Final) → IsOneOf x L → IsOneOf y L → leading_monomial x.polynomial ≡ leading_monomial y.polynomial → x ≡ y
  same_final [] a x y m n e = absurd m
  same_final (z ∷ L) a x y (inl p) (inl q) e = sym p ∙ q
  same_final (z ∷ L) a x y (inl p) (inr n) e =
      let less : order A (leading_monomial z.polynomial) (leading_monomial y.polynomial) ≡ Less = a.0 y n in
      let tie : order A (leading_monomial z.polynomial) (leading_monomial y.polynomial) ≡ Equal =
      ap (order A (leading_monomial z.polynomial)) (sym e ∙ ap (λ (x : Final). leading_monomial x.polynomial) (sym p))
      ∙ ties_itself (order A) (order_cmp_total A.order.rows) (order_cmp_tied A.order.rows) A.p (leading_monomial z.polynomial) in
      absurd (let no : Less ≡ Equal = sym less ∙ tie in cc)
  same_final (z ∷ L) a x y (inr m) (inl q) e =
      let less : order A (leading_monomial z.polynomial) (leading_monomial x.polynomial) ≡ Less = a.0 x m in
      let tie : order A (leading_monomial z.polynomial) (leading_monomial x.polynomial) ≡ Equal =
      ap (order A (leading_monomial z.polynomial)) (e ∙ ap (λ (x : Final). leading_monomial x.polynomial) (sym q))
      ∙ ties_itself (order A) (order_cmp_total A.order.rows) (order_cmp_tied A.order.rows) A.p (leading_monomial z.polynomial) in
      absurd (let no : Less ≡ Equal = sym less ∙ tie in cc)
  same_final (z ∷ L) a x y (inr m) (inr n) e = same_final L a.1 x y m n e

module _ (A : Algebra) (ok : IsGAlgebra A) (gens : List Polynomial) (sorted : Each (IsPolynomial A.p A.order) gens) (mode : Mode) (budget : ℕ) (F : FinishedList)
    (listed : finished A (machine A gens mode budget).basis ≡ Some F) (I : Polynomial → Type 0)
    (inside : (f : Polynomial) → IsPolynomial A.p A.order f → InSpan A (machine A gens mode budget).basis f → I f) (basis : IsGroebnerBasis A I (machine A gens mode budget).basis) where
  abbrev G : List Polynomial
  G = (machine A gens mode budget).basis

  elements : Each (IsElement A) G
  elements = run_elements A ok gens sorted mode budget

  monics : Each (λ f. leading_coefficient f ≡ 1) G
  monics = elements_monic A ok gens sorted mode [] (machine A gens mode budget).entries G (told A ok gens sorted mode budget).replay tt tt

  found : (L : List Final) × (F ≡ list_of L) × AreFinals A ok G elements 1 L
  found = finished-finals A ok G elements F listed

  basis_vars : Each (HasVars A.order.vars) G
  basis_vars = Each-weaker _ _ (λ f e. e.0.vars) G elements

  -- a final is in the span of the basis
  final_in : (x : Final) → IsFinal A ok G elements x → I x.polynomial
  final_in x f =
      let W : (Monomial → ℕ) → ℕ = trace_weight A G x.tail in
      inside x.polynomial f.sorted
      (sum_same A.p (multiple_weight A G) (IsMultiple A G) (λ φ. weigh φ (element G x.origin) + (A.p - 1) * W φ) (λ φ. weigh φ x.polynomial)
      (λ φ. same_move A.p (weigh φ (element G x.origin)) (weigh φ x.polynomial) (W φ) (positive A ok) (f.value φ ∙ same_refl A.p _ _ (swap (W φ) (weigh φ x.polynomial))))
      (sum_add A.p (multiple_weight A G) (IsMultiple A G) (λ φ. weigh φ (element G x.origin)) (λ φ. (A.p - 1) * W φ) (span_element A ok G basis_vars x.origin f.number)
      (sum_scale A.p (multiple_weight A G) (IsMultiple A G) (A.p - 1) W
      (record { terms = terms_of x.tail; each = Each-weaker _ _ (λ e h. (h.0, (h.1.low, h.1.high))) (terms_of x.tail) f.terms; value = λ φ. refl }))))
    where
      swap : (x y : ℕ) → x + y ≡ y + x
      swap x y = omega arith

  module _ (L : List Final) (finals : AreFinals A ok G elements 1 L) where
    final : (x : Final) → IsOneOf x L → IsFinal A ok G elements x
    final x m = (finals.all x m).0

    final_some : (x : Final) → IsFinal A ok G elements x → x.polynomial ≢ []
    final_some x f none = let no : f.first ∷ f.rest ≡ [] = sym f.is ∙ none in cc

    final_monic : (x : Final) → IsFinal A ok G elements x → leading_coefficient x.polynomial ≡ 1
    final_monic x f = ap leading_coefficient f.is ∙ ap leading_coefficient (sym f.from) ∙ Each-element (λ f. leading_coefficient f ≡ 1) G x.origin monics f.number.0 f.number.1

    -- a final whose leading monomial divides a monomial of another is that other
    two_apart : (x y : Final) → IsOneOf x L → IsOneOf y L → Each (λ t. lead_divides y.polynomial t.1 ≡ true → x.polynomial ≡ y.polynomial) x.polynomial
    two_apart x y mx my =
        let fx : IsFinal A ok G elements x = final x mx in
        let fy : IsFinal A ok G elements y = final y my in
        subst (Each (λ t. lead_divides y.polynomial t.1 ≡ true → x.polynomial ≡ y.polynomial)) (sym fx.is) (
          (λ d.
              (let dv : divides (leading_monomial (element G y.origin)) (leading_monomial (element G x.origin)) ≡ true =
              (λ k. divides (sym (final-leading A ok G elements y fy) k) (ap leading_monomial fx.from k)) ∙ lead_divides-divides y.polynomial fx.first.1 d in
              let o : x.origin ≡ y.origin = kept-apart A G elements x.origin y.origin fx.number fy.number fx.is_kept_one fy.is_kept_one dv in
              ap (λ (x : Final). x.polynomial)
              (same_final A L finals.ascends x y mx my
              (final-leading A ok G elements x fx ∙ ap (λ i. leading_monomial (element G i)) o ∙ sym (final-leading A ok G elements y fy))))),
          Each-weaker _ _ (λ u none d. absurd (divided_none u fy none d)) fx.rest fx.none,
        )
      where
        divided_none : (u : ℕ × Monomial) → IsFinal A ok G elements y → first_divisor (kept G) u.1 ≡ None → lead_divides y.polynomial u.1 ≡ true → ⊥
        divided_none u fy none d =
            let same : element (kept G) y.origin ≡ element G y.origin = kept-is G y.origin fy.number fy.is_kept_one in
            let no : lead_divides (element (kept G) y.origin) u.1 ≡ false = first_divisor-none (kept G) u.1 none y.origin fy.number.0 (omega (arith, fy.number.1, length-kept G)) in
            let dv : divides (leading_monomial (element G y.origin)) u.1 ≡ true =
            ap (λ m. divides m u.1) (sym (final-leading A ok G elements y fy)) ∙ lead_divides-divides y.polynomial u.1 d in
            let yes : lead_divides (element G y.origin) u.1 ≡ true = lead_divides-is (element G y.origin) u.1 (Each-element (IsElement A) G y.origin elements fy.number.0 fy.number.1).1 dv in
            let both : true ≡ false = sym yes ∙ ap (λ g. lead_divides g u.1) (sym same) ∙ no in
            cc

    -- the leading monomial of a polynomial in the ideal is divided by that of a final
    final_divides : (f : Polynomial) → I f → f ≢ [] → (g : Polynomial) × IsOneOf g (polynomials_of L) × (lead_divides g (leading_monomial f) ≡ true)
    final_divides f h some =
        let d : (i : ℕ) × (1 ≤ i) × (i ≤ length G) × (lead_divides (element G i) (leading_monomial f) ≡ true) = basis.divided f h some in
        let k : (j : ℕ) × IsUnder A G elements d.0 j = kept-under A G elements d.0 (d.1, d.2) in
        let x : (x : Final) × IsOneOf x L × (x.origin ≡ k.0) = finals.has k.0 k.1.0.0 k.1.0.1 k.1.1 in
        let fx : IsFinal A ok G elements x.0 = final x.0 x.1 in
        let lead : leading_monomial x.0.polynomial ≡ leading_monomial (element G k.0) = final-leading A ok G elements x.0 fx ∙ ap (λ i. leading_monomial (element G i)) x.2 in
        let len : (i : ℕ) → IsNumber G i → length (leading_monomial (element G i)) ≡ A.order.vars =
        λ i n. (let el : IsElement A (element G i) = Each-element (IsElement A) G i elements n.0 n.1 in length-leading_monomial A.order.vars (element G i) el.0.vars el.1) in
        let through : divides (leading_monomial (element G k.0)) (leading_monomial f) ≡ true =
        divides-trans (leading_monomial (element G k.0)) (leading_monomial (element G d.0)) (leading_monomial f) (len k.0 k.1.0 ∙ sym (len d.0 (d.1, d.2))) k.1.2
        (lead_divides-divides (element G d.0) (leading_monomial f) d.3) in
        (x.0.polynomial, in_list L x.0 x.1, lead_divides-is x.0.polynomial (leading_monomial f) (final_some x.0 fx) (ap (λ m. divides m (leading_monomial f)) lead ∙ through))

    list_reduced : IsReducedBasis A I (polynomials_of L)
    list_reduced = record {
      monic = one_each (λ f. leading_coefficient f ≡ 1) (polynomials_of L) (λ f m.
          (let x : (x : Final) × IsOneOf x L × (x.polynomial ≡ f) = of_list L f m in subst (λ f. leading_coefficient f ≡ 1) x.2 (final_monic x.0 (final x.0 x.1))));
      ascends = ascends-list A L finals.ascends;
      inside = one_each I (polynomials_of L) (λ f m.
          (let x : (x : Final) × IsOneOf x L × (x.polynomial ≡ f) = of_list L f m in subst I x.2 (final_in x.0 (final x.0 x.1))));
      apart = λ f g mf mg.
          (let x : (x : Final) × IsOneOf x L × (x.polynomial ≡ f) = of_list L f mf in
          let y : (y : Final) × IsOneOf y L × (y.polynomial ≡ g) = of_list L g mg in
          subst (λ (e : Polynomial × Polynomial). Each (λ t. lead_divides e.1 t.1 ≡ true → e.0 ≡ e.1) e.0) (λ k. (x.2 k, y.2 k)) (two_apart x.0 y.0 x.1 y.1));
      divided = final_divides;
    }

  -- the finished list is the reduced basis
  pub list_reduced_basis : IsReducedBasis A I F.list
  list_reduced_basis = subst (λ (F : FinishedList). IsReducedBasis A I F.list) (sym found.1) (list_reduced found.0 found.2)
