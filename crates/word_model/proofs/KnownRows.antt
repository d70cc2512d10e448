-- What a finished left run knows of rows: each is a sum of multiples of the rows of the basis and of syzygies. So a relation of
-- the generators is a sum of multiples of syzygies.
use Rattle.std.proofs.Common.{◌≡◌, ◌≢◌, ℕ, suc, ◌+◌, ◌-◌, ◌*◌, ◌≤◌, ◌⊎◌, inl, inr, List, [], ◌∷◌, length, refl, sym, ap, ◌∙◌, subst, arith}
use Rattle.monomials.specs.Monomials.{Monomial}
use Rattle.monomials.specs.Leading.{leading_coefficient}
use Rattle.monomials.specs.Polynomials.{Polynomial, Each, HasVars, IsPolynomial}
use Rattle.monomials.specs.WellFounded.{IsWellFounded}
use Rattle.monomials.proofs.Modulo.{Same, same_refl, same_add, same_mul, same_back}
use Rattle.monomials.proofs.Weights.{weigh, weigh_alike_on}
use Rattle.monomials.proofs.Keys.{Each-weaker, EachKey}
use Rattle.word_model.specs.Words.{Algebra}
use Rattle.word_model.specs.Conditions.{IsGAlgebra}
use Rattle.word_model.specs.Reduction.{element}
use Rattle.word_model.specs.Machine.{Journal, machine, IsElement}
use Rattle.word_model.specs.Cofactors.{Row, row_value, row_at, unit_row, basis_rows}
use Rattle.word_model.specs.Ideals.{IsOneOf}
use Rattle.word_model.specs.Syzygies.{entry_syzygies, zero_units, syzygies}
use Rattle.word_model.specs.declared.records.Job.TheVariants.{Seed}
use Rattle.word_model.specs.declared.records.Mode.TheVariants.{Left}
use Rattle.word_model.specs.declared.records.Outcome.TheVariants.{Finished}
use Rattle.word_model.proofs.LeastNumbers.{Each-element}
use Rattle.word_model.proofs.Sums.{sum_zero, sum_same, sum_add, sum_scale, sum_one}
use Rattle.word_model.proofs.MultipleWeights.{behind, Multiple, multiple_weight, Fits}
use Rattle.word_model.proofs.Connections.{positive, AllLinked}
use Rattle.word_model.proofs.Monic.{behind-one}
use Rattle.word_model.proofs.TraceValues.{terms_of}
use Rattle.word_model.proofs.Settled.{IsNumber, Treats}
use Rattle.word_model.proofs.Replays.{pair_of_mode}
use Rattle.word_model.proofs.Chains.{is_there, all_linked}
use Rattle.word_model.proofs.TreatedJobs.{of_rest, rest_fits}
use Rattle.word_model.proofs.FinishedBases.{told, run_elements, seed_treated}
use Rattle.word_model.proofs.Relations.{relation_void}
use Rattle.word_model.proofs.RowTests.{Tests, see, behind_all, see-unit, value_test, see-value, shift-value}
use Rattle.word_model.proofs.RowValues.{gens_vars, AreRows, value_unit}
use Rattle.word_model.proofs.RowFrames.{row_mul, IsRowMultiple, IsRowSum, row_sum_behind, row_sum_or_zero, unseen}
use Rattle.word_model.proofs.TreatedRows.{frame, left, see-steps, AsZero, AsNew, IsTreatedRow, treated_row, rest_is, steps_among, left_new, pair_linked}
use Rattle.word_model.proofs.FinishedRows.{basis_rows-are}
use Rattle.word_model.proofs.SyzygyRows.{one_of_first, one_of_second, zero_unit, IsSilent, silent_at}

module _ (A : Algebra) (ok : IsGAlgebra A) (gens : List Polynomial) (sorted : Each (IsPolynomial A.p A.order) gens) (budget : ℕ) (end : (machine A gens Left budget).outcome ≡ Finished) where
  abbrev J : Journal
  J = machine A gens Left budget

  abbrev G : List Polynomial
  G = J.basis

  abbrev R : List Row
  R = basis_rows A (length gens) J

  abbrev Z : List Row
  Z = syzygies A gens J

  abbrev elements : Each (IsElement A) J.basis
  elements = run_elements A ok gens sorted Left budget

  rows : AreRows A ok gens sorted J.basis (run_elements A ok gens sorted Left budget) (basis_rows A (length gens) J) (length J.basis)
  rows = (basis_rows-are A ok gens sorted budget).1

  row_count : length (basis_rows A (length gens) J) ≡ length J.basis
  row_count = (basis_rows-are A ok gens sorted budget).0

  silent : (k : ℕ) → 1 ≤ k → k ≤ length (syzygies A gens J) → IsSilent A ok gens sorted (row_at (syzygies A gens J) k)
  silent = silent_at A ok gens sorted budget

  zvars : (k : ℕ) → 1 ≤ k → k ≤ length (syzygies A gens J) → Each (HasVars A.order.vars) (row_at (syzygies A gens J) k)
  zvars k low high = (silent k low high).vars

  rvars : (k : ℕ) → 1 ≤ k → k ≤ length (basis_rows A (length gens) J) → Each (HasVars A.order.vars) (row_at (basis_rows A (length gens) J) k)
  rvars k low high = (rows k low (omega (arith, high, row_count))).vars

  treated_rows : (job : Rattle.word_model.specs.declared.records.Job.Job) → Treats J.entries job → IsTreatedRow A ok gens sorted G elements R rows Z zvars job
  unfolding basis_rows syzygies
  treated_rows job t =
      treated_row A ok gens sorted G elements R rows Z zvars [] J.entries [] (told A ok gens sorted Left budget).replay refl refl
      (λ x m. one_of_first (entry_syzygies A (length gens) J.basis (basis_rows A (length gens) J) J.entries) (zero_units A (length gens) 1 gens) x m) job t

  -- all pairs are linked, up to syzygies
  linked : AllLinked A ok G (frame A ok gens sorted G elements R rows Z zvars)
  linked =
      all_linked A ok G (frame A ok gens sorted G elements R rows Z zvars) elements J.entries
      (λ i j ti tj t. pair_linked A ok gens sorted G elements R rows Z zvars i j ti tj (treated_rows (Rattle.word_model.specs.declared.records.Job.TheVariants.Pair i j) t))
      (λ i j low less high.
      (told A ok gens sorted Left budget).settled end (Rattle.word_model.specs.declared.records.Job.TheVariants.Pair i j) (
        (
          (low, less, high),
          (
            (Each-element (IsElement A) J.basis i elements low (omega arith)).1,
            (Each-element (IsElement A) J.basis j elements (omega arith) high).1,
          ),
        ),
        pair_of_mode Left i j,
      ))

  -- ---- rows that are known

  -- a value that is a sum of multiples of the rows of the basis and of syzygies
  record Known (F : Tests → ℕ) : Type 0 where
    first : Tests → ℕ
    second : Tests → ℕ
    of_basis : IsRowSum A R first
    of_syzygies : IsRowSum A Z second
    value : (Φ : Tests) → Same A.p (F Φ) (first Φ + second Φ)

  known_same : (F H : Tests → ℕ) → ((Φ : Tests) → Same A.p (H Φ) (F Φ)) → Known F → Known H
  known_same F H e k = record { first = k.first; second = k.second; of_basis = k.of_basis; of_syzygies = k.of_syzygies; value = λ Φ. e Φ ∙ k.value Φ }

  known_basis : (F : Tests → ℕ) → IsRowSum A R F → Known F
  known_basis F s = record { first = F; second = λ Φ. 0; of_basis = s; of_syzygies = sum_zero A.p (row_mul A Z) (IsRowMultiple A Z); value = λ Φ. same_refl A.p _ _ (more (F Φ)) }
    where
      more : (x : ℕ) → x ≡ x + 0
      more x = omega arith

  known_syzygies : (F : Tests → ℕ) → IsRowSum A Z F → Known F
  known_syzygies F s = record { first = λ Φ. 0; second = F; of_basis = sum_zero A.p (row_mul A R) (IsRowMultiple A R); of_syzygies = s; value = λ Φ. same_refl A.p _ _ (more (F Φ)) }
    where
      more : (x : ℕ) → x ≡ 0 + x
      more x = omega arith

  known_add : (F H : Tests → ℕ) → Known F → Known H → Known (λ Φ. F Φ + H Φ)
  known_add F H a b = record {
    first = λ Φ. a.first Φ + b.first Φ;
    second = λ Φ. a.second Φ + b.second Φ;
    of_basis = sum_add A.p (row_mul A R) (IsRowMultiple A R) a.first b.first a.of_basis b.of_basis;
    of_syzygies = sum_add A.p (row_mul A Z) (IsRowMultiple A Z) a.second b.second a.of_syzygies b.of_syzygies;
    value = λ Φ. same_add A.p _ _ _ _ (a.value Φ) (b.value Φ) ∙ same_refl A.p _ _ (swap (a.first Φ) (a.second Φ) (b.first Φ) (b.second Φ));
  }
    where
      swap : (a b c d : ℕ) → (a + b) + (c + d) ≡ (a + c) + (b + d)
      swap a b c d = omega arith

  known_scale : (c : ℕ) (F : Tests → ℕ) → Known F → Known (λ Φ. c * F Φ)
  known_scale c F a = record {
    first = λ Φ. c * a.first Φ;
    second = λ Φ. c * a.second Φ;
    of_basis = sum_scale A.p (row_mul A R) (IsRowMultiple A R) c a.first a.of_basis;
    of_syzygies = sum_scale A.p (row_mul A Z) (IsRowMultiple A Z) c a.second a.of_syzygies;
    value = λ Φ. same_mul A.p c _ _ (a.value Φ) ∙ same_refl A.p _ _ (spread c (a.first Φ) (a.second Φ));
  }
    where
      spread : (c x y : ℕ) → c * (x + y) ≡ c * x + c * y
      spread c x y = omega arith

  known_behind : (u : Monomial) → length u ≡ A.order.vars → (F : Tests → ℕ) → Known F → Known (λ Φ. F (behind_all A u Φ))
  known_behind u hu F a = record {
    first = λ Φ. a.first (behind_all A u Φ);
    second = λ Φ. a.second (behind_all A u Φ);
    of_basis = row_sum_behind A ok R rvars u hu a.first a.of_basis;
    of_syzygies = row_sum_behind A ok Z zvars u hu a.second a.of_syzygies;
    value = λ Φ. a.value (behind_all A u Φ);
  }

  -- a multiple of the row of an element
  known_multiple : (k : Multiple) → length k.0 ≡ A.order.vars → IsNumber G k.1 → Known (λ Φ. row_mul A R Φ k)
  known_multiple k len number =
      known_basis (λ Φ. row_mul A R Φ k) (sum_one A.p (row_mul A R) (IsRowMultiple A R) k (len, number.0, omega (arith, number.1, row_count)))

  known_steps : (f : List (ℕ × Multiple)) → EachKey (λ k. (length k.0 ≡ A.order.vars) × (1 ≤ k.1) × (k.1 ≤ length J.basis)) f → Known (λ Φ. weigh (row_mul A R Φ) f)
  known_steps [] h = known_basis (λ Φ. 0) (sum_zero A.p (row_mul A R) (IsRowMultiple A R))
  known_steps (e ∷ f) h =
      known_add (λ Φ. e.0 * row_mul A R Φ e.1) (λ Φ. weigh (row_mul A R Φ) f)
      (known_scale e.0 (λ Φ. row_mul A R Φ e.1) (known_multiple e.1 h.0.0 (h.0.1, h.0.2))) (known_steps f h.1)

  -- the unit row of a generator
  known_unit : (s : ℕ) → IsNumber gens s → Known (λ Φ. see Φ 1 (unit_row A (length gens) s))
  unfolding syzygies
  known_unit s number = by (element gens s) refl
    where
      place : 1 + (s - 1) ≡ s
      place = let low : 1 ≤ s = number.0 in omega arith

      left_known : (t : IsTreatedRow A ok gens sorted J.basis (run_elements A ok gens sorted Left budget) (basis_rows A (length gens) J) rows (syzygies A gens J) zvars (Seed s))
          → Known (λ Φ. see Φ 1 (left A ok gens sorted J.basis (run_elements A ok gens sorted Left budget) (basis_rows A (length gens) J) rows (syzygies A gens J) zvars (Seed s) t.trace))
      left_known t = each t.outcome
        where
          each : AsZero A ok gens sorted J.basis (run_elements A ok gens sorted Left budget) (basis_rows A (length gens) J) rows (syzygies A gens J) zvars (Seed s) t.trace t.r
              ⊎ AsNew A ok gens sorted J.basis (run_elements A ok gens sorted Left budget) (basis_rows A (length gens) J) rows (syzygies A gens J) zvars t.H (Seed s) t.trace t.r
              → Known (λ Φ. see Φ 1 (left A ok gens sorted J.basis (run_elements A ok gens sorted Left budget) (basis_rows A (length gens) J) rows (syzygies A gens J) zvars (Seed s) t.trace))
          each (inl gone) =
              known_syzygies (λ Φ. see Φ 1 (left A ok gens sorted J.basis (run_elements A ok gens sorted Left budget) (basis_rows A (length gens) J) rows (syzygies A gens J) zvars (Seed s) t.trace))
              (row_sum_or_zero A ok (syzygies A gens J) zvars (left A ok gens sorted J.basis (run_elements A ok gens sorted Left budget) (basis_rows A (length gens) J) rows (syzygies A gens J) zvars (Seed s) t.trace) gone.1)
          each (inr new) =
              let G : List Polynomial = J.basis in
              let r_is : Rattle.word_model.proofs.Reductions.IsOf A ok t.r = rest_is A ok gens sorted G elements R rows Z zvars (Seed s) t in
              let k : Multiple = of_rest A ok gens sorted Left G elements t.H t.r r_is new.0 new.1 in
              let fits : Fits A G k = rest_fits A ok gens sorted Left G elements t.H t.r r_is new.0 new.1 in
              known_same (λ Φ. leading_coefficient t.r * row_mul A R Φ k) (λ Φ. see Φ 1 (left A ok gens sorted G elements R rows Z zvars (Seed s) t.trace))
              (left_new A ok gens sorted G elements R rows Z zvars (Seed s) t new)
              (known_scale (leading_coefficient t.r) (λ Φ. row_mul A R Φ k) (known_multiple k fits.0 (fits.1.low, fits.1.high)))

      by : (f : Polynomial) → element gens s ≡ f → Known (λ Φ. see Φ 1 (unit_row A (length gens) s))
      by [] is =
          let low : 1 ≤ s = number.0 in
          let high : s ≤ length gens = number.1 in
          let row : Row = unit_row A (length gens) s in
          known_syzygies (λ Φ. see Φ 1 (unit_row A (length gens) s))
          (row_sum_or_zero A ok (syzygies A gens J) zvars (unit_row A (length gens) s)
          (inr (one_of_second (entry_syzygies A (length gens) J.basis (basis_rows A (length gens) J) J.entries) (zero_units A (length gens) 1 gens) (unit_row A (length gens) s)
          (subst (λ n. IsOneOf (unit_row A (length gens) n) (zero_units A (length gens) 1 gens)) place (zero_unit A (length gens) 1 gens (s - 1) (omega arith) is)))))
      by (t ∷ f) is =
          let nonzero : element gens s ≢ [] = λ none. (let no : t ∷ f ≡ [] = sym is ∙ none in cc) in
          let x : IsTreatedRow A ok gens sorted G elements R rows Z zvars (Seed s) = treated_rows (Seed s) (seed_treated A ok gens sorted Left budget end s number nonzero) in
          let row : Row = unit_row A (length gens) s in
          known_same (λ Φ. weigh (row_mul A R Φ) (terms_of x.trace) + see Φ 1 (left A ok gens sorted G elements R rows Z zvars (Seed s) x.trace)) (λ Φ. see Φ 1 row)
          (λ Φ.
          same_back A.p (see Φ 1 row) (weigh (row_mul A R Φ) (terms_of x.trace)) (see Φ 1 (left A ok gens sorted G elements R rows Z zvars (Seed s) x.trace)) (positive A ok)
          (see-steps A ok gens sorted G elements R rows Z zvars Φ x.trace (steps_among A ok gens sorted G elements R rows Z zvars (Seed s) x) row (value_unit A ok gens sorted s number).one_each))
          (known_add (λ Φ. weigh (row_mul A R Φ) (terms_of x.trace)) (λ Φ. see Φ 1 (left A ok gens sorted G elements R rows Z zvars (Seed s) x.trace))
          (known_steps (terms_of x.trace) (steps_among A ok gens sorted G elements R rows Z zvars (Seed s) x)) (left_known x))

  -- a monomial at a place
  known_place : (s : ℕ) → IsNumber gens s → (m : Monomial) → length m ≡ A.order.vars → Known (λ Φ. Φ s m)
  known_place s number m hm =
      known_same (λ Φ. see (behind_all A m Φ) 1 (unit_row A (length gens) s)) (λ Φ. Φ s m)
      (λ Φ. same_refl A.p _ _ (sym (see-unit A ok (behind_all A m Φ) (length gens) s number.0 number.1 ∙ behind-one A (Φ s) m hm)))
      (known_behind m hm (λ Φ. see Φ 1 (unit_row A (length gens) s)) (known_unit s number))

  known_polynomial : (s : ℕ) → IsNumber gens s → (f : Polynomial) → HasVars A.order.vars f → Known (λ Φ. weigh (Φ s) f)
  known_polynomial s number [] h = known_basis (λ Φ. 0) (sum_zero A.p (row_mul A R) (IsRowMultiple A R))
  known_polynomial s number (t ∷ f) h =
      known_add (λ Φ. t.0 * Φ s t.1) (λ Φ. weigh (Φ s) f) (known_scale t.0 (λ Φ. Φ s t.1) (known_place s number t.1 h.0)) (known_polynomial s number f h.1)

  known_row : (s : ℕ) (q : Row) → 1 ≤ s → s + length q ≤ suc (length gens) → Each (HasVars A.order.vars) q → Known (λ Φ. see Φ s q)
  known_row s [] low high h = known_basis (λ Φ. 0) (sum_zero A.p (row_mul A R) (IsRowMultiple A R))
  known_row s (f ∷ q) low high h =
      known_add (λ Φ. weigh (Φ s) f) (λ Φ. see Φ (suc s) q) (known_polynomial s (low, omega arith) f h.0) (known_row (suc s) q (omega arith) (omega arith) h.1)

  -- ---- relations

  -- a relation of the generators is a sum of multiples of syzygies
  pub relation_sum : IsWellFounded A.order → (q : Row) → length q ≡ length gens → Each (HasVars A.order.vars) q → row_value A q gens ≡ []
      → IsRowSum A (syzygies A gens (machine A gens Left budget)) (λ Φ. see Φ 1 q)
  relation_sum well q len vars none =
      let k : Known (λ Φ. see Φ 1 q) = known_row 1 q (omega arith) (omega arith) vars in
      sum_same A.p (row_mul A Z) (IsRowMultiple A Z) (λ Φ. weigh (row_mul A R Φ) k.of_basis.terms + k.second Φ) (λ Φ. see Φ 1 q)
      (λ Φ. k.value Φ ∙ same_add A.p _ _ _ _ (k.of_basis.value Φ) refl)
      (sum_add A.p (row_mul A Z) (IsRowMultiple A Z) (λ Φ. weigh (row_mul A R Φ) k.of_basis.terms) k.second (void k) k.of_syzygies)
    where
      few : length q ≤ length gens
      few = omega (arith, len)

      killed : (F : Tests → ℕ) → IsRowSum A (syzygies A gens J) F → (φ : Monomial → ℕ) → Same A.p (F (value_test A ok gens φ)) 0
      killed F s φ =
          unseen A ok (syzygies A gens J) zvars gens (gens_vars A ok gens sorted)
          (λ k low high. (omega (arith, (silent k low high).one_each), Rattle.word_model.proofs.FinishedRows.value_is A ok gens sorted (row_at (syzygies A gens J) k) [] (record { canonical = tt; vars = tt }) (silent k low high)))
          F s φ

      tested : (φ : Monomial → ℕ) (k : Multiple) → Fits A J.basis k → Same A.p (row_mul A (basis_rows A (length gens) J) (value_test A ok gens φ) k) (multiple_weight A J.basis φ k)
      tested φ k fits =
          shift-value A ok gens (gens_vars A ok gens sorted) k.0 fits.0 φ 1 (row_at (basis_rows A (length gens) J) k.1) (rows k.1 fits.1.low fits.1.high).vars
          ∙ (rows k.1 fits.1.low fits.1.high).value (behind A k.0 φ)

      void : (k : Known (λ Φ. see Φ 1 q)) → IsRowSum A (syzygies A gens J) (λ Φ. weigh (row_mul A (basis_rows A (length gens) J) Φ) k.of_basis.terms)
      void k =
          let fits : EachKey (Fits A J.basis) k.of_basis.terms =
          Each-weaker _ _ (λ e h. (h.0, is_there A J.basis elements e.1.1 (h.1, omega (arith, h.2, row_count)))) k.of_basis.terms k.of_basis.each in
          relation_void A ok J.basis (frame A ok gens sorted J.basis elements (basis_rows A (length gens) J) rows (syzygies A gens J) zvars) linked well (value_test A ok gens) tested killed
          k.of_basis.terms fits
          (λ φ.
          let Φ : Tests = value_test A ok gens φ in
          sym (weigh_alike_on A.p (row_mul A R Φ) (multiple_weight A G φ) k.of_basis.terms (Each-weaker _ _ (λ e f. tested φ e.1 f) k.of_basis.terms fits))
          ∙ sym (k.of_basis.value Φ)
          ∙ same_refl A.p _ _ (more (k.first Φ))
          ∙ same_add A.p _ _ _ _ refl (sym (killed k.second k.of_syzygies φ))
          ∙ sym (k.value Φ) ∙ sym (see-value A ok gens φ q few) ∙ same_refl A.p _ _ (ap (weigh φ) none))
        where
          more : (x : ℕ) → x ≡ x + 0
          more x = omega arith
