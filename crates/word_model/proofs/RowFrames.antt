-- Sums of multiples of rows, and the rows of a basis as a frame, up to sums of multiples of other rows.
use Rattle.std.proofs.Common.{◌≡◌, ℕ, suc, ◌+◌, ◌-◌, ◌<◌, ◌≤◌, ◌⊎◌, inl, inr, true, List, [], ◌∷◌, ◌++◌, length, slice_index_or, refl, sym, ap, ◌∙◌, subst, arith}
use Rattle.monomials.specs.Monomials.{Monomial, one}
use Rattle.monomials.specs.Polynomials.{Polynomial, Each, HasVars}
use Rattle.monomials.proofs.Modulo.{Same, same_refl}
use Rattle.monomials.proofs.Weights.{weigh, weigh_alike_on, weigh-zero}
use Rattle.monomials.proofs.Keys.{Each-weaker}
use Rattle.word_model.specs.Words.{Algebra, sorted_word, normal_form}
use Rattle.word_model.specs.Conditions.{IsGAlgebra}
use Rattle.word_model.specs.Cofactors.{Row, row_value, row_at}
use Rattle.word_model.specs.Ideals.{IsOneOf}
use Rattle.word_model.specs.Syzygies.{is_zero_row}
use Rattle.word_model.proofs.NormalForms.{normal_form_is_polynomial}
use Rattle.word_model.proofs.Monic.{length-one}
use Rattle.word_model.proofs.Unique.{place_of}
use Rattle.word_model.proofs.Sums.{IsSum, sum_zero, sum_same, sum_add, sum_scale, sum_one, sum_all}
use Rattle.word_model.proofs.MultipleWeights.{Multiple, behind}
use Rattle.word_model.proofs.Frames.{Frame}
use Rattle.word_model.proofs.RowTests.{Tests, see, behind_all, see-one, see-shift, value_test, see-value, shift-value}

module _ (A : Algebra) where
  -- what a test sees of a multiple of a row
  abbrev pub row_mul : List Row → Tests → Multiple → ℕ
  row_mul Z Φ k = see (behind_all A k.0 Φ) 1 (row_at Z k.1)

  -- a multiple of one of the rows
  abbrev pub IsRowMultiple : List Row → Multiple → Type 0
  IsRowMultiple Z k = (length k.0 ≡ A.order.vars) × (1 ≤ k.1) × (k.1 ≤ length Z)

  -- a value that is a sum of multiples of the rows
  abbrev pub IsRowSum : List Row → (Tests → ℕ) → Type 0
  IsRowSum Z F = IsSum A.p (row_mul Z) (IsRowMultiple Z) F

-- a zero row is not seen
pub see-zero_row : (Φ : Tests) (k : ℕ) (row : Row) → is_zero_row row ≡ true → see Φ k row ≡ 0
see-zero_row Φ k [] e = refl
see-zero_row Φ k ([] ∷ row) e = let z : 0 + see Φ (suc k) row ≡ see Φ (suc k) row = omega arith in z ∙ see-zero_row Φ (suc k) row e
see-zero_row Φ k ((t ∷ q) ∷ row) e = cc

module _ (A : Algebra) (ok : IsGAlgebra A) (Z : List Row) (vars : (k : ℕ) → 1 ≤ k → k ≤ length Z → Each (HasVars A.order.vars) (row_at Z k)) where
  one_behind : (u : Monomial) → length u ≡ A.order.vars → (k : Multiple) → IsRowMultiple A Z k → IsRowSum A Z (λ Φ. row_mul A Z (behind_all A u Φ) k)
  one_behind u hu k h =
      sum_same A.p (row_mul A Z) (IsRowMultiple A Z) (λ Φ. weigh (λ m. row_mul A Z Φ (m, k.1)) (normal_form A (sorted_word u ++ sorted_word k.0))) (λ Φ. row_mul A Z (behind_all A u Φ) k)
      (λ Φ. see-shift A ok u k.0 hu h.0 Φ 1 (row_at Z k.1) (vars k.1 h.1 h.2))
      (sum_all A.p (row_mul A Z) (IsRowMultiple A Z) (λ m Φ. row_mul A Z Φ (m, k.1)) (normal_form A (sorted_word u ++ sorted_word k.0))
      (Each-weaker _ _ (λ e len. sum_one A.p (row_mul A Z) (IsRowMultiple A Z) (e.1, k.1) (len, h.1, h.2)) (normal_form A (sorted_word u ++ sorted_word k.0))
      (normal_form_is_polynomial A ok.field.more (sorted_word u ++ sorted_word k.0)).vars))

  -- u times a sum of multiples of the rows
  pub row_sum_behind : (u : Monomial) → length u ≡ A.order.vars → (F : Tests → ℕ) → IsRowSum A Z F → IsRowSum A Z (λ Φ. F (behind_all A u Φ))
  row_sum_behind u hu F s =
      sum_same A.p (row_mul A Z) (IsRowMultiple A Z) (λ Φ. weigh (λ k. row_mul A Z (behind_all A u Φ) k) s.terms) (λ Φ. F (behind_all A u Φ)) (λ Φ. s.value (behind_all A u Φ))
      (sum_all A.p (row_mul A Z) (IsRowMultiple A Z) (λ k Φ. row_mul A Z (behind_all A u Φ) k) s.terms (Each-weaker _ _ (λ e h. one_behind u hu e.1 h) s.terms s.each))

  -- a row of the list
  pub row_sum_number : (k : ℕ) → 1 ≤ k → k ≤ length Z → IsRowSum A Z (λ Φ. see Φ 1 (row_at Z k))
  row_sum_number k low high =
      sum_same A.p (row_mul A Z) (IsRowMultiple A Z) (λ Φ. row_mul A Z Φ (one A.order.vars, k)) (λ Φ. see Φ 1 (row_at Z k)) (λ Φ. sym (see-one A ok Φ 1 (row_at Z k) (vars k low high)))
      (sum_one A.p (row_mul A Z) (IsRowMultiple A Z) (one A.order.vars, k) (length-one A.order.vars, low, high))

  pub row_sum_one : (row : Row) → IsOneOf row Z → IsRowSum A Z (λ Φ. see Φ 1 row)
  row_sum_one row h =
      let i : (k : ℕ) × (k < length Z) × (slice_index_or Z k [] ≡ row) = place_of Z row [] h in
      let z : suc i.0 - 1 ≡ i.0 = omega arith in
      subst (λ row. IsRowSum A Z (λ Φ. see Φ 1 row)) (ap (λ n. slice_index_or Z n []) z ∙ i.2) (row_sum_number (suc i.0) (omega arith) (omega (arith, i.1)))

  -- or zero
  pub row_sum_or_zero : (row : Row) → (is_zero_row row ≡ true) ⊎ IsOneOf row Z → IsRowSum A Z (λ Φ. see Φ 1 row)
  row_sum_or_zero row (inl e) =
      sum_same A.p (row_mul A Z) (IsRowMultiple A Z) (λ Φ. 0) (λ Φ. see Φ 1 row) (λ Φ. same_refl A.p _ _ (see-zero_row Φ 1 row e)) (sum_zero A.p (row_mul A Z) (IsRowMultiple A Z))
  row_sum_or_zero row (inr h) = row_sum_one row h

  -- the rows R of the elements of G, up to sums of multiples of Z
  abbrev pub row_frame : (G : List Polynomial) (R : List Row) → ((i : ℕ) → 1 ≤ i → i ≤ length G → Each (HasVars A.order.vars) (row_at R i)) → Frame A G
  row_frame G R rows = record {
    Test = Tests;
    shift = behind_all A;
    weight = row_mul A R;
    shifts = λ u k hu fits Φ. see-shift A ok u k.0 hu fits.0 Φ 1 (row_at R k.1) (rows k.1 fits.1.low fits.1.high);
    Void = IsRowSum A Z;
    void_zero = sum_zero A.p (row_mul A Z) (IsRowMultiple A Z);
    void_add = sum_add A.p (row_mul A Z) (IsRowMultiple A Z);
    void_scale = sum_scale A.p (row_mul A Z) (IsRowMultiple A Z);
    void_shift = row_sum_behind;
    void_same = sum_same A.p (row_mul A Z) (IsRowMultiple A Z);
  }

  -- where all rows have value zero, tests that see values see nothing of their sums
  pub unseen : (gens : List Polynomial) → Each (HasVars A.order.vars) gens → ((k : ℕ) → 1 ≤ k → k ≤ length Z → (length (row_at Z k) ≤ length gens) × (row_value A (row_at Z k) gens ≡ []))
      → (F : Tests → ℕ) → IsRowSum A Z F → (φ : Monomial → ℕ) → Same A.p (F (value_test A ok gens φ)) 0
  unseen gens gens_vars zeros F s φ =
      s.value (value_test A ok gens φ)
      ∙ weigh_alike_on A.p (row_mul A Z (value_test A ok gens φ)) (λ k. 0) s.terms
      (Each-weaker _ _ (λ e h.
      shift-value A ok gens gens_vars e.1.0 h.0 φ 1 (row_at Z e.1.1) (vars e.1.1 h.1 h.2)
      ∙ sym (see-value A ok gens (behind A e.1.0 φ) (row_at Z e.1.1) (zeros e.1.1 h.1 h.2).0)
      ∙ same_refl A.p _ _ (ap (weigh (behind A e.1.0 φ)) (zeros e.1.1 h.1 h.2).1)) s.terms s.each)
      ∙ same_refl A.p _ _ (weigh-zero s.terms)
