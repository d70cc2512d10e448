-- In a left run each element of the basis, and each of the finished list, is the value of its row of cofactors.
use Rattle.std.proofs.Common.{◌≡◌, ℕ, suc, ◌+◌, ◌-◌, ◌*◌, ◌<◌, inl, inr, ◌&&◌, Bool, true, false, List, [], ◌∷◌, map, length, slice_index_or, Some, None, if◌then◌else◌, refl, sym, ap, ◌∙◌, subst, arith}
use Rattle.monomials.specs.Polynomials.{Polynomial, Each, IsPolynomial}
use Rattle.monomials.proofs.Modulo.{same_refl, same_move}
use Rattle.monomials.proofs.Weights.{weigh}
use Rattle.monomials.proofs.Keys.{Each-weaker}
use Rattle.word_model.specs.Words.{Algebra}
use Rattle.word_model.specs.Conditions.{IsGAlgebra}
use Rattle.word_model.specs.Reduction.{element}
use Rattle.word_model.specs.Machine.{Journal, machine, IsElement}
use Rattle.word_model.specs.Finished.{Final, FinishedList, list_of, finished}
use Rattle.word_model.specs.Cofactors.{Row, row_value, row_at, less_steps, basis_rows, finished_rows, entries_reach, tails_reach, values_reach, cofactor_rows}
use Rattle.word_model.specs.Ideals.{IsOneOf}
use Rattle.word_model.specs.declared.records.Mode.TheVariants.{Left}
use Rattle.word_model.proofs.NormalForms.{same_weights}
use Rattle.word_model.proofs.LeastNumbers.{Each-element}
use Rattle.word_model.proofs.Connections.{positive}
use Rattle.word_model.proofs.TraceValues.{terms_of, trace_weight}
use Rattle.word_model.proofs.Combinations.{row_value-is}
use Rattle.word_model.proofs.FinishedBases.{told, run_elements}
use Rattle.word_model.proofs.FinalLists.{polynomials_of}
use Rattle.word_model.proofs.Finals.{IsFinal, AreFinals, finished-finals}
use Rattle.word_model.proofs.RowTests.{see-value}
use Rattle.word_model.proofs.RowValues.{IsValue, value_same, value_steps, AreRows, rows_are}

-- values that are equal at each place
map-places : (h : Row → Polynomial) (R : List Row) (G : List Polynomial) → length R ≡ length G → ((k : ℕ) → k < length G → h (slice_index_or R k []) ≡ slice_index_or G k []) → map h R ≡ G
map-places h [] [] e at = refl
map-places h [] (g ∷ G) e at = absurd (omega arith)
map-places h (r ∷ R) [] e at = absurd (omega arith)
map-places h (r ∷ R) (g ∷ G) e at = λ i. at 0 (omega arith) i ∷ map-places h R G (omega arith) (λ k below. at (suc k) (omega arith)) i

module _ (A : Algebra) (ok : IsGAlgebra A) (gens : List Polynomial) (sorted : Each (IsPolynomial A.p A.order) gens) where
  -- a row's value
  pub value_is : (row : Row) (f : Polynomial) → IsPolynomial A.p A.order f → IsValue A ok gens sorted row (λ φ. weigh φ f) → row_value A row gens ≡ f
  value_is row f f_is v =
      same_weights A (row_value A row gens) f (row_value-is A ok row gens) f_is
      (λ φ. see-value A ok gens φ row (omega (arith, v.one_each)) ∙ v.value φ)

  module _ (budget : ℕ) where
    abbrev J : Journal
    J = machine A gens Left budget

    elements : Each (IsElement A) J.basis
    elements = run_elements A ok gens sorted Left budget

    pub basis_rows-are : (length (basis_rows A (length gens) (machine A gens Left budget)) ≡ length (machine A gens Left budget).basis)
        × AreRows A ok gens sorted (machine A gens Left budget).basis (run_elements A ok gens sorted Left budget) (basis_rows A (length gens) (machine A gens Left budget)) (length (machine A gens Left budget).basis)
    unfolding basis_rows
    basis_rows-are = rows_are A ok gens sorted J.basis elements [] J.entries [] (told A ok gens sorted Left budget).replay refl (λ i low high. absurd (omega arith))

    -- each element is the value of its row
    pub basis_values : map (λ row. row_value A row gens) (basis_rows A (length gens) (machine A gens Left budget)) ≡ (machine A gens Left budget).basis
    basis_values =
        map-places (λ row. row_value A row gens) (basis_rows A (length gens) J) J.basis basis_rows-are.0 (λ k below. at k below)
      where
        at : (k : ℕ) → k < length (machine A gens Left budget).basis → row_value A (slice_index_or (basis_rows A (length gens) (machine A gens Left budget)) k []) gens ≡ slice_index_or (machine A gens Left budget).basis k []
        at k below =
            let z : suc k - 1 ≡ k = omega arith in
            subst (λ n. row_value A (slice_index_or (basis_rows A (length gens) (machine A gens Left budget)) n []) gens ≡ slice_index_or (machine A gens Left budget).basis n []) z
            (value_is (row_at (basis_rows A (length gens) (machine A gens Left budget)) (suc k)) (element (machine A gens Left budget).basis (suc k))
            (Each-element (IsElement A) (machine A gens Left budget).basis (suc k) elements (omega arith) below).0 (basis_rows-are.1 (suc k) (omega arith) below))

    -- so is each of the finished list
    finals_values : (L : List Final) → ((x : Final) → IsOneOf x L → IsFinal A ok J.basis elements x)
        → map (λ row. row_value A row gens) (finished_rows A (basis_rows A (length gens) J) (map (λ (x : Final). x.origin) L) (map (λ (x : Final). x.tail) L)) ≡ polynomials_of L
    finals_values [] all = refl
    finals_values (x ∷ L) all = λ i. here i ∷ finals_values L (λ y m. all y (inr m)) i
      where
        swap : (x y : ℕ) → x + y ≡ y + x
        swap x y = omega arith

        here : row_value A (less_steps A (basis_rows A (length gens) (machine A gens Left budget)) (row_at (basis_rows A (length gens) (machine A gens Left budget)) x.origin) x.tail) gens ≡ x.polynomial
        here =
            let G : List Polynomial = (machine A gens Left budget).basis in
            let R : List Row = basis_rows A (length gens) (machine A gens Left budget) in
            let f : IsFinal A ok (machine A gens Left budget).basis elements x = all x (inl refl) in
            value_is (less_steps A R (row_at R x.origin) x.tail) x.polynomial f.sorted
            (value_same A ok gens sorted (less_steps A R (row_at R x.origin) x.tail) (λ φ. weigh φ (element G x.origin) + (A.p - 1) * trace_weight A G x.tail φ) (λ φ. weigh φ x.polynomial)
            (λ φ.
            sym (same_move A.p (weigh φ (element G x.origin)) (weigh φ x.polynomial) (trace_weight A G x.tail φ) (positive A ok)
            (f.value φ ∙ same_refl A.p _ _ (swap (trace_weight A G x.tail φ) (weigh φ x.polynomial)))))
            (value_steps A ok gens sorted G elements R (length G) basis_rows-are.1 x.tail (Each-weaker _ _ (λ e fits. (fits.0, fits.1.low, fits.1.high)) (terms_of x.tail) f.terms)
            (row_at R x.origin) (λ φ. weigh φ (element G x.origin)) (basis_rows-are.1 x.origin f.number.0 f.number.1)))

    pub finished_values : (F : FinishedList) → finished A (machine A gens Left budget).basis ≡ Some F → (rows : List Row) → cofactor_rows A gens (machine A gens Left budget) F ≡ Some rows
        → map (λ row. row_value A row gens) rows ≡ F.list
    unfolding cofactor_rows
    finished_values F e rows computed =
        by (entries_reach J.basis (basis_rows A (length gens) J) J.entries && tails_reach (basis_rows A (length gens) J) F.tails && values_reach (finished_rows A (basis_rows A (length gens) J) F.origin F.tails) gens) computed
      where
        all : map (λ row. row_value A row gens) (finished_rows A (basis_rows A (length gens) (machine A gens Left budget)) F.origin F.tails) ≡ F.list
        all =
            let found : (L : List Final) × (F ≡ list_of L) × AreFinals A ok (machine A gens Left budget).basis elements 1 L =
            finished-finals A ok (machine A gens Left budget).basis elements F e in
            subst (λ (F : FinishedList). map (λ row. row_value A row gens) (finished_rows A (basis_rows A (length gens) (machine A gens Left budget)) F.origin F.tails) ≡ F.list) (sym found.1)
            (finals_values found.0 (λ x m. (found.2.all x m).0))

        by : (b : Bool) → (if b then Some (finished_rows A (basis_rows A (length gens) (machine A gens Left budget)) F.origin F.tails) else None) ≡ Some rows → map (λ row. row_value A row gens) rows ≡ F.list
        by true is =
            let same : finished_rows A (basis_rows A (length gens) (machine A gens Left budget)) F.origin F.tails ≡ rows = cc in
            ap (map (λ row. row_value A row gens)) (sym same) ∙ all
        by false is = cc
