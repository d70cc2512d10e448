-- The syzygies of a left run are rows of the algebra with value zero.
use Rattle.std.proofs.Common.{◌≡◌, ℕ, zero, suc, ◌+◌, ◌-◌, ◌<◌, ◌≤◌, ◌⊎◌, inl, inr, Bool, true, false, List, [], ◌∷◌, ◌++◌, length, slice_index_or, if◌then◌else◌, refl, sym, ap, ◌∙◌, subst, arith}
use Rattle.monomials.specs.Polynomials.{Polynomial, Each, IsPolynomial}
use Rattle.monomials.proofs.Modulo.{same_refl}
use Rattle.monomials.proofs.Weights.{weigh}
use Rattle.word_model.specs.Words.{Algebra}
use Rattle.word_model.specs.Conditions.{IsGAlgebra}
use Rattle.word_model.specs.Reduction.{element}
use Rattle.word_model.specs.Machine.{Journal, machine, IsElement}
use Rattle.word_model.specs.Cofactors.{Row, row_value, row_at, unit_row, start_row, less_steps, basis_rows}
use Rattle.word_model.specs.Ideals.{IsOneOf}
use Rattle.word_model.specs.Syzygies.{is_zero_row, entry_syzygies, zero_units, syzygies}
use Rattle.word_model.specs.declared.records.Mode.TheVariants.{Left}
use Rattle.word_model.specs.declared.records.Entry.{Entry}
use Rattle.word_model.specs.declared.records.Entry.TheVariants.{Skipped, Zero, New}
use Rattle.word_model.proofs.Monic.{monic}
use Rattle.word_model.proofs.Replays.{IsReplay}
use Rattle.word_model.proofs.Prefixes.{Begins, replay_begins, number_longer}
use Rattle.word_model.proofs.FinishedBases.{told, run_elements}
use Rattle.word_model.proofs.RowValues.{IsValue, value_same, value_unit, AreRows, value_left}
use Rattle.word_model.proofs.FinishedRows.{value_is, basis_rows-are}

-- ---- parts of a list

pub one_of_either : {X : Type 0} → (Y Z : List X) (x : X) → IsOneOf x (Y ++ Z) → IsOneOf x Y ⊎ IsOneOf x Z
one_of_either [] Z x h = inr h
one_of_either (y ∷ Y) Z x (inl e) = inl (inl e)
one_of_either (y ∷ Y) Z x (inr h) = by (one_of_either Y Z x h)
  where
    by : IsOneOf x Y ⊎ IsOneOf x Z → IsOneOf x (y ∷ Y) ⊎ IsOneOf x Z
    by (inl h) = inl (inr h)
    by (inr h) = inr h

pub one_of_first : {X : Type 0} → (Y Z : List X) (x : X) → IsOneOf x Y → IsOneOf x (Y ++ Z)
one_of_first [] Z x h = absurd h
one_of_first (y ∷ Y) Z x (inl e) = inl e
one_of_first (y ∷ Y) Z x (inr h) = inr (one_of_first Y Z x h)

pub one_of_second : {X : Type 0} → (Y Z : List X) (x : X) → IsOneOf x Z → IsOneOf x (Y ++ Z)
one_of_second [] Z x h = h
one_of_second (y ∷ Y) Z x h = inr (one_of_second Y Z x h)

pub one_of_place : (Z : List Row) (k : ℕ) → k < length Z → IsOneOf (slice_index_or Z k []) Z
one_of_place [] k below = absurd (omega arith)
one_of_place (x ∷ Z) zero below = inl refl
one_of_place (x ∷ Z) (suc k) below = inr (one_of_place Z k (omega arith))

-- the unit row of a generator that is zero
pub zero_unit : (A : Algebra) (g s : ℕ) (gens : List Polynomial) (k : ℕ) → k < length gens → slice_index_or gens k [] ≡ [] → IsOneOf (unit_row A g (s + k)) (zero_units A g s gens)
zero_unit A g s [] k below e = absurd (omega arith)
zero_unit A g s ([] ∷ gens) zero below e = let z : s ≡ s + 0 = omega arith in inl (ap (unit_row A g) z)
zero_unit A g s ((t ∷ f) ∷ gens) zero below e = cc
zero_unit A g s ([] ∷ gens) (suc k) below e =
    let z : suc s + k ≡ s + suc k = omega arith in inr (subst (λ n. IsOneOf (unit_row A g n) (zero_units A g (suc s) gens)) z (zero_unit A g (suc s) gens k (omega arith) e))
zero_unit A g s ((t ∷ f) ∷ gens) (suc k) below e =
    let z : suc s + k ≡ s + suc k = omega arith in subst (λ n. IsOneOf (unit_row A g n) (zero_units A g (suc s) gens)) z (zero_unit A g (suc s) gens k (omega arith) e)

module _ (A : Algebra) (ok : IsGAlgebra A) (gens : List Polynomial) (sorted : Each (IsPolynomial A.p A.order) gens) where
  -- a row of the algebra with value zero
  abbrev pub IsSilent : Row → Type 0
  IsSilent row = IsValue A ok gens sorted row (λ φ. 0)

  -- ---- what jobs leave that were reduced to zero

  module _ (G : List Polynomial) (elements : Each (IsElement A) G) (R : List Row) (rows : AreRows A ok gens sorted G elements R (length G)) where
    entries_silent : (H : List Polynomial) (entries : List Entry) → IsReplay A gens Left H entries G → (row : Row) → IsOneOf row (entry_syzygies A (length gens) G R entries) → IsSilent row
    entries_silent H [] replay row h = absurd h
    entries_silent H (Skipped job k ∷ entries) replay row h = entries_silent H entries replay.1 row h
    entries_silent H (New job trace scale ∷ entries) replay row h = entries_silent (H ++ monic A ok replay.0 ∷ []) entries replay.4 row h
    entries_silent H (Zero job trace ∷ entries) replay row h = by (is_zero_row (less_steps A R (start_row A (length gens) G R job) trace)) h (entries_silent H entries replay.1 row)
      where
        by : (z : Bool) → IsOneOf row (if z then entry_syzygies A (length gens) G R entries else less_steps A R (start_row A (length gens) G R job) trace ∷ entry_syzygies A (length gens) G R entries)
            → (IsOneOf row (entry_syzygies A (length gens) G R entries) → IsSilent row) → IsSilent row
        by true m rest = rest m
        by false (inr m) rest = rest m
        by false (inl e) rest =
            let b : Begins H G = replay_begins A gens Left H entries G replay.1 in
            subst IsSilent e (value_left A ok gens sorted G elements H b R (λ i low high. rows i low (number_longer H G b i (low, high)).1) job trace [] replay.0)

  -- ---- generators that are zero

  units_silent : (s : ℕ) (H : List Polynomial) → 1 ≤ s → s + length H ≡ suc (length gens) → ((k : ℕ) → k < length H → slice_index_or H k [] ≡ element gens (s + k)) → (row : Row)
      → IsOneOf row (zero_units A (length gens) s H) → IsSilent row
  units_silent s [] low high at row h = absurd h
  units_silent s ((t ∷ f) ∷ H) low high at row h = units_silent (suc s) H (omega arith) (omega arith) (λ k below. at (suc k) (omega arith) ∙ ap (element gens) (next k)) row h
    where
      next : (k : ℕ) → s + suc k ≡ suc s + k
      next k = omega arith
  units_silent s ([] ∷ H) low high at row (inr h) = units_silent (suc s) H (omega arith) (omega arith) (λ k below. at (suc k) (omega arith) ∙ ap (element gens) (next k)) row h
    where
      next : (k : ℕ) → s + suc k ≡ suc s + k
      next k = omega arith
  units_silent s ([] ∷ H) low high at row (inl e) =
      let z : s + 0 ≡ s = omega arith in
      let none : element gens s ≡ [] = ap (element gens) (sym z) ∙ sym (at 0 (omega arith)) in
      subst IsSilent e
      (value_same A ok gens sorted (unit_row A (length gens) s) (λ φ. weigh φ (element gens s)) (λ φ. 0) (λ φ. same_refl A.p _ _ (ap (weigh φ) none)) (value_unit A ok gens sorted s (low, omega arith)))

  -- ---- runs

  module _ (budget : ℕ) where
    abbrev J : Journal
    J = machine A gens Left budget

    pub syzygy_silent : (row : Row) → IsOneOf row (syzygies A gens (machine A gens Left budget)) → IsSilent row
    unfolding syzygies
    syzygy_silent row h =
        by (one_of_either (entry_syzygies A (length gens) J.basis (basis_rows A (length gens) J) J.entries) (zero_units A (length gens) 1 gens) row h)
      where
        place : (k : ℕ) → k ≡ 1 + k - 1
        place k = omega arith

        by : IsOneOf row (entry_syzygies A (length gens) (machine A gens Left budget).basis (basis_rows A (length gens) (machine A gens Left budget)) (machine A gens Left budget).entries)
            ⊎ IsOneOf row (zero_units A (length gens) 1 gens) → IsSilent row
        by (inl m) =
            entries_silent (machine A gens Left budget).basis (run_elements A ok gens sorted Left budget) (basis_rows A (length gens) (machine A gens Left budget)) (basis_rows-are A ok gens sorted budget).1
            [] (machine A gens Left budget).entries (told A ok gens sorted Left budget).replay row m
        by (inr m) = units_silent 1 gens (omega arith) (omega arith) (λ k below. ap (λ n. slice_index_or gens n []) (place k)) row m

    -- so each is a relation of the generators
    pub syzygy_value : (row : Row) → IsOneOf row (syzygies A gens (machine A gens Left budget)) → row_value A row gens ≡ []
    syzygy_value row h = value_is A ok gens sorted row [] (record { canonical = tt; vars = tt }) (syzygy_silent row h)

    -- and this at each number
    pub silent_at : (k : ℕ) → 1 ≤ k → k ≤ length (syzygies A gens (machine A gens Left budget)) → IsSilent (row_at (syzygies A gens (machine A gens Left budget)) k)
    silent_at k low high =
        let Z : List Row = syzygies A gens (machine A gens Left budget) in syzygy_silent (row_at Z k) (one_of_place Z (k - 1) (omega arith))
