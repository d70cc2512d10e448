-- What the basis of a finished run is to the ideal of its generators.
use Rattle.std.specs.Prelude.{◌≡◌, ◌≢◌, ℕ, ◌≤◌, ◌↔◌, false, List, [], map, length}
use Rattle.monomials.specs.Leading.{leading_monomial}
use Rattle.monomials.specs.Polynomials.{Polynomial, Each, IsPolynomial}
use Rattle.word_model.specs.Words.{Algebra}
use Rattle.word_model.specs.Reduction.{element, Reduced, reduce, normal_form_by}
use Rattle.word_model.specs.Jobs.{pair_lcm, s_polynomial}
use Rattle.word_model.specs.Machine.{Journal, IsElement}
use Rattle.word_model.specs.Cofactors.{row_value, basis_rows}
use Rattle.word_model.specs.Ideals.{InLeftIdeal, IsCombinationBelow, IsCombinationWithin, ReducesToZero, EntryReducesToZero, IsGroebnerBasis}
use Rattle.word_model.specs.TwoSided.{InTwoSidedIdeal}
use Rattle.word_model.specs.declared.records.Mode.{Mode}
use Rattle.word_model.specs.declared.records.Mode.TheVariants.{Left, TwoSided}
use Rattle.word_model.specs.declared.records.Outcome.TheVariants.{Finished}

-- the ideal that a run's generators generate: closed under products from the left, in two-sided runs from both sides
abbrev pub InIdeal : Algebra → Mode → List Polynomial → Polynomial → Type 0
InIdeal A Left gens f = InLeftIdeal A gens f
InIdeal A TwoSided gens f = InTwoSidedIdeal A gens f

-- where no step is undefined, a reduction leaves zero of just the polynomials in I
abbrev pub Decides : Algebra → (Polynomial → Type 0) → (Polynomial → Reduced) → Type 0
Decides A I reduction = (f : Polynomial) → IsPolynomial A.p A.order f → (reduction f).over ≡ false → I f ↔ ((reduction f).rest ≡ [])

-- the S-polynomial of two elements is a left combination of G below their least common multiple, and is reduced to zero
-- where no step of that is undefined
abbrev pub PairVanishes : Algebra → List Polynomial → ℕ → ℕ → Type 0
PairVanishes A G i j =
    let S : Polynomial = s_polynomial A (element G i) (element G j) in
    IsCombinationBelow A G (pair_lcm G i j) S × ((reduce A G S).over ≡ false → (reduce A G S).rest ≡ [])

-- What a finished run gives: G is a Gröbner basis of the ideal of the generators, which is the left ideal of G. Each
-- polynomial of the ideal other than zero is a left combination of G within its own leading monomial, each S-polynomial
-- vanishes, also of a pair that was skipped, and reductions and normal forms by G decide what is in the ideal.
pub record IsFinishedBasis (A : Algebra) (mode : Mode) (gens : List Polynomial) (G : List Polynomial) : Type 0 where
  pub groebner : IsGroebnerBasis A (InIdeal A mode gens) G
  pub same_ideal : (f : Polynomial) → InIdeal A mode gens f ↔ InLeftIdeal A G f
  pub within : (f : Polynomial) → InIdeal A mode gens f → f ≢ [] → IsCombinationWithin A G (leading_monomial f) f
  pub pairs : (i j : ℕ) → 1 ≤ i → i ≤ length G → 1 ≤ j → j ≤ length G → PairVanishes A G i j
  pub reductions : Decides A (InIdeal A mode gens) (reduce A G)
  pub normal_forms : Decides A (InIdeal A mode gens) (normal_form_by A G)

-- What is proved of a run J over these generators, however it ended: its elements are nonzero polynomials, and the start of
-- each job that was not skipped is reduced to zero by its basis. In a left run each element is the value of its row of
-- cofactors. Of a finished run each generator is reduced to zero, and the basis is as `IsFinishedBasis` says.
pub record RunLaws (A : Algebra) (mode : Mode) (gens : List Polynomial) (J : Journal) : Type 0 where
  pub elements : Each (IsElement A) J.basis
  pub starts : Each (EntryReducesToZero A gens J.basis) J.entries
  pub values : mode ≡ Left → map (λ row. row_value A row gens) (basis_rows A (length gens) J) ≡ J.basis
  pub generators : J.outcome ≡ Finished → Each (ReducesToZero A J.basis) gens
  pub basis : J.outcome ≡ Finished → IsFinishedBasis A mode gens J.basis
