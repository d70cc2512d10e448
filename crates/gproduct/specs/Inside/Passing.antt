-- Products in which no letter crosses one that it does not commute with.
use Rattle.std.specs.Prelude.{◌≡◌, ℕ, ◌+◌, ◌-◌, ◌*◌, ◌<◌, ◌≤◌, ◌⊎◌, [], List, slice_index}
use Rattle.std.specs.List.{Contains}
use Rattle.monomials.specs.Monomials.{Monomial, degree}
use Rattle.monomials.specs.Polynomials.{Polynomial, Each, HasNumbers, HasVars, IsPolynomial, poly_degree}
use Rattle.monomials.proofs.Modulo.{Same}
use Rattle.monomials.proofs.Weights.{weigh}
use Rattle.word_model.specs.Words.{Algebra, c_of, d_of}
use Rattle.word_model.proofs.NormalForms.{row_weight}
use Rattle.gproduct.specs.declared.pairs.Pair.{Pair}
use Rattle.gproduct.specs.Inside.Factors.{AreTerms}

-- x_j x_i = x_i x_j
pub record IsCommuting (A : Algebra) (i j : ℕ) : Type 0 where
  pub number : c_of A i j ≡ 1
  pub polynomial : d_of A i j ≡ []

-- each variable of m commutes with each lower variable of k
abbrev pub Passes : Algebra → Monomial → Monomial → Type 0
Passes A m k =
    (i j : ℕ) → 1 ≤ i → i < j → j ≤ A.order.vars → 0 < slice_index m (j - 1) → 0 < slice_index k (i - 1) → IsCommuting A i j

-- i < j are numbers of variables, of which there are n
abbrev pub IsPair : ℕ → Pair → Type 0
IsPair n pair = (1 ≤ pair.i) × (pair.i < pair.j) × (pair.j ≤ n)

-- all pairs of variables that don't commute are in a list of pairs
pub record HasNoncommuting (A : Algebra) (pairs : List Pair) : Type 0 where
  pub are : Each (IsPair A.order.vars) pairs
  pub all : (i j : ℕ) → 1 ≤ i → i < j → j ≤ A.order.vars → IsCommuting A i j ⊎ Contains pairs (record { i = i; j = j })

-- m does not have the pair's higher variable, or k not the lower one
abbrev pub IsFree : Monomial → Monomial → Pair → Type 0
IsFree m k pair = 0 < slice_index m (pair.j - 1) → 0 < slice_index k (pair.i - 1) → ⊥

-- ---- products in two parts

-- k times m times f is the sum of `passed` and of k times m times `rest`
abbrev pub AddUp : Algebra → ℕ → Monomial → Polynomial → Polynomial → Polynomial → Type 0
AddUp A k m f passed rest = (φ : Monomial → ℕ) → Same A.p (weigh φ passed + k * row_weight A φ rest m) (k * row_weight A φ f m)

-- terms in two parts, which add up to the product
pub record IsParted (A : Algebra) (k : ℕ) (m : Monomial) (f passed rest : Polynomial) : Type 0 where
  pub passed_terms : AreTerms A.p A.order.vars passed
  pub rest_numbers : HasNumbers A.p rest
  pub rest_vars : HasVars A.order.vars rest
  pub rest_small : Each (λ t. degree m + degree t.1 ≤ 4095) rest
  pub sum : AddUp A k m f passed rest

-- polynomials that add up to the product
pub record IsSplit (A : Algebra) (k : ℕ) (m : Monomial) (f passed rest : Polynomial) : Type 0 where
  pub passed_sorted : IsPolynomial A.p A.order passed
  pub rest_sorted : IsPolynomial A.p A.order rest
  pub rest_within : degree m + poly_degree rest ≤ 4095
  pub sum : AddUp A k m f passed rest
