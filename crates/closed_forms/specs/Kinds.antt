-- The kinds of relations of two variables for which powers multiply by a formula.
use Rattle.std.specs.Prelude.{◌≡◌, ◌≢◌, ℕ, ◌<◌, ◌≤◌, [], ◌∷◌}
use Rattle.monomials.specs.Monomials.{one, variable}
use Rattle.monomials.specs.Polynomials.{Polynomial}
use Rattle.word_model.specs.Words.{Algebra, c_of, d_of}
use Rattle.closed_forms.specs.declared.PairKind.{PairKind}
use Rattle.closed_forms.specs.declared.PairKind.TheVariants.{Commuting, Quasi, Weyl, QWeyl, LeftLinear, RightLinear}

-- The number c of the relation x_j x_i = c x_i x_j + d that a kind stands for.
abbrev pub number_of : PairKind → ℕ
number_of Commuting = 1
number_of (Quasi q) = q
number_of (Weyl delta) = 1
number_of (QWeyl q delta) = q
number_of (LeftLinear alpha) = 1
number_of (RightLinear beta) = 1

-- Its polynomial d, in n variables: 0, a constant, or a multiple of x_i or of x_j.
abbrev pub polynomial_of : ℕ → ℕ → ℕ → PairKind → Polynomial
polynomial_of n i j Commuting = []
polynomial_of n i j (Quasi q) = []
polynomial_of n i j (Weyl delta) = (delta, one n) ∷ []
polynomial_of n i j (QWeyl q delta) = (delta, one n) ∷ []
polynomial_of n i j (LeftLinear alpha) = (alpha, variable n i) ∷ []
polynomial_of n i j (RightLinear beta) = (beta, variable n j) ∷ []

-- The numbers of a kind are below p, q is neither 0 nor 1, and the others are not 0.
abbrev pub IsProper : ℕ → PairKind → Type 0
IsProper p Commuting = Unit {0}
IsProper p (Quasi q) = (q ≢ 0) × (q ≢ 1) × (q < p)
IsProper p (Weyl delta) = (delta ≢ 0) × (delta < p)
IsProper p (QWeyl q delta) = (q ≢ 0) × (q ≢ 1) × (q < p) × (delta ≢ 0) × (delta < p)
IsProper p (LeftLinear alpha) = (alpha ≢ 0) × (alpha < p)
IsProper p (RightLinear beta) = (beta ≢ 0) × (beta < p)

-- x_j x_i = c x_i x_j + d, in n variables over the field with p elements, is the relation of this kind
pub record IsOfKind (p n i j : ℕ) (kind : PairKind) (c : ℕ) (d : Polynomial) : Type 0 where
  pub proper : IsProper p kind
  pub number : c ≡ number_of kind
  pub polynomial : d ≡ polynomial_of n i j kind

-- i < j are variables of the algebra, and their relation is that of this kind
pub record HasKind (A : Algebra) (i j : ℕ) (kind : PairKind) : Type 0 where
  pub first : 1 ≤ i
  pub ordered : i < j
  pub last : j ≤ A.order.vars
  pub relation : IsOfKind A.p A.order.vars i j kind (c_of A i j) (d_of A i j)
