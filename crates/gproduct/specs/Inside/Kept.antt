-- Products that a seat keeps.
use Rattle.std.specs.Prelude.{◌≡◌, ◌≢◌, ℕ, List, [], ◌∷◌, Option, IfSome, All, slice_index_or}
use Rattle.monomials.specs.Polynomials.{Polynomial, IsPolynomial}
use Rattle.word_model.specs.Words.{Algebra}
use Rattle.word_model.specs.Products.{product}
use Rattle.gproduct.specs.declared.kept.KeptProduct.{KeptProduct}

-- the factor that has a number: zero where none has it
abbrev pub factor_at : List Polynomial → ℕ → Polynomial
factor_at factors number = slice_index_or factors number []

-- what is kept is the product of its monomial with the factor that has its number
pub record IsKept (A : Algebra) (factors : List Polynomial) (kept : KeptProduct) : Type 0 where
  pub some : factor_at factors kept.number ≢ []
  pub sorted : IsPolynomial A.p A.order kept.product
  pub value : kept.product ≡ product A ((1, kept.mono) ∷ []) (factor_at factors kept.number)

-- so is all that stands in slots
abbrev pub AreKept : Algebra → List Polynomial → List (Option KeptProduct) → Type 0
AreKept A factors slots = All (λ slot. IfSome slot (IsKept A factors)) slots
