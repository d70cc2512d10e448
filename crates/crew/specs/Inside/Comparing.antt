-- Elements that were compared. Private contracts alone cite this.
use Rattle.std.specs.Prelude.{◌≡◌, ℕ, Bool, true, false, List, slice_index_or}
use Rattle.monomials.specs.Polynomials.{Polynomial}
use Rattle.word_model.specs.Reduction.{element}

-- the elements whose numbers are marked are the same in both lists
abbrev pub AreSame : List Polynomial → List Polynomial → List Bool → Type 0
AreSame G H marks = (k : ℕ) → slice_index_or marks k false ≡ true → element G k ≡ element H k
