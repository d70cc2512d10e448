-- Pieces with a separator between them, one after another.
use Rattle.std.specs.Prelude.{ℕ, zero, suc, ◌-◌, ◌==◌, List, [], ◌∷◌, ◌++◌, codes, if◌then◌else◌}
use Rattle.word_model.specs.Texts.{number_text}

-- what stands in front of the piece of this number, which counts from 0
abbrev pub comma_before : ℕ → List ℕ
comma_before zero = []
comma_before (suc i) = codes ","

-- pieces of which the first has this number
abbrev pub pieces_from : ℕ → List (List ℕ) → List ℕ
pieces_from i [] = []
pieces_from i (piece ∷ pieces) = comma_before i ++ (piece ++ pieces_from (suc i) pieces)

-- what stands for a number other than 1 in front of a monomial
abbrev pub factor_text : ℕ → ℕ → List ℕ
factor_text p a = if a == p - 1 then codes "-" else (number_text p a ++ codes "*")
