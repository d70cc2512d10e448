-- The products of the entries that are reduced to zero: a word of the private functions and of lemmas, which no public
-- contract cites.
use Rattle.std.specs.Prelude.{Bool, true, ◌&&◌, List, [], ◌∷◌}
use Rattle.monomials.specs.Polynomials.{Polynomial}
use Rattle.word_model.specs.Cofactors.{Row, start_reaches, steps_reach}
use Rattle.word_model.specs.declared.records.Entry.{Entry}
use Rattle.word_model.specs.declared.records.Entry.TheVariants.{Zero}

-- whether the products are computed by which the rows of the entries reduced to zero are made
abbrev pub zeros_reach : List Polynomial → List Row → List Entry → Bool
zeros_reach G R [] = true
zeros_reach G R (Zero job trace ∷ entries) = start_reaches G R job && steps_reach R trace && zeros_reach G R entries
zeros_reach G R (_ ∷ entries) = zeros_reach G R entries
