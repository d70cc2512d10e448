-- How a finished list is made, step by step: words of the private functions, which no public contract cites.
use Rattle.std.specs.Prelude.{◌≢◌, ℕ, Bool, List, [], ◌∷◌, Option, if◌then◌else◌}
use Rattle.monomials.specs.Polynomials.{Polynomial, HasVars}
use Rattle.word_model.specs.Words.{Algebra}
use Rattle.word_model.specs.Reduction.{element, reduce_tail}
use Rattle.word_model.specs.Finished.{Final, with_final}

-- a polynomial in n variables that is not zero
abbrev pub IsNonzeroIn : ℕ → Polynomial → Type 0
IsNonzeroIn n g = HasVars n g × (g ≢ [])

-- the elements where the flags say so, and z in the other places
abbrev pub select : Polynomial → List Bool → List Polynomial → List Polynomial
select z flags [] = []
select z [] (g ∷ G) = z ∷ select z [] G
select z (b ∷ flags) (g ∷ G) = (if b then g else z) ∷ select z flags G

-- the polynomial g of number i, with its tail reduced by K, among the finals: zero is left out
abbrev pub add_polynomial : Algebra → List Polynomial → ℕ → Polynomial → Option (List Final) → Option (List Final)
add_polynomial A K i [] finals = finals
add_polynomial A K i (t ∷ h) finals = with_final A i (reduce_tail A K (t ∷ h)) finals

-- the element of number i of K, so
abbrev pub add_final : Algebra → List Polynomial → ℕ → Option (List Final) → Option (List Final)
add_final A K i finals = add_polynomial A K i (element K i) finals
