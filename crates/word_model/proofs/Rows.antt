-- The worked rows, computed from the definitions.
use Rattle.std.proofs.Common.{◌≡◌, ℕ, List, [], ◌∷◌, ◌++◌, codes, pos, Some, None, refl}
use Rattle.std.specs.Fmt.{digits}
use Rattle.monomials.specs.Polynomials.{Polynomial}
use Rattle.monomials.specs.Blocks.{dp_rows}
use Rattle.monomials.specs.declared.order.Block.TheVariants.{DegRev}
use Rattle.word_model.specs.Words.{Algebra, normal_form, normal_form_within, word_value}
use Rattle.word_model.specs.Texts.{rows_text}
use Rattle.word_model.specs.RingTexts.{ring_text}
use Rattle.word_model.specs.TwoVariables.{two_variables}
use Rattle.word_model.specs.Conditions.{Fault, relations_fault}
use Rattle.word_model.specs.Conditions.Fault.{Coefficient, Profile, NonDegeneracy}
use Rattle.word_model.specs.Answers.{line}

-- ---- conditions on relations

-- the algebra in three variables ordered by dp over the field with 7 elements, with these relations
abbrev three_variables : List ℕ → List Polynomial → Algebra
three_variables c d = record { p = 7; order = record { vars = 3; rows = dp_rows 3 0 3 }; c = c; d = d }

-- y x = x y + z, z x = x z and z y = y z + y: the triple leaves z
triple_leaves_rest : relations_fault (three_variables (1 ∷ 1 ∷ 1 ∷ []) (((1, 0 ∷ 0 ∷ 1 ∷ []) ∷ []) ∷ [] ∷ ((1, 0 ∷ 1 ∷ 0 ∷ []) ∷ []) ∷ []))
    ≡ Some (NonDegeneracy 1 2 3 ((1, 0 ∷ 0 ∷ 1 ∷ []) ∷ []))
unfolding relations_fault word_value normal_form normal_form_within
triple_leaves_rest = refl

-- the same with z y = y
zero_number : relations_fault (three_variables (1 ∷ 1 ∷ 0 ∷ []) (((1, 0 ∷ 0 ∷ 1 ∷ []) ∷ []) ∷ [] ∷ ((1, 0 ∷ 1 ∷ 0 ∷ []) ∷ []) ∷ []))
    ≡ Some (Coefficient 2 3)
unfolding relations_fault
zero_number = refl

-- y x = x y + x^2, ordered by dp: x^2 is above x y
too_great : relations_fault (record { p = 7; order = record { vars = 2; rows = dp_rows 2 0 2 }; c = 1 ∷ []; d = ((1, 2 ∷ 0 ∷ []) ∷ []) ∷ [] })
    ≡ Some (Fault.Ordering 1 2)
unfolding relations_fault
too_great = refl

-- y x = x y + y^3, ordered lexicographically: y^3 is below x y, and of degree 3
too_high : relations_fault (record { p = 7; order = record { vars = 2; rows = (pos 1 ∷ pos 0 ∷ []) ∷ (pos 0 ∷ pos 1 ∷ []) ∷ [] }; c = 1 ∷ []; d = ((1, 0 ∷ 3 ∷ []) ∷ []) ∷ [] })
    ≡ Some (Profile 1 2)
unfolding relations_fault
too_high = refl

-- d x = x d + 1
weyl_passes : relations_fault (two_variables 7 1 1) ≡ None
unfolding relations_fault
weyl_passes = refl

-- the ring with d x = x d + 1 modulo 7
weyl_ring : ring_text (two_variables 7 1 1) (codes "x" ∷ codes "d" ∷ []) (DegRev 2 ∷ [])
    ≡ line (codes "// characteristic 7") ++ (line (codes "// variables x,d") ++ (line (codes "// order (dp(2))") ++ line (codes "// d*x=x*d+1")))
unfolding digits
weyl_ring = refl

-- a row of d and -x
weyl_row : rows_text 7 (codes "x" ∷ codes "d" ∷ []) (codes "_") ((((1, 0 ∷ 1 ∷ []) ∷ []) ∷ ((6, 1 ∷ 0 ∷ []) ∷ []) ∷ []) ∷ [])
    ≡ line (codes "_[1]=[d,-x]")
unfolding digits
weyl_row = refl
