-- The printed text of a ring: its characteristic, variables, order and relations.
use Rattle.std.specs.Prelude.{ℕ, zero, suc, ◌-◌, Bool, false, ◌==◌, List, [], ◌∷◌, ◌++◌, map, codes, slice_index_or, if◌then◌else◌}
use Rattle.std.specs.List.{join_with_byte}
use Rattle.std.specs.Fmt.{decimal}
use Rattle.monomials.specs.Orders.{order_cmp}
use Rattle.monomials.specs.Polynomials.{Polynomial, poly_add}
use Rattle.monomials.specs.declared.order.Block.{Block}
use Rattle.monomials.specs.declared.order.Block.TheVariants.{Extra, Lex, DegRev, DegLex, WeightRev, WeightLex}
use Rattle.word_model.specs.Words.{Algebra, pair_monomial, c_of, d_of}
use Rattle.word_model.specs.Texts.{polynomial_text}

-- numbers with `,` between them, in brackets
abbrev pub numbers_text : List ℕ → List ℕ
numbers_text numbers = codes "(" ++ (join_with_byte 44 (map decimal numbers) ++ codes ")")

-- a block: its name, and its weights or how many variables it covers
abbrev pub block_text : Block → List ℕ
block_text (Extra weights) = codes "a" ++ numbers_text weights
block_text (Lex len) = codes "lp" ++ numbers_text (len ∷ [])
block_text (DegRev len) = codes "dp" ++ numbers_text (len ∷ [])
block_text (DegLex len) = codes "Dp" ++ numbers_text (len ∷ [])
block_text (WeightRev weights) = codes "wp" ++ numbers_text weights
block_text (WeightLex weights) = codes "Wp" ++ numbers_text weights

-- an order, by its blocks
abbrev pub order_text : List Block → List ℕ
order_text blocks = codes "(" ++ (join_with_byte 44 (map block_text blocks) ++ codes ")")

-- the name of the variable of number v, which counts from 1
abbrev pub name_of : List (List ℕ) → ℕ → List ℕ
name_of names v = slice_index_or names (v - 1) []

-- c_ij x_i x_j + d_ij, to which x_j x_i is equal
abbrev pub right_side : Algebra → ℕ → ℕ → Polynomial
right_side A i j =
    poly_add (order_cmp A.order.rows) A.p
    ((c_of A i j, pair_monomial A.order.vars i j) ∷ []) (d_of A i j)

-- whether x_j x_i = c x_i x_j + d says that the two commute
abbrev pub is_commuting : ℕ → Polynomial → Bool
is_commuting c [] = c == 1
is_commuting c (t ∷ d) = false

-- the line of the relation of x_i and x_j, unless they commute
abbrev pub relation_line : Algebra → List (List ℕ) → ℕ → ℕ → List ℕ
relation_line A names i j =
    if is_commuting (c_of A i j) (d_of A i j) then []
    else codes "// " ++ (name_of names j ++ (codes "*" ++ (name_of names i ++ (codes "=" ++ (polynomial_text A.p names (right_side A i j) ++ codes "\n")))))

-- the lines of the relations of x_i with x_j and the k - 1 variables behind it
abbrev pub relation_row : Algebra → List (List ℕ) → ℕ → ℕ → ℕ → List ℕ
relation_row A names i j zero = []
relation_row A names i j (suc k) = relation_line A names i j ++ relation_row A names i (suc j) k

-- the lines of the relations of x_i and the k - 1 variables behind it, each with those behind itself
abbrev pub relation_lines : Algebra → List (List ℕ) → ℕ → ℕ → List ℕ
relation_lines A names i zero = []
relation_lines A names i (suc k) = relation_row A names i (suc i) k ++ relation_lines A names (suc i) k

-- A ring: its characteristic, its variables, its order as these blocks, and a line for each relation of two variables
-- that do not commute, in lexicographic order of their numbers.
abbrev pub ring_text : Algebra → List (List ℕ) → List Block → List ℕ
ring_text A names blocks =
    (codes "// characteristic " ++ (decimal A.p ++ codes "\n"))
    ++ ((codes "// variables " ++ (join_with_byte 44 names ++ codes "\n"))
    ++ ((codes "// order " ++ (order_text blocks ++ codes "\n")) ++ relation_lines A names 1 A.order.vars))
