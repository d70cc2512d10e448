-- The blocks of an order, each with its rows (Singular manual, monomial orderings).
use Rattle.std.specs.Prelude.{◌≡◌, ℕ, zero, suc, ◌+◌, ◌-◌, ◌<◌, ◌≤◌, Bool, true, false, ◌&&◌, IsTrue, All, List, [], ◌∷◌, ◌++◌, length, replicate, map, sum, ℤ, pos, negsuc}
use Rattle.monomials.specs.Orders.{RowOrder}
use Rattle.monomials.specs.declared.order.Block.{Block}
use Rattle.monomials.specs.declared.order.Block.TheVariants.{Extra, Lex, DegRev, DegLex, WeightRev, WeightLex}

-- how many variables a block covers: an `a` is one row alone, and covers none
abbrev pub block_len : Block → ℕ
block_len (Extra weights) = 0
block_len (Lex len) = len
block_len (DegRev len) = len
block_len (DegLex len) = len
block_len (WeightRev weights) = length weights
block_len (WeightLex weights) = length weights

-- the row of n entries with z at the `len` variables behind the first `at`, and 0 elsewhere
abbrev pub row_of : ℤ → ℕ → ℕ → ℕ → List ℤ
row_of z n at len = replicate at (pos 0) ++ (replicate len z ++ replicate (n - (at + len)) (pos 0))

-- the row of n entries with these weights at the variables behind the first `at`, and 0 elsewhere
abbrev pub weights_row : ℕ → ℕ → List ℕ → List ℤ
weights_row n at weights = replicate at (pos 0) ++ (map pos weights ++ replicate (n - (at + length weights)) (pos 0))

-- the unit rows of the `count` variables behind the first `at`, the first variable's first
abbrev pub first_first : ℕ → ℕ → ℕ → List (List ℤ)
first_first n at zero = []
first_first n at (suc count) = row_of (pos 1) n at 1 ∷ first_first n (at + 1) count

-- the negative unit rows of the `count` variables behind the first `at`, the last variable's first
abbrev pub last_first : ℕ → ℕ → ℕ → List (List ℤ)
last_first n at zero = []
last_first n at (suc count) = row_of (negsuc 0) n (at + count) 1 ∷ last_first n at count

-- dp: the degree, and then minus the exponents of its variables from the last to the second
abbrev pub dp_rows : ℕ → ℕ → ℕ → List (List ℤ)
dp_rows n at len = row_of (pos 1) n at len ∷ last_first n (at + 1) (len - 1)

-- a block's rows over n variables, of which it covers those behind the first `at`
abbrev pub block_rows : ℕ → ℕ → Block → List (List ℤ)
-- a: weights of the variables from the first on
block_rows n at (Extra weights) = weights_row n 0 weights ∷ []
-- lp: the exponents, from the first variable to the last
block_rows n at (Lex len) = first_first n at len
block_rows n at (DegRev len) = dp_rows n at len
-- Dp: the degree, and then as lp
block_rows n at (DegLex len) = row_of (pos 1) n at len ∷ first_first n at len
-- wp, Wp: the weighted degree, and then as dp and as lp
block_rows n at (WeightRev weights) = weights_row n at weights ∷ last_first n (at + 1) (length weights - 1)
block_rows n at (WeightLex weights) = weights_row n at weights ∷ first_first n at (length weights)

-- the rows of blocks, one after another
abbrev pub blocks_rows : ℕ → ℕ → List Block → List (List ℤ)
blocks_rows n at [] = []
blocks_rows n at (b ∷ blocks) = block_rows n at b ++ blocks_rows n (at + block_len b) blocks

-- the order of these blocks
abbrev pub order_of : ℕ → List Block → RowOrder
order_of n blocks = record { vars = n; rows = blocks_rows n 0 blocks }

-- whether it is an `a`
abbrev pub is_extra : Block → Bool
is_extra (Extra weights) = true
is_extra (Lex len) = false
is_extra (DegRev len) = false
is_extra (DegLex len) = false
is_extra (WeightRev weights) = false
is_extra (WeightLex weights) = false

-- A block covers a variable, and an `a` has 1 to n weights and stands in front of all blocks: `front` says that none is before it.
abbrev pub IsPart : ℕ → Bool → Block → Type 0
IsPart n front (Extra weights) = IsTrue front × (0 < length weights) × (length weights ≤ n)
IsPart n front (Lex len) = 0 < len
IsPart n front (DegRev len) = 0 < len
IsPart n front (DegLex len) = 0 < len
IsPart n front (WeightRev weights) = 0 < length weights
IsPart n front (WeightLex weights) = 0 < length weights

-- the same of each, where `front` says that no block is before the first
abbrev pub AreParts : ℕ → Bool → List Block → Type 0
AreParts n front [] = Unit {0}
AreParts n front (b ∷ blocks) = IsPart n front b × AreParts n (front && is_extra b) blocks

-- the blocks cover the n variables, each at least one of them, and each `a` stands in front with 1 to n weights
pub record Covers (n : ℕ) (blocks : List Block) : Type 0 where
  pub parts : AreParts n true blocks
  pub all : sum (map block_len blocks) ≡ n

-- a weight of a block: from 1 to 65535
abbrev pub IsWeight : ℕ → Type 0
IsWeight w = (0 < w) × (w ≤ 65535)

-- the weights are in range: those of `a` may be zero
abbrev pub HasWeights : Block → Type 0
HasWeights (Extra weights) = All (λ w. w ≤ 65535) weights
HasWeights (Lex len) = Unit {0}
HasWeights (DegRev len) = Unit {0}
HasWeights (DegLex len) = Unit {0}
HasWeights (WeightRev weights) = All IsWeight weights
HasWeights (WeightLex weights) = All IsWeight weights

-- the same of each block
abbrev pub AreWeighted : List Block → Type 0
AreWeighted blocks = All HasWeights blocks
