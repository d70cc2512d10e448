-- Two powers in the wrong order, and the kinds of relations that a table keeps.
use Rattle.std.specs.Prelude.{◌≡◌, ℕ, ◌+◌, ◌/◌, ◌%◌, ◌<◌, ◌≤◌, ◌++◌, length, replicate, List, Option, Some, None, slice_index_or}
use Rattle.word_model.specs.Words.{Algebra, Word}
use Rattle.closed_forms.specs.declared.PairKind.{PairKind}
use Rattle.closed_forms.specs.Kinds.{HasKind}
use Rattle.gproduct.specs.declared.swap.Swap.{Swap}

-- powers of two variables i < j of an algebra, whose exponents add up to at most 4095
pub record IsSwap (A : Algebra) (swap : Swap) : Type 0 where
  pub first : 1 ≤ swap.i
  pub ordered : swap.i < swap.j
  pub last : swap.j ≤ A.order.vars
  pub reach : swap.a + swap.b ≤ 4095

-- the word x_j^a x_i^b
abbrev pub swap_word : Swap → Word
swap_word swap = replicate swap.a swap.j ++ replicate swap.b swap.i

-- The items of a list are the kinds of the algebra's relations of x_i and x_j, where i - 1 and j - 1 are the digits of the
-- item's place to the base 16: none where the relation has no kind, or where these are no two variables in order.
pub record AreFirstKinds (A : Algebra) (kinds : List (Option PairKind)) : Type 0 where
  pub right : (k : ℕ) (kind : PairKind) → slice_index_or kinds k None ≡ Some kind → HasKind A (k / 16 + 1) (k % 16 + 1) kind
  pub full : (k : ℕ) (kind : PairKind) → k < length kinds → HasKind A (k / 16 + 1) (k % 16 + 1) kind → slice_index_or kinds k None ≡ Some kind

-- a list of the kinds of all relations
abbrev pub AreKinds : Algebra → List (Option PairKind) → Type 0
AreKinds A kinds = (length kinds ≡ 240) × AreFirstKinds A kinds
