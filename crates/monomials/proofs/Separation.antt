-- The rows of blocks that cover the variables tell all monomials apart.
use Rattle.std.proofs.Common.{◌≡◌, ℕ, ◌+◌, ◌-◌, ◌≤◌, ◌<◌, Bool, true, List, [], ◌∷◌, ◌++◌, length, map, sum, replicate, get_or, arith, refl, sym, ◌∙◌, ap, inl, inr, ℤ, pos, negsuc, ◌&&◌, All}
use Rattle.std.specs.Ordering.{nat_cmp, int_cmp, ordering_then}
use Rattle.std.specs.Cmp.Lexicographic.{slice_cmp}
use Rattle.std.specs.declared.cmp.Ordering.{Ordering}
use Rattle.std.specs.declared.cmp.Ordering.TheVariants.{Less, Equal, Greater}
use Rattle.std.proofs.lemmas.Bool.{cases_lt}
use Rattle.std.proofs.lemmas.Cmp.{tied_itself, nat_list_cmp_total}
use Rattle.std.proofs.lemmas.List.{ext_get_or, length-replicate}
use Rattle.std.proofs.lemmas.List.Elements.{All-get_or, All-head, All-tail}
use Rattle.std.proofs.lemmas.List.Sums.{sum_by-cons}
use Rattle.monomials.specs.Monomials.{Monomial}
use Rattle.monomials.specs.Orders.{RowOrder, row_value, rows_cmp, order_cmp}
use Rattle.monomials.specs.Blocks.{row_of, last_first, block_len, block_rows, blocks_rows, order_of, is_extra, IsPart, AreParts, IsWeight, HasWeights, AreWeighted, Covers}
use Rattle.monomials.specs.Separating.{IsSeparating}
use Rattle.monomials.specs.ExtraRows.{with_rows}
use Rattle.monomials.specs.declared.order.Block.{Block}
use Rattle.monomials.specs.declared.order.Block.TheVariants.{Extra, Lex, DegRev, DegLex, WeightRev, WeightLex}
use Rattle.monomials.proofs.GradedRows.{IsPositive, then_equal, rising_equal, graded_rising_equal, graded_falling_equal, ones_row, ones_positive}

-- the rows of `dp` in two variables
pub dp_two : (order_of 2 (DegRev 2 ∷ [])).rows ≡ (pos 1 ∷ pos 1 ∷ []) ∷ (pos 0 ∷ negsuc 0 ∷ []) ∷ []
dp_two = refl

then_tied : (o p : Ordering) → (o ≡ Equal → p ≡ Equal) → ordering_then o p ≡ o
then_tied Less p h = refl
then_tied Equal p h = h refl
then_tied Greater p h = refl

-- weights of a block are positive
pub weights_positive : (ws : List ℕ) → All IsWeight ws → IsPositive ws
weights_positive ws h k l = (All-get_or IsWeight ws k 0 l h).0

module _ (n : ℕ) (a b : Monomial) where
  append_equal : (rs ss : List (List ℤ)) → rows_cmp (rs ++ ss) a b ≡ Equal → (rows_cmp rs a b ≡ Equal) × (rows_cmp ss a b ≡ Equal)
  append_equal [] ss e = (refl, e)
  append_equal (r ∷ rs) ss e =
      let p : (int_cmp (row_value r a) (row_value r b) ≡ Equal) × (rows_cmp (rs ++ ss) a b ≡ Equal) =
      then_equal (int_cmp (row_value r a) (row_value r b)) (rows_cmp (rs ++ ss) a b) e in
      let q : (rows_cmp rs a b ≡ Equal) × (rows_cmp ss a b ≡ Equal) = append_equal rs ss p.1 in
      (ap (λ o. ordering_then o (rows_cmp rs a b)) p.0 ∙ q.0, q.1)

  -- the rows of a block give equal exponents of its variables
  block_equal : (at : ℕ) (front : Bool) (block : Block) → IsPart n front block → HasWeights block →
      rows_cmp (block_rows n at block) a b ≡ Equal → (k : ℕ) → at ≤ k → k < at + block_len block → get_or a k 0 ≡ get_or b k 0
  block_equal at front (Extra weights) part weighted e k low high = absurd (omega arith)
  block_equal at front (Lex len) part weighted e k low high = rising_equal n a b at len e k low high
  block_equal at front (DegRev len) part weighted e k low high =
      let l : length {A = ℕ} (replicate len 1) ≡ len = length-replicate len 1 in
      graded_falling_equal n a b at (replicate len 1) (omega (arith, l, part)) (ones_positive len)
      (ap (λ q. rows_cmp (q ∷ last_first n (at + 1) (length {A = ℕ} (replicate len 1) - 1)) a b) (sym (ones_row n at len))
      ∙ (ap (λ q. rows_cmp (row_of (pos 1) n at len ∷ last_first n (at + 1) (q - 1)) a b) l ∙ e)) k low (omega (arith, l))
  block_equal at front (DegLex len) part weighted e k low high = rising_equal n a b at len (then_equal _ _ e).1 k low high
  block_equal at front (WeightRev weights) part weighted e k low high =
      graded_falling_equal n a b at weights part (weights_positive weights weighted) e k low high
  block_equal at front (WeightLex weights) part weighted e k low high = graded_rising_equal n a b at weights e k low high

  blocks_equal : (at : ℕ) (front : Bool) (blocks : List Block) → AreParts n front blocks → AreWeighted blocks →
      rows_cmp (blocks_rows n at blocks) a b ≡ Equal → (k : ℕ) → at ≤ k → k < at + sum (map block_len blocks) →
      get_or a k 0 ≡ get_or b k 0
  blocks_equal at front [] parts weighted e k low high = absurd (omega arith)
  blocks_equal at front (block ∷ blocks) parts weighted e k low high =
      let p : (rows_cmp (block_rows n at block) a b ≡ Equal) × (rows_cmp (blocks_rows n (at + block_len block) blocks) a b ≡ Equal) =
      append_equal (block_rows n at block) (blocks_rows n (at + block_len block) blocks) e in
      let s : sum (block_len block ∷ map block_len blocks) ≡ block_len block + sum (map block_len blocks) =
      sum_by-cons (λ x. x) (block_len block) (map block_len blocks) in
      elim (cases_lt k (at + block_len block)) [
        | inl here ↦ block_equal at front block parts.0 (All-head HasWeights block blocks weighted) p.0 k low here
        | inr later ↦
            blocks_equal (at + block_len block) (front && is_extra block) blocks parts.1 (All-tail HasWeights block blocks weighted) p.1 k later
            (omega arith)
      ]

-- the order of blocks that cover the variables tells monomials apart
pub separates_order : (n : ℕ) (blocks : List Block) → Covers n blocks → AreWeighted blocks → (a b : Monomial) → length a ≡ n → length b ≡ n →
    rows_cmp (order_of n blocks).rows a b ≡ Equal → a ≡ b
separates_order n blocks h w a b la lb e =
    ext_get_or 0 a b (la ∙ sym lb)
    (λ k l. blocks_equal n a b 0 true blocks h.parts w e k (omega arith) (omega (arith, h.all)))

-- the same as one fact
pub blocks_separate : (n : ℕ) (blocks : List Block) → Covers n blocks → AreWeighted blocks → IsSeparating (order_of n blocks)
blocks_separate n blocks h w = record { same = separates_order n blocks h w }

-- with more rows in front an order tells apart what it did
pub separates_with_rows : (extra : List (List ℕ)) (order : RowOrder) → IsSeparating order → IsSeparating (with_rows extra order)
separates_with_rows extra order h = record {
  same = λ a b la lb e. h.same a b la lb (append_equal order.vars a b (map (map pos) extra) order.rows e).1;
}

-- at monomials in the order's variables the rows alone decide
pub rows_decide : (order : RowOrder) → IsSeparating order → (a b : List ℕ) → length a ≡ order.vars → length b ≡ order.vars →
    order_cmp order.rows a b ≡ rows_cmp order.rows a b
rows_decide order h a b la lb =
    then_tied (rows_cmp order.rows a b) (slice_cmp nat_cmp a b)
    (λ e. ap (λ x. slice_cmp nat_cmp a x) (sym (h.same a b la lb e)) ∙ tied_itself nat_list_cmp_total a)
