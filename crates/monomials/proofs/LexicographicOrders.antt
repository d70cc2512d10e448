-- The order of blocks compares lists of whole numbers, one list for each monomial.
use Rattle.std.proofs.Common.{◌≡◌, ℕ, suc, ◌+◌, ◌-◌, List, [], ◌∷◌, ◌++◌, length, map, replicate, drop, arith, refl, sym, ◌∙◌, ap, ℤ, pos, length-append}
use Rattle.std.proofs.Common.{Equal, nat_cmp, int_cmp}
use Rattle.std.specs.Ordering.{ordering_then}
use Rattle.std.specs.Cmp.Lexicographic.{slice_cmp}
use Rattle.std.proofs.lemmas.List.{length-replicate}
use Rattle.std.proofs.lemmas.List.Elements.{All-head, All-tail}
use Rattle.monomials.specs.Monomials.{Monomial}
use Rattle.monomials.specs.Orders.{RowOrder, row_value, rows_cmp}
use Rattle.monomials.specs.Blocks.{first_first, last_first, block_len, block_rows, blocks_rows, order_of, HasWeights, AreWeighted}
use Rattle.monomials.specs.Lexicographic.{IsLexicographic}
use Rattle.monomials.specs.ExtraRows.{with_rows}
use Rattle.monomials.specs.Rows.{weighted}
use Rattle.monomials.specs.declared.order.Block.{Block}
use Rattle.monomials.specs.declared.order.Block.TheVariants.{Extra, Lex, DegRev, DegLex, WeightRev, WeightLex}
use Rattle.monomials.proofs.RowValues.{compare_weights_row, compare_weights}
use Rattle.monomials.proofs.GradedRows.{then_assoc, rising_values, falling_values, length-rising_values, length-falling_values, rising_same, graded_rising_same, graded_falling_same, ones_row, ones_positive}
use Rattle.monomials.proofs.Separation.{weights_positive}

rows_cmp-append : (rs ss : List (List ℤ)) (a b : Monomial) → rows_cmp (rs ++ ss) a b ≡ ordering_then (rows_cmp rs a b) (rows_cmp ss a b)
rows_cmp-append [] ss a b = refl
rows_cmp-append (r ∷ rs) ss a b =
    ap (λ o. ordering_then (int_cmp (row_value r a) (row_value r b)) o) (rows_cmp-append rs ss a b)
    ∙ sym (then_assoc (int_cmp (row_value r a) (row_value r b)) (rows_cmp rs a b) (rows_cmp ss a b))

-- lists in two parts, of which the first are as long
slice_cmp-append : (xs ys xs' ys' : List ℕ) → length xs ≡ length ys →
    slice_cmp nat_cmp (xs ++ xs') (ys ++ ys') ≡ ordering_then (slice_cmp nat_cmp xs ys) (slice_cmp nat_cmp xs' ys')
slice_cmp-append [] [] xs' ys' e = refl
slice_cmp-append [] (y ∷ ys) xs' ys' e = absurd (omega arith)
slice_cmp-append (x ∷ xs) [] xs' ys' e = absurd (omega arith)
slice_cmp-append (x ∷ xs) (y ∷ ys) xs' ys' e =
    ap (λ o. ordering_then (nat_cmp x y) o) (slice_cmp-append xs ys xs' ys' (omega arith))
    ∙ sym (then_assoc (nat_cmp x y) (slice_cmp nat_cmp xs ys) (slice_cmp nat_cmp xs' ys'))

-- a weighted degree, and exponents
graded_rising : ℕ → List ℕ → Monomial → List ℕ
graded_rising at ws m = weighted ws (drop at m) ∷ rising_values at (length ws) m

-- a weighted degree, and by how much it is above exponents
graded_falling : ℕ → List ℕ → Monomial → List ℕ
graded_falling at ws m = weighted ws (drop at m) ∷ falling_values (weighted ws (drop at m)) (at + 1) (length ws - 1) m

-- the numbers that a block's rows compare
pub block_values : ℕ → Block → Monomial → List ℕ
block_values at (Extra weights) m = weighted weights m ∷ []
block_values at (Lex len) m = rising_values at len m
block_values at (DegRev len) m = graded_falling at (replicate len 1) m
block_values at (DegLex len) m = graded_rising at (replicate len 1) m
block_values at (WeightRev weights) m = graded_falling at weights m
block_values at (WeightLex weights) m = graded_rising at weights m

pub blocks_values : ℕ → List Block → Monomial → List ℕ
blocks_values at [] m = []
blocks_values at (b ∷ blocks) m = block_values at b m ++ blocks_values (at + block_len b) blocks m

length-graded_rising : (at : ℕ) (ws : List ℕ) (a b : Monomial) → length (graded_rising at ws a) ≡ length (graded_rising at ws b)
unfolding graded_rising
length-graded_rising at ws a b = omega (arith, length-rising_values at (length ws) a, length-rising_values at (length ws) b)

length-graded_falling : (at : ℕ) (ws : List ℕ) (a b : Monomial) → length (graded_falling at ws a) ≡ length (graded_falling at ws b)
unfolding graded_falling
length-graded_falling at ws a b =
    omega (
      arith,
      length-falling_values (weighted ws (drop at a)) (at + 1) (length ws - 1) a,
      length-falling_values (weighted ws (drop at b)) (at + 1) (length ws - 1) b,
    )

length-block_values : (at : ℕ) (block : Block) (a b : Monomial) → length (block_values at block a) ≡ length (block_values at block b)
unfolding block_values
length-block_values at (Extra weights) a b = refl
length-block_values at (Lex len) a b = length-rising_values at len a ∙ sym (length-rising_values at len b)
length-block_values at (DegRev len) a b = length-graded_falling at (replicate len 1) a b
length-block_values at (DegLex len) a b = length-graded_rising at (replicate len 1) a b
length-block_values at (WeightRev weights) a b = length-graded_falling at weights a b
length-block_values at (WeightLex weights) a b = length-graded_rising at weights a b

length-blocks_values : (at : ℕ) (blocks : List Block) (a b : Monomial) → length (blocks_values at blocks a) ≡ length (blocks_values at blocks b)
unfolding blocks_values
length-blocks_values at [] a b = refl
length-blocks_values at (block ∷ blocks) a b =
    length-append (block_values at block a) (blocks_values (at + block_len block) blocks a)
    ∙ ((λ i. length-block_values at block a b i + length-blocks_values (at + block_len block) blocks a b i)
    ∙ sym (length-append (block_values at block b) (blocks_values (at + block_len block) blocks b)))

module _ (n : ℕ) (a b : Monomial) where
  block_same : (at : ℕ) (block : Block) → HasWeights block →
      rows_cmp (block_rows n at block) a b ≡ slice_cmp nat_cmp (block_values at block a) (block_values at block b)
  unfolding block_values graded_rising graded_falling
  block_same at (Extra weights) w = ap (λ o. ordering_then o Equal) (compare_weights_row n 0 weights a b)
  block_same at (Lex len) w = rising_same n a b at len
  block_same at (DegRev len) w =
      let l : length {A = ℕ} (replicate len 1) ≡ len = length-replicate len 1 in
      (λ i. rows_cmp (ones_row n at len i ∷ last_first n (at + 1) (sym l i - 1)) a b)
      ∙ graded_falling_same n a b at (replicate len 1) (ones_positive len)
  block_same at (DegLex len) w =
      let l : length {A = ℕ} (replicate len 1) ≡ len = length-replicate len 1 in
      (λ i. rows_cmp (ones_row n at len i ∷ first_first n at (sym l i)) a b)
      ∙ graded_rising_same n a b at (replicate len 1)
  block_same at (WeightRev weights) w = graded_falling_same n a b at weights (weights_positive weights w)
  block_same at (WeightLex weights) w = graded_rising_same n a b at weights

  blocks_same : (at : ℕ) (blocks : List Block) → AreWeighted blocks →
      rows_cmp (blocks_rows n at blocks) a b ≡ slice_cmp nat_cmp (blocks_values at blocks a) (blocks_values at blocks b)
  unfolding blocks_values
  blocks_same at [] w = refl
  blocks_same at (block ∷ blocks) w =
      let rest : rows_cmp (blocks_rows n (at + block_len block) blocks) a b
      ≡ slice_cmp nat_cmp (blocks_values (at + block_len block) blocks a) (blocks_values (at + block_len block) blocks b) =
      blocks_same (at + block_len block) blocks (All-tail HasWeights block blocks w) in
      rows_cmp-append (block_rows n at block) (blocks_rows n (at + block_len block) blocks) a b
      ∙ ((λ i. ordering_then (block_same at block (All-head HasWeights block blocks w) i) (rest i))
      ∙ sym (slice_cmp-append (block_values at block a) (block_values at block b)
      (blocks_values (at + block_len block) blocks a) (blocks_values (at + block_len block) blocks b) (length-block_values at block a b)))

-- the order of blocks compares the numbers of their rows, and then the exponents
pub blocks_lexicographic : (n : ℕ) (blocks : List Block) → AreWeighted blocks → IsLexicographic (order_of n blocks)
blocks_lexicographic n blocks w = record {
  places = length (blocks_values 0 blocks []) + n;
  values = λ m. blocks_values 0 blocks m ++ m;
  one_length = λ m l.
      length-append (blocks_values 0 blocks m) m ∙ (λ i. length-blocks_values 0 blocks m [] i + l i);
  same = λ a b.
      ap (λ o. ordering_then o (slice_cmp nat_cmp a b)) (blocks_same n a b 0 blocks w)
      ∙ sym (slice_cmp-append (blocks_values 0 blocks a) (blocks_values 0 blocks b) a b (length-blocks_values 0 blocks a b));
}

-- rows of weights in front put their values in front
pub rows_lexicographic : (extra : List (List ℕ)) (order : RowOrder) → IsLexicographic order → IsLexicographic (with_rows extra order)
rows_lexicographic [] order h = h
rows_lexicographic (ws ∷ extra) order h =
    let rest : IsLexicographic (with_rows extra order) = rows_lexicographic extra order h in
    record {
      places = suc rest.places;
      values = λ m. weighted ws m ∷ rest.values m;
      one_length = λ m l. ap suc (rest.one_length m l);
      same = λ a b.
          then_assoc (int_cmp (row_value (map pos ws) a) (row_value (map pos ws) b)) (rows_cmp (with_rows extra order).rows a b) (slice_cmp nat_cmp a b)
          ∙ (λ i. ordering_then (compare_weights ws a b i) (rest.same a b i));
    }
