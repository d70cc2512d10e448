-- The order `dp` by the degree and whole words.
use Rattle.std.proofs.Common.{◌≡◌, ℕ, zero, suc, ◌+◌, ◌-◌, ◌*◌, ◌^◌, ◌≤◌, ◌<◌, List, [], ◌∷◌, ◌++◌, length, map, replicate, sum, get_or, arith, refl, sym, ◌∙◌, ap, pos, negsuc, ◌*ℤ◌}
use Rattle.std.proofs.Common.{Ordering, Less, Equal, Greater, nat_cmp, int_cmp}
use Rattle.std.specs.Ordering.{ordering_then}
use Rattle.std.proofs.lemmas.Bool.Decides.{nat_tests}
use Rattle.std.proofs.lemmas.List.{take_all, append-nil}
use Rattle.std.proofs.lemmas.List.Sums.{sum_by-cons}
use Rattle.monomials.specs.Monomials.{Monomial}
use Rattle.monomials.specs.Orders.{row_value, rows_cmp}
use Rattle.monomials.specs.Blocks.{row_of, last_first, dp_rows, block_len, blocks_rows, Covers}
use Rattle.monomials.specs.declared.order.Block.{Block}
use Rattle.monomials.specs.declared.order.Block.TheVariants.{DegRev}
use Rattle.monomials.specs.Words.{lanes, joined, spread, joined-lanes}
use Rattle.monomials.specs.Padded.{IsPadded, exponents}
use Rattle.monomials.specs.declared.expo.Expo.TheInside.{Inside}
use Rattle.monomials.proofs.RowValues.{row_value-row_of, compare_falling, int_cmp-pos}
use Rattle.monomials.proofs.GradedRows.{then_assoc, then_none, then_equal, nat_cmp_equal}
use Rattle.monomials.proofs.Lanes.{lane-below, listed, from_at}
use Rattle.monomials.proofs.Packing.{words_are, length_is}

nat_cmp-self : (x : ℕ) → nat_cmp x x ≡ Equal
nat_cmp-self x = grind (arith, nat_tests)

-- the last place at which two lists differ decides, and the less number is the greater
abbrev pub last_cmp : List ℕ → List ℕ → Ordering
last_cmp [] ys = Equal
last_cmp (x ∷ xs) [] = Equal
last_cmp (x ∷ xs) (y ∷ ys) = ordering_then (last_cmp xs ys) (nat_cmp y x)

last_cmp-append : (xs ys us vs : List ℕ) → length xs ≡ length ys →
    last_cmp (xs ++ us) (ys ++ vs) ≡ ordering_then (last_cmp us vs) (last_cmp xs ys)
last_cmp-append [] [] us vs e = sym (then_none (last_cmp us vs))
last_cmp-append [] (y ∷ ys) us vs e = absurd (omega arith)
last_cmp-append (x ∷ xs) [] us vs e = absurd (omega arith)
last_cmp-append (x ∷ xs) (y ∷ ys) us vs e =
    ap (λ o. ordering_then o (nat_cmp y x)) (last_cmp-append xs ys us vs (omega arith))
    ∙ then_assoc (last_cmp us vs) (last_cmp xs ys) (nat_cmp y x)

last_cmp-self : (xs : List ℕ) → last_cmp xs xs ≡ Equal
last_cmp-self [] = refl
last_cmp-self (x ∷ xs) = rw (last_cmp-self xs) (nat_cmp-self x)

last_cmp-equal : (xs ys : List ℕ) → length xs ≡ length ys → last_cmp xs ys ≡ Equal → xs ≡ ys
last_cmp-equal [] [] e h = refl
last_cmp-equal [] (y ∷ ys) e h = absurd (omega arith)
last_cmp-equal (x ∷ xs) [] e h = absurd (omega arith)
last_cmp-equal (x ∷ xs) (y ∷ ys) e h =
    let p : (last_cmp xs ys ≡ Equal) × (nat_cmp y x ≡ Equal) = then_equal _ _ h in
    let first : x ≡ y = sym (nat_cmp_equal y x p.1) in
    let rest : xs ≡ ys = last_cmp-equal xs ys (omega arith) p.0 in
    λ i. first i ∷ rest i

-- ---- words

-- a word by its upper lanes, and then the lowest
high_first : (p q x y : ℕ) → x < 65536 → y < 65536 → nat_cmp (q * 65536 + y) (p * 65536 + x) ≡ ordering_then (nat_cmp q p) (nat_cmp y x)
high_first p q x y hx hy = grind (arith, nat_tests)

joined-cmp : (xs ys : List ℕ) → length xs ≡ length ys → ((k : ℕ) → get_or xs k 0 < 65536) → ((k : ℕ) → get_or ys k 0 < 65536) →
    nat_cmp (joined ys) (joined xs) ≡ last_cmp xs ys
joined-cmp [] [] e h g = refl
joined-cmp [] (y ∷ ys) e h g = absurd (omega arith)
joined-cmp (x ∷ xs) [] e h g = absurd (omega arith)
joined-cmp (x ∷ xs) (y ∷ ys) e h g =
    high_first (joined xs) (joined ys) x y (h 0) (g 0)
    ∙ ap (λ o. ordering_then o (nat_cmp y x)) (joined-cmp xs ys (omega arith) (λ k. h (suc k)) (λ k. g (suc k)))

word_cmp : (v w : ℕ) → v < 2 ^ 64 → w < 2 ^ 64 → last_cmp (lanes 4 v) (lanes 4 w) ≡ nat_cmp w v
word_cmp v w fv fw =
    sym (joined-cmp (lanes 4 v) (lanes 4 w) refl (lane-below 4 v) (lane-below 4 w))
    ∙ ((λ i. nat_cmp (joined-lanes 4 w fw i) (joined-lanes 4 v fv i)))

-- words compare the other way, the last first
abbrev pub words_cmp : List ℕ → List ℕ → Ordering
words_cmp [] ws = Equal
words_cmp (v ∷ vs) [] = Equal
words_cmp (v ∷ vs) (w ∷ ws) = ordering_then (words_cmp vs ws) (nat_cmp w v)

spread-cmp : (vs ws : List ℕ) → length vs ≡ length ws → ((k : ℕ) → get_or vs k 0 < 2 ^ 64) → ((k : ℕ) → get_or ws k 0 < 2 ^ 64) →
    last_cmp (spread vs) (spread ws) ≡ words_cmp vs ws
spread-cmp [] [] e h g = refl
spread-cmp [] (w ∷ ws) e h g = absurd (omega arith)
spread-cmp (v ∷ vs) [] e h g = absurd (omega arith)
spread-cmp (v ∷ vs) (w ∷ ws) e h g =
    let first : last_cmp (lanes 4 v) (lanes 4 w) ≡ nat_cmp w v = word_cmp v w (h 0) (g 0) in
    let rest : last_cmp (spread vs) (spread ws) ≡ words_cmp vs ws = spread-cmp vs ws (omega arith) (λ k. h (suc k)) (λ k. g (suc k)) in
    last_cmp-append (lanes 4 v) (lanes 4 w) (spread vs) (spread ws) refl ∙ (λ i. ordering_then (rest i) (first i))

-- ---- rows

module _ (n : ℕ) (a b : Monomial) where
  -- the row of the first variable stands last
  first_behind : (at count : ℕ) →
      rows_cmp (last_first n at (suc count)) a b
      ≡ ordering_then (rows_cmp (last_first n (at + 1) count) a b) (nat_cmp (get_or b at 0) (get_or a at 0))
  first_behind at zero =
      let e : at + 0 ≡ at = omega arith in
      then_none (int_cmp (row_value (row_of (negsuc 0) n (at + 0) 1) a) (row_value (row_of (negsuc 0) n (at + 0) 1) b))
      ∙ (compare_falling n (at + 0) a b ∙ ap (λ k. nat_cmp (get_or b k 0) (get_or a k 0)) e)
  first_behind at (suc count) =
      let row : ℕ → Ordering = λ k. int_cmp (row_value (row_of (negsuc 0) n k 1) a) (row_value (row_of (negsuc 0) n k 1) b) in
      let first : Ordering = nat_cmp (get_or b at 0) (get_or a at 0) in
      let e : at + suc count ≡ at + 1 + count = omega arith in
      ap (λ o. ordering_then (row (at + suc count)) o) (first_behind at count)
      ∙ (ap (λ k. ordering_then (row k) (ordering_then (rows_cmp (last_first n (at + 1) count) a b) first)) e
      ∙ sym (then_assoc (row (at + 1 + count)) (rows_cmp (last_first n (at + 1) count) a b) first))

  -- negative unit rows, the last variable's first
  falling_cmp : (xs ys : List ℕ) (at : ℕ) → length xs ≡ length ys → ((k : ℕ) → get_or a (at + k) 0 ≡ get_or xs k 0) →
      ((k : ℕ) → get_or b (at + k) 0 ≡ get_or ys k 0) → rows_cmp (last_first n at (length xs)) a b ≡ last_cmp xs ys
  falling_cmp [] [] at e h g = refl
  falling_cmp [] (y ∷ ys) at e h g = absurd (omega arith)
  falling_cmp (x ∷ xs) [] at e h g = absurd (omega arith)
  falling_cmp (x ∷ xs) (y ∷ ys) at e h g =
      let z : at + 0 ≡ at = omega arith in
      let s : (k : ℕ) → at + 1 + k ≡ at + suc k = λ k. omega arith in
      let left : get_or a at 0 ≡ x = ap (λ k. get_or a k 0) (sym z) ∙ h 0 in
      let right : get_or b at 0 ≡ y = ap (λ k. get_or b k 0) (sym z) ∙ g 0 in
      let rest : rows_cmp (last_first n (at + 1) (length xs)) a b ≡ last_cmp xs ys =
      falling_cmp xs ys (at + 1) (omega arith) (λ k. ap (λ j. get_or a j 0) (s k) ∙ h (suc k)) (λ k. ap (λ j. get_or b j 0) (s k) ∙ g (suc k)) in
      first_behind at (length xs) ∙ (λ i. ordering_then (rest i) (nat_cmp (right i) (left i)))

  -- the row of ones
  degree_cmp : length a ≡ n → length b ≡ n → int_cmp (row_value (row_of (pos 1) n 0 n) a) (row_value (row_of (pos 1) n 0 n) b) ≡ nat_cmp (sum a) (sum b)
  degree_cmp la lb =
      let one : (m : List ℕ) → length m ≡ n → row_value (row_of (pos 1) n 0 n) m ≡ pos (sum m) =
      λ m l. row_value-row_of (pos 1) n 0 n m ∙ (ap (λ xs. pos 1 *ℤ pos (sum xs)) (take_all n m (omega (arith, l))) ∙ ap pos (omega arith)) in
      (λ i. int_cmp (one a la i) (one b lb i)) ∙ int_cmp-pos (sum a) (sum b)

-- where the degrees are equal, the first exponents need no look
first_follows : (x y : ℕ) (xs ys : List ℕ) → length xs ≡ length ys →
    ordering_then (nat_cmp (sum (x ∷ xs)) (sum (y ∷ ys))) (last_cmp xs ys)
    ≡ ordering_then (nat_cmp (sum (x ∷ xs)) (sum (y ∷ ys))) (last_cmp (x ∷ xs) (y ∷ ys))
first_follows x y xs ys e = by (nat_cmp (sum (x ∷ xs)) (sum (y ∷ ys))) (last_cmp xs ys) refl refl
  where
    same : nat_cmp (sum (x ∷ xs)) (sum (y ∷ ys)) ≡ Equal → last_cmp xs ys ≡ Equal → nat_cmp y x ≡ Equal
    same d l =
        let rest : xs ≡ ys = last_cmp-equal xs ys e l in
        let first : x ≡ y = omega (arith, nat_cmp_equal (sum (x ∷ xs)) (sum (y ∷ ys)) d, ap sum rest, sum_by-cons (λ x. x) x xs, sum_by-cons (λ x. x) y ys) in
        ap (λ z. nat_cmp y z) first ∙ nat_cmp-self y

    by : (o p : Ordering) → nat_cmp (sum (x ∷ xs)) (sum (y ∷ ys)) ≡ o → last_cmp xs ys ≡ p →
        ordering_then o p ≡ ordering_then o (ordering_then p (nat_cmp y x))
    by Less p d l = refl
    by Greater p d l = refl
    by Equal Less d l = refl
    by Equal Greater d l = refl
    by Equal Equal d l = sym (same d l)

-- `dp` by the degree and the last exponents that differ
dp_cmp : (a b : List ℕ) → length a ≡ length b → 1 ≤ length a →
    rows_cmp (dp_rows (length a) 0 (length a)) a b ≡ ordering_then (nat_cmp (sum a) (sum b)) (last_cmp a b)
dp_cmp [] b e one = absurd (omega arith)
dp_cmp (x ∷ xs) [] e one = absurd (omega arith)
dp_cmp (x ∷ xs) (y ∷ ys) e one =
    let n : ℕ = suc (length xs) in
    let m : n - 1 ≡ length xs = omega arith in
    let s : (k : ℕ) → 1 + k ≡ suc k = λ k. omega arith in
    let degrees : int_cmp (row_value (row_of (pos 1) n 0 n) (x ∷ xs)) (row_value (row_of (pos 1) n 0 n) (y ∷ ys)) ≡ nat_cmp (sum (x ∷ xs)) (sum (y ∷ ys)) =
    degree_cmp n (x ∷ xs) (y ∷ ys) refl (sym e) in
    let lasts : rows_cmp (last_first n 1 (n - 1)) (x ∷ xs) (y ∷ ys) ≡ last_cmp xs ys =
    ap (λ k. rows_cmp (last_first n 1 k) (x ∷ xs) (y ∷ ys)) m ∙ falling_cmp n (x ∷ xs) (y ∷ ys) xs ys 1 (omega arith)
    (λ k. ap (λ j. get_or (x ∷ xs) j 0) (s k)) (λ k. ap (λ j. get_or (y ∷ ys) j 0) (s k)) in
    (λ i. ordering_then (degrees i) (lasts i)) ∙ first_follows x y xs ys (omega arith)

-- two monomials by what holds them
module _ (a b : Inside) (m n : List ℕ) (pa : IsPadded a) (pb : IsPadded b) (ea : exponents a ≡ m) (eb : exponents b ≡ n)
    (same : length m ≡ length n) where
  lasts_are : last_cmp m n ≡ words_cmp a.words b.words
  lasts_are =
      let z : List ℕ = replicate (16 - length m) 0 in
      let right : spread b.words ≡ n ++ z = words_are b n pb eb ∙ ap (λ k. n ++ replicate (16 - k) 0) (sym same) in
      sym (ap (λ o. ordering_then o (last_cmp m n)) (last_cmp-self z))
      ∙ (sym (last_cmp-append m n z z same)
      ∙ ((λ i. last_cmp (sym (words_are a m pa ea) i) (sym right i))
      ∙ spread-cmp a.words b.words (pa.four ∙ sym pb.four) pa.whole pb.whole))

  pub graded_cmp :
      ordering_then (ordering_then (ordering_then (ordering_then (nat_cmp a.degree b.degree) (nat_cmp (get_or b.words 3 0) (get_or a.words 3 0)))
      (nat_cmp (get_or b.words 2 0) (get_or a.words 2 0))) (nat_cmp (get_or b.words 1 0) (get_or a.words 1 0))) (nat_cmp (get_or b.words 0 0) (get_or a.words 0 0))
      ≡ rows_cmp (dp_rows (length m) 0 (length m)) m n
  graded_cmp =
      let c : ℕ → Ordering = λ k. nat_cmp (get_or b.words k 0) (get_or a.words k 0) in
      let d : Ordering = nat_cmp a.degree b.degree in
      let four : words_cmp a.words b.words ≡ ordering_then (ordering_then (ordering_then (c 3) (c 2)) (c 1)) (c 0) =
      ap (λ xs. words_cmp xs b.words) (listed 4 a.words pa.four) ∙ ap (λ ys. words_cmp (from_at 4 0 a.words) ys) (listed 4 b.words pb.four) in
      let group : ordering_then (ordering_then (ordering_then (ordering_then d (c 3)) (c 2)) (c 1)) (c 0)
      ≡ ordering_then d (ordering_then (ordering_then (ordering_then (c 3) (c 2)) (c 1)) (c 0)) = regroup d (c 3) (c 2) (c 1) (c 0) in
      let left : a.degree ≡ sum m = sym pa.total ∙ ap sum ea in
      let right : b.degree ≡ sum n = sym pb.total ∙ ap sum eb in
      group
      ∙ (ap (λ o. ordering_then d o) (sym (lasts_are ∙ four))
      ∙ ((λ i. ordering_then (nat_cmp (left i) (right i)) (last_cmp m n))
      ∙ sym (dp_cmp m n same (omega (arith, length_is a m pa ea, pa.not_empty)))))
    where
      regroup : (o p q r s : Ordering) → ordering_then (ordering_then (ordering_then (ordering_then o p) q) r) s
          ≡ ordering_then o (ordering_then (ordering_then (ordering_then p q) r) s)
      regroup Less p q r s = refl
      regroup Equal p q r s = refl
      regroup Greater p q r s = refl

-- a `dp` that covers the n variables alone
pub dp_alone : (n : ℕ) (blocks : List Block) (len : ℕ) → blocks ≡ DegRev len ∷ [] → Covers n blocks → blocks_rows n 0 blocks ≡ dp_rows n 0 n
dp_alone n blocks len is h =
    let all : sum (map block_len blocks) ≡ len = ap (λ bs. sum (map block_len bs)) is ∙ sum_by-cons (λ x. x) len [] ∙ omega arith in
    ap (λ bs. blocks_rows n 0 bs) is
    ∙ (append-nil (dp_rows n 0 len) ∙ ap (λ k. dp_rows n 0 k) (sym all ∙ h.all))
