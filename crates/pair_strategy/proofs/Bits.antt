-- Bits in words, and the numbers of the jobs that they stand for.
use Rattle.std.proofs.Common.{◌≡◌, ◌≢◌, ℕ, zero, suc, ◌+◌, ◌-◌, ◌*◌, ◌/◌, ◌%◌, ◌<◌, ◌≤◌, ◌⊎◌, inl, inr, Bool, true, false, not, ◌||◌, ◌&&◌, ◌==◌, List, length, get_or, set, replicate, refl, sym, ap, ◌∙◌, subst, arith, get_or-set_same, get_or-set_other, true≢false, eqb-true}
use Rattle.std.specs.Int.{bit_at}
use Rattle.std.proofs.lemmas.List.{get_or_default, get_or_past}
use Rattle.std.proofs.lemmas.Nat.Bits.{bit_at-zero}
use Rattle.std.specs.Cmp.{both_ways}
use Rattle.monomials.proofs.Exponents.{get_or-zeros}
use Rattle.word_model.specs.Jobs.{same_job, IsJob}
use Rattle.word_model.specs.declared.records.Job.{Job}
use Rattle.word_model.specs.declared.records.Job.TheVariants.{Seed, Pair, Right}
use Rattle.word_model.proofs.JobLists.{same_job-is, same_job-itself}
use Rattle.pair_strategy.specs.Inside.Marks.{bit_number, bit_of, is_marked}
use Rattle.pair_strategy.proofs.Places.{which, below_or, eqb-itself}

-- ---- numbers of jobs

-- a column of pairs begins behind the one before
column-next : (j : ℕ) → (j + 1) * j / 2 ≡ j * (j - 1) / 2 + j
column-next zero = refl
column-next (suc j) =
    let less : suc j - 1 ≡ j = omega arith in
    let twice : (suc j + 1) * suc j ≡ suc j * j + suc j * 2 = omega arith in
    let halves : (suc j * j + suc j * 2) / 2 ≡ suc j * j / 2 + suc j = omega arith in
    ap (λ n. n / 2) twice ∙ halves ∙ ap (λ n. suc j * n / 2 + suc j) (sym less)

columns-apart : (j k : ℕ) → j < k → j * (j - 1) / 2 + j ≤ k * (k - 1) / 2
columns-apart j zero less = absurd (omega arith)
columns-apart j (suc k) less = by (which j k) (columns-apart j k)
  where
    here : suc k * (suc k - 1) / 2 ≡ k * (k - 1) / 2 + k
    here =
        let one : suc k ≡ k + 1 = omega arith in
        let back : suc k - 1 ≡ k = omega arith in
        ap (λ n. suc k * n / 2) back ∙ ap (λ n. n * k / 2) one ∙ column-next k

    by : (j ≡ k) ⊎ (j ≢ k) → (j < k → j * (j - 1) / 2 + j ≤ k * (k - 1) / 2) → j * (j - 1) / 2 + j ≤ suc k * (suc k - 1) / 2
    by (inl e) ih = subst (λ n. n * (n - 1) / 2 + n ≤ suc k * (suc k - 1) / 2) (sym e) (omega (arith, here))
    by (inr ne) ih = omega (arith, here, ih (omega arith))

pair-below : (i j : ℕ) → i < j → j ≤ 2048 → j * (j - 1) / 2 + i < 2098176
pair-below i j below high = omega (arith, columns-apart j 2049 (omega arith))

pairs-same : (i j k l : ℕ) → i < j → k < l → j * (j - 1) / 2 + i ≡ l * (l - 1) / 2 + k → Pair i j ≡ Pair k l
pairs-same i j k l below under e = by (which j l)
  where
    apart : (j < l) ⊎ (l ≤ j) → (j ≢ l) → Pair i j ≡ Pair k l
    apart (inl less) ne = absurd (omega (arith, e, columns-apart j l less))
    apart (inr le) ne = absurd (omega (arith, e, columns-apart l j (omega arith)))

    by : (j ≡ l) ⊎ (j ≢ l) → Pair i j ≡ Pair k l
    by (inl same) =
        let column : j * (j - 1) / 2 ≡ l * (l - 1) / 2 = ap (λ n. n * (n - 1) / 2) same in
        let row : i ≡ k = omega (arith, e, column) in
        (λ t. Pair (row t) (same t))
    by (inr ne) = apart (below_or j l) ne

-- two jobs that have bits, and the same number, are the same
number-is : (a b : Job) → IsJob 4096 2048 16 a → IsJob 4096 2048 16 b → bit_number a ≡ bit_number b → a ≡ b
number-is (Pair i j) (Pair k l) h g e = pairs-same i j k l h.1 g.1 e
number-is (Pair i j) (Right k v) h g e = absurd (omega (arith, pair-below i j h.1 h.2))
number-is (Pair i j) (Seed s) h g e = absurd (omega (arith, pair-below i j h.1 h.2))
number-is (Right i v) (Pair k l) h g e = absurd (omega (arith, pair-below k l g.1 g.2))
number-is (Right i v) (Right k w) h g e =
    let row : i ≡ k = omega (arith, h.3, g.3) in
    let variable : v ≡ w = omega (arith, h.3, g.3) in
    (λ t. Right (row t) (variable t))
number-is (Right i v) (Seed s) h g e = absurd (omega (arith, h.1, h.3))
number-is (Seed s) (Pair k l) h g e = absurd (omega (arith, pair-below k l g.1 g.2))
number-is (Seed s) (Right k w) h g e = absurd (omega (arith, g.1, g.3))
number-is (Seed s) (Seed t) h g e =
    let same : s ≡ t = omega arith in
    ap Seed same

number-same : (a b : Job) → IsJob 4096 2048 16 a → IsJob 4096 2048 16 b → (bit_number a == bit_number b) ≡ same_job a b
number-same a b h g = both_ways (bit_number a == bit_number b) (same_job a b) there back
  where
    there : (bit_number a == bit_number b) ≡ true → same_job a b ≡ true
    there e = ap (same_job a) (sym (number-is a b h g (eqb-true (bit_number a) (bit_number b) e))) ∙ same_job-itself a

    back : same_job a b ≡ true → (bit_number a == bit_number b) ≡ true
    back e = ap (λ job. bit_number a == bit_number job) (sym (same_job-is a b e)) ∙ eqb-itself (bit_number a)

pub number-in_range : (a : Job) → IsJob 4096 2048 16 a → bit_number a < 2137152
number-in_range (Pair i j) h = omega (arith, pair-below i j h.1 h.2)
number-in_range (Right i v) h = omega (arith, h.1, h.3)
number-in_range (Seed s) h = omega (arith, h.1)

-- ---- one bit in one word

module _ (words : List ℕ) (k word : ℕ) (long : k / 64 < length words) where
  places : (m : ℕ) → (m == k) ≡ false → m / 64 ≡ k / 64 → m % 64 ≢ k % 64
  places m other same rest =
      let whole : m ≡ k = omega (arith, same, rest) in
      absurd (true≢false (sym (ap (λ n. n == k) whole ∙ eqb-itself k) ∙ other))

  -- a word in its place that has the bit, and else what was there
  pub bit-set : bit_at word (k % 64) ≡ 1 → ((i : ℕ) → i ≢ k % 64 → bit_at word i ≡ bit_at (get_or words (k / 64) 0) i)
      → (m : ℕ) → bit_of (set words (k / 64) word) m ≡ (m == k || bit_of words m)
  bit-set here others m = by (m == k) refl (which (m / 64) (k / 64))
    where
      by : (t : Bool) → (m == k) ≡ t → (m / 64 ≡ k / 64) ⊎ (m / 64 ≢ k / 64) → bit_of (set words (k / 64) word) m ≡ (t || bit_of words m)
      by true e w =
          let same : m ≡ k = eqb-true m k e in
          ap (λ n. bit_of (set words (k / 64) word) n) same
          ∙ ap (λ x. bit_at x (k % 64) == 1) (get_or-set_same words (k / 64) word 0 long)
          ∙ ap (λ x. x == 1) here
      by false e (inl w) =
          ap (λ n. bit_at (get_or (set words (k / 64) word) n 0) (m % 64) == 1) w
          ∙ ap (λ x. bit_at x (m % 64) == 1) (get_or-set_same words (k / 64) word 0 long)
          ∙ ap (λ x. x == 1) (others (m % 64) (places m e w))
          ∙ ap (λ n. bit_at (get_or words n 0) (m % 64) == 1) (sym w)
      by false e (inr w) = ap (λ x. bit_at x (m % 64) == 1) (get_or-set_other words (k / 64) (m / 64) word 0 w)

  -- one that has not the bit
  pub bit-clear : bit_at word (k % 64) ≡ 0 → ((i : ℕ) → i < 64 → i ≢ k % 64 → bit_at word i ≡ bit_at (get_or words (k / 64) 0) i)
      → (m : ℕ) → bit_of (set words (k / 64) word) m ≡ (not (m == k) && bit_of words m)
  bit-clear here others m = by (m == k) refl (which (m / 64) (k / 64))
    where
      by : (t : Bool) → (m == k) ≡ t → (m / 64 ≡ k / 64) ⊎ (m / 64 ≢ k / 64) → bit_of (set words (k / 64) word) m ≡ (not t && bit_of words m)
      by true e w =
          let same : m ≡ k = eqb-true m k e in
          ap (λ n. bit_of (set words (k / 64) word) n) same
          ∙ ap (λ x. bit_at x (k % 64) == 1) (get_or-set_same words (k / 64) word 0 long)
          ∙ ap (λ x. x == 1) here
      by false e (inl w) =
          ap (λ n. bit_at (get_or (set words (k / 64) word) n 0) (m % 64) == 1) w
          ∙ ap (λ x. bit_at x (m % 64) == 1) (get_or-set_same words (k / 64) word 0 long)
          ∙ ap (λ x. x == 1) (others (m % 64) (omega arith) (places m e w))
          ∙ ap (λ n. bit_at (get_or words n 0) (m % 64) == 1) (sym w)
      by false e (inr w) = ap (λ x. bit_at x (m % 64) == 1) (get_or-set_other words (k / 64) (m / 64) word 0 w)

-- ---- the bits of jobs

module _ (words : List ℕ) (job : Job) (h : IsJob 4096 2048 16 job) (made : length words ≡ 33393) (n : ℕ) (number : n ≡ bit_number job) (old word : ℕ)
    (was : old ≡ get_or words (n / 64) old) where
  long : n / 64 < length words
  long = omega (arith, number, number-in_range job h, made)

  -- the word at the bit's place
  there : old ≡ get_or words (n / 64) 0
  there = was ∙ get_or_default words (n / 64) old 0 long

  same : (other : Job) → IsJob 4096 2048 16 other → (bit_number other == n) ≡ same_job other job
  same other g = ap (λ m. bit_number other == m) number ∙ number-same other job g h

  pub marked-set : bit_at word (n % 64) ≡ 1 → ((i : ℕ) → i ≢ n % 64 → bit_at word i ≡ bit_at old i)
      → (other : Job) → IsJob 4096 2048 16 other → is_marked (set words (n / 64) word) other ≡ (same_job other job || is_marked words other)
  marked-set here others other g =
      bit-set words n word long here (λ i ne. others i ne ∙ ap (λ x. bit_at x i) there) (bit_number other)
      ∙ ap (λ t. t || is_marked words other) (same other g)

  pub marked-clear : bit_at word (n % 64) ≡ 0 → ((i : ℕ) → i < 64 → i ≢ n % 64 → bit_at word i ≡ bit_at old i)
      → (other : Job) → IsJob 4096 2048 16 other → is_marked (set words (n / 64) word) other ≡ (not (same_job other job) && is_marked words other)
  marked-clear here others other g =
      bit-clear words n word long here (λ i low ne. others i low ne ∙ ap (λ x. bit_at x i) there) (bit_number other)
      ∙ ap (λ t. not t && is_marked words other) (same other g)

-- no bit is set where there is no word, or where all are zero
pub unmarked-past : (words : List ℕ) (k : ℕ) → length words ≤ k / 64 → bit_of words k ≡ false
unmarked-past words k past =
    ap (λ x. bit_at x (k % 64) == 1) (get_or_past words (k / 64) 0 past) ∙ ap (λ x. x == 1) (bit_at-zero (k % 64))

pub unmarked-zeros : (n k : ℕ) → bit_of (replicate n 0) k ≡ false
unmarked-zeros n k = ap (λ x. bit_at x (k % 64) == 1) (get_or-zeros n (k / 64)) ∙ ap (λ x. x == 1) (bit_at-zero (k % 64))
