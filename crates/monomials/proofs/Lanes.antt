-- Lanes of words.
use Rattle.std.proofs.Common.{◌≡◌, ℕ, zero, suc, ◌+◌, ◌*◌, ◌/◌, ◌%◌, ◌^◌, ◌-◌, ◌≤◌, ◌<◌, nat_le, nat_eq, ◌&&◌, List, [], ◌∷◌, length, replicate, ◌++◌, get_or, max, arith, refl, sym, ◌∙◌, ap, inl, inr, Bool}
use Rattle.std.specs.Bool.{Decides}
use Rattle.std.specs.Int.Bits.{bit_and}
use Rattle.std.proofs.lemmas.Nat.{and_block, mod_low, shr_high, and_mask, shr-shr}
use Rattle.std.proofs.Math.ListN.{set}
use Rattle.std.proofs.lemmas.List.{get_or_past, set-append_left}
use Rattle.std.proofs.lemmas.Nat.Bits.{and_pow}
use Rattle.std.proofs.Math.Bool.{and_assoc}
use Rattle.std.proofs.lemmas.Bool.Decides.{same_from_decides, Decides-eqb}
use Rattle.std.proofs.lemmas.Bool.{cases_lt, and_parts, and_from, leb-true, le-leb}
use Rattle.monomials.specs.Monomials.{zip_with, divides}
use Rattle.monomials.specs.Words.{lanes, joined, spread, AreSmall, joined-lanes}

-- lanes back from the word
pub lanes-joined : (xs : List ℕ) → ((k : ℕ) → get_or xs k 0 < 65536) → lanes (length xs) (joined xs) ≡ xs
lanes-joined [] h = refl
lanes-joined (x ∷ xs) h =
    let low : (joined xs * 65536 + x) % 65536 ≡ x = mod_low (joined xs) 16 x (h 0) in
    let high : (joined xs * 65536 + x) / 65536 ≡ joined xs = shr_high (joined xs) 16 x (h 0) in
    rw (low, high) (ap (λ ys. x ∷ ys) (lanes-joined xs (λ k. h (suc k))))

pub lane-below : (k w i : ℕ) → get_or (lanes k w) i 0 < 65536
lane-below zero w i = omega arith
lane-below (suc k) w zero = omega arith
lane-below (suc k) w (suc i) = lane-below k (w / 65536) i

-- sums and differences of words
pub joined-plus : (xs ys : List ℕ) → length xs ≡ length ys → joined (zip_with (λ x y. x + y) xs ys) ≡ joined xs + joined ys
joined-plus [] [] e = refl
joined-plus [] (y ∷ ys) e = absurd (omega arith)
joined-plus (x ∷ xs) [] e = absurd (omega arith)
joined-plus (x ∷ xs) (y ∷ ys) e = omega (arith, joined-plus xs ys (omega arith))

pub joined-le : (xs ys : List ℕ) → length xs ≡ length ys → ((k : ℕ) → get_or xs k 0 ≤ get_or ys k 0) → joined xs ≤ joined ys
joined-le [] [] e h = omega arith
joined-le [] (y ∷ ys) e h = absurd (omega arith)
joined-le (x ∷ xs) [] e h = absurd (omega arith)
joined-le (x ∷ xs) (y ∷ ys) e h = omega (arith, h 0, joined-le xs ys (omega arith) (λ k. h (suc k)))

pub joined-minus : (xs ys : List ℕ) → length xs ≡ length ys → ((k : ℕ) → get_or ys k 0 ≤ get_or xs k 0) →
    joined (zip_with (λ x y. x - y) xs ys) ≡ joined xs - joined ys
joined-minus [] [] e h = refl
joined-minus [] (y ∷ ys) e h = absurd (omega arith)
joined-minus (x ∷ xs) [] e h = absurd (omega arith)
joined-minus (x ∷ xs) (y ∷ ys) e h =
    omega (arith, h 0, joined-minus xs ys (omega arith) (λ k. h (suc k)), joined-le ys xs (omega arith) (λ k. h (suc k)))

-- the top bit of each of `k` lanes
abbrev pub tops : ℕ → ℕ
tops k = joined (replicate k 32768)

-- the difference of two lanes, with the second's top bit set
abbrev pub gap : ℕ → ℕ → ℕ
gap x y = y + 32768 - x

-- its top bit
abbrev pub top : ℕ → ℕ → ℕ
top x y = gap x y / 32768 % 2

pub small_tops : (xs : List ℕ) → AreSmall xs → joined xs ≤ tops (length xs)
small_tops [] h = omega arith
small_tops (x ∷ xs) h = omega (arith, h 0, small_tops xs (λ k. h (suc k)))

-- the top bits of all differences at once
pub tops_are : (xs ys : List ℕ) → length xs ≡ length ys → AreSmall xs → AreSmall ys →
    bit_and (joined ys + tops (length xs) - joined xs) (tops (length xs)) ≡ joined (zip_with top xs ys) * 32768
tops_are [] [] e h g = refl
tops_are [] (y ∷ ys) e h g = absurd (omega arith)
tops_are (x ∷ xs) [] e h g = absurd (omega arith)
tops_are (x ∷ xs) (y ∷ ys) e h g =
    let q : ℕ = joined ys + tops (length xs) - joined xs in
    let t : ℕ = tops (length xs) in
    let split : joined ys * 65536 + y + (t * 65536 + 32768) - (joined xs * 65536 + x) ≡ q * 65536 + gap x y =
    omega (arith, h 0, g 0, small_tops xs (λ k. h (suc k))) in
    let under : gap x y < 65536 = omega (arith, h 0, g 0) in
    let ih : bit_and q t ≡ joined (zip_with top xs ys) * 32768 = tops_are xs ys (omega arith) (λ k. h (suc k)) (λ k. g (suc k)) in
    let lane : bit_and (gap x y) 32768 ≡ top x y * 32768 = and_pow (gap x y) 15 in
    let both : bit_and (q * 65536 + gap x y) (t * 65536 + 32768) ≡ bit_and q t * 65536 + bit_and (gap x y) 32768 =
    and_block 16 q t (gap x y) 32768 under (omega arith) in
    ap (λ n. bit_and n (t * 65536 + 32768)) split ∙ (both ∙ omega (arith, ih, lane))

pub top-le : (x y : ℕ) → top x y ≤ 1
top-le x y = omega arith

pub top_one : (x y : ℕ) → y ≤ 32767 → x ≤ y → top x y ≡ 1
top_one x y g h = omega arith

pub top_zero : (x y : ℕ) → x ≤ 32767 → y < x → top x y ≡ 0
top_zero x y h l = omega arith

-- whether each lane of the first is at most that of the second, all at once
pub tested : (xs ys : List ℕ) → length xs ≡ length ys → AreSmall xs → AreSmall ys →
    Decides (divides xs ys) (joined (zip_with top xs ys) * 32768 ≡ tops (length xs))
tested [] [] e h g = (λ t. refl, λ t. refl)
tested [] (y ∷ ys) e h g = absurd (omega arith)
tested (x ∷ xs) [] e h g = absurd (omega arith)
tested (x ∷ xs) (y ∷ ys) e h g =
    let ih : Decides (divides xs ys) (joined (zip_with top xs ys) * 32768 ≡ tops (length xs)) =
    tested xs ys (omega arith) (λ k. h (suc k)) (λ k. g (suc k)) in (
      λ t.
          omega (
            arith,
            ih.0 (and_parts (nat_le x y) _ t).1,
            top_one x y (g 0) (leb-true x y (and_parts _ (divides xs ys) t).0),
          ),
      λ t.
          and_from _ _ (le-leb x y (below (omega (arith, t, top-le x y)))) (ih.1 (omega (arith, t, top-le x y))),
    )
  where
    below : top x y ≡ 1 → x ≤ y
    below one =
        elim (cases_lt y x) [
          | inl less ↦ absurd (omega (arith, one, top_zero x y (h 0) less))
          | inr le ↦ le
        ]

-- the greater of two lanes
pub lane_max : (x y : ℕ) → x ≤ 32767 → y ≤ 32767 → x + bit_and (gap x y) (top x y * 32767) ≡ max x y
lane_max x y h g =
    elim (cases_lt y x) [
      | inl less ↦
          let none : bit_and (gap x y) 0 ≡ gap x y % 1 = and_mask (gap x y) 0 in
          rw (top_zero x y h less) (omega (arith, none))
      | inr le ↦
          let rest : bit_and (gap x y) 32767 ≡ gap x y % 32768 = and_mask (gap x y) 15 in
          rw (top_one x y g le) (omega (arith, rest))
    ]

-- the greater lanes all at once
pub maxima_are : (xs ys : List ℕ) → length xs ≡ length ys → AreSmall xs → AreSmall ys →
    joined xs + bit_and (joined ys + tops (length xs) - joined xs) (joined (zip_with top xs ys) * 32767)
    ≡ joined (zip_with (λ x y. max x y) xs ys)
maxima_are [] [] e h g = refl
maxima_are [] (y ∷ ys) e h g = absurd (omega arith)
maxima_are (x ∷ xs) [] e h g = absurd (omega arith)
maxima_are (x ∷ xs) (y ∷ ys) e h g =
    let t : ℕ = tops (length xs) in
    let q : ℕ = joined ys + t - joined xs in
    let m : ℕ = joined (zip_with top xs ys) in
    let split : joined ys * 65536 + y + (t * 65536 + 32768) - (joined xs * 65536 + x) ≡ q * 65536 + gap x y =
    omega (arith, h 0, g 0, small_tops xs (λ k. h (suc k))) in
    let times : (m * 65536 + top x y) * 32767 ≡ m * 32767 * 65536 + top x y * 32767 = omega arith in
    let under : gap x y < 65536 = omega (arith, h 0, g 0) in
    let both : bit_and (q * 65536 + gap x y) (m * 32767 * 65536 + top x y * 32767)
    ≡ bit_and q (m * 32767) * 65536 + bit_and (gap x y) (top x y * 32767) =
    and_block 16 q (m * 32767) (gap x y) (top x y * 32767) under (omega (arith, top-le x y)) in
    let ih : joined xs + bit_and q (m * 32767) ≡ joined (zip_with (λ x y. max x y) xs ys) =
    maxima_are xs ys (omega arith) (λ k. h (suc k)) (λ k. g (suc k)) in
    rw (split, times, both) (omega (arith, ih, lane_max x y (h 0) (g 0)))

-- one lane, by shift and mask
pub lane_is : (k w i : ℕ) → i < k → get_or (lanes k w) i 0 ≡ w / 2 ^ (16 * i) % 65536
lane_is zero w i h = absurd (omega arith)
lane_is (suc k) w zero h = ap (λ n. n % 65536) (sym (shr_none w))
  where
    shr_none : (w : ℕ) → w / 2 ^ (16 * 0) ≡ w
    shr_none w = omega arith
lane_is (suc k) w (suc i) h =
    let n : 16 * suc i ≡ 16 + 16 * i = omega arith in
    lane_is k (w / 65536) i (omega arith) ∙ ap (λ n. n % 65536) (shr-shr w 16 (16 * i) ∙ ap (λ n. w / 2 ^ n) (sym n))

-- small lanes are at most these
pub small_most : (xs : List ℕ) → AreSmall xs → joined xs ≤ joined (replicate (length xs) 32767)
small_most [] h = omega arith
small_most (x ∷ xs) h = omega (arith, h 0, small_most xs (λ k. h (suc k)))

pub small_maxima : (xs ys : List ℕ) → AreSmall xs → AreSmall ys → AreSmall (zip_with (λ x y. max x y) xs ys)
small_maxima [] ys h g k = omega arith
small_maxima (x ∷ xs) [] h g k = omega arith
small_maxima (x ∷ xs) (y ∷ ys) h g zero = omega (arith, h 0, g 0)
small_maxima (x ∷ xs) (y ∷ ys) h g (suc k) = small_maxima xs ys (λ k. h (suc k)) (λ k. g (suc k)) k

pub small_below : (xs : List ℕ) → AreSmall xs → (k : ℕ) → get_or xs k 0 < 65536
small_below xs h k = omega (arith, h k)

-- two words of four small lanes
module _ (x y : ℕ) (fx : x < 2 ^ 64) (fy : y < 2 ^ 64) (sx : AreSmall (lanes 4 x)) (sy : AreSmall (lanes 4 y)) where
  left_is : joined (lanes 4 x) ≡ x
  left_is = joined-lanes 4 x fx

  right_is : joined (lanes 4 y) ≡ y
  right_is = joined-lanes 4 y fy

  pub no_carry : y + 9223512776490647552 < 2 ^ 64
  no_carry = omega (arith, right_is, small_most (lanes 4 y) sy)

  pub no_borrow : x ≤ y + 9223512776490647552
  no_borrow = omega (arith, left_is, small_tops (lanes 4 x) sx)

  pub word_tops : bit_and (y + 9223512776490647552 - x) 9223512776490647552 ≡ joined (zip_with top (lanes 4 x) (lanes 4 y)) * 32768
  word_tops =
      let all : bit_and (joined (lanes 4 y) + 9223512776490647552 - joined (lanes 4 x)) 9223512776490647552
      ≡ joined (zip_with top (lanes 4 x) (lanes 4 y)) * 32768 = tops_are (lanes 4 x) (lanes 4 y) refl sx sy in
      ap (λ n. bit_and (n + 9223512776490647552 - x) 9223512776490647552) (sym right_is)
      ∙ (ap (λ n. bit_and (joined (lanes 4 y) + 9223512776490647552 - n) 9223512776490647552) (sym left_is) ∙ all)

  pub divides_word : nat_eq (bit_and (y + 9223512776490647552 - x) 9223512776490647552) 9223512776490647552 ≡ divides (lanes 4 x) (lanes 4 y)
  divides_word =
      ap (λ n. nat_eq n 9223512776490647552) word_tops
      ∙ same_from_decides (nat_eq (joined (zip_with top (lanes 4 x) (lanes 4 y)) * 32768) 9223512776490647552) (divides (lanes 4 x) (lanes 4 y))
      (Decides-eqb (joined (zip_with top (lanes 4 x) (lanes 4 y)) * 32768) 9223512776490647552)
      (tested (lanes 4 x) (lanes 4 y) refl sx sy)

  -- the word of the greater lanes
  abbrev pub greater : ℕ
  greater =
      x + bit_and (y + 9223512776490647552 - x)
      (bit_and (y + 9223512776490647552 - x) 9223512776490647552 - bit_and (y + 9223512776490647552 - x) 9223512776490647552 / 32768)

  pub greater_is : greater ≡ joined (zip_with (λ a b. max a b) (lanes 4 x) (lanes 4 y))
  greater_is =
      let m : ℕ = joined (zip_with top (lanes 4 x) (lanes 4 y)) in
      let t : ℕ = bit_and (y + 9223512776490647552 - x) 9223512776490647552 in
      let rest : t - t / 32768 ≡ m * 32767 = omega (arith, word_tops) in
      let all : joined (lanes 4 x) + bit_and (joined (lanes 4 y) + 9223512776490647552 - joined (lanes 4 x)) (m * 32767)
      ≡ joined (zip_with (λ a b. max a b) (lanes 4 x) (lanes 4 y)) = maxima_are (lanes 4 x) (lanes 4 y) refl sx sy in
      ap (λ n. x + bit_and (y + 9223512776490647552 - x) n) rest
      ∙ (ap (λ n. n + bit_and (y + 9223512776490647552 - n) (m * 32767)) (sym left_is)
      ∙ (ap (λ n. joined (lanes 4 x) + bit_and (n + 9223512776490647552 - joined (lanes 4 x)) (m * 32767)) (sym right_is) ∙ all))

  pub greater_fits : greater < 2 ^ 64
  greater_fits =
      omega (arith, greater_is, small_most (zip_with (λ a b. max a b) (lanes 4 x) (lanes 4 y)) (small_maxima (lanes 4 x) (lanes 4 y) sx sy))

  pub greater_lanes : lanes 4 greater ≡ zip_with (λ a b. max a b) (lanes 4 x) (lanes 4 y)
  greater_lanes =
      ap (λ n. lanes 4 n) greater_is
      ∙ lanes-joined (zip_with (λ a b. max a b) (lanes 4 x) (lanes 4 y))
      (small_below (zip_with (λ a b. max a b) (lanes 4 x) (lanes 4 y)) (small_maxima (lanes 4 x) (lanes 4 y) sx sy))

-- the lanes of words, word by word
pub spread_first : (w i : ℕ) (ws : List ℕ) → i < 4 → get_or (lanes 4 w) i 0 ≡ get_or (lanes 4 w ++ ws) i 0
spread_first w zero ws h = refl
spread_first w (suc zero) ws h = refl
spread_first w (suc (suc zero)) ws h = refl
spread_first w (suc (suc (suc zero))) ws h = refl
spread_first w (suc (suc (suc (suc i)))) ws h = absurd (omega arith)

pub spread_at : (ws : List ℕ) (k i : ℕ) → i < 4 → get_or (lanes 4 (get_or ws k 0)) i 0 ≡ get_or (spread ws) (4 * k + i) 0
spread_at [] k zero h = refl
spread_at [] k (suc zero) h = refl
spread_at [] k (suc (suc zero)) h = refl
spread_at [] k (suc (suc (suc zero))) h = refl
spread_at [] k (suc (suc (suc (suc i)))) h = absurd (omega arith)
spread_at (w ∷ ws) zero i h = let n : 4 * 0 + i ≡ i = omega arith in rw n (spread_first w i (spread ws) h)
spread_at (w ∷ ws) (suc k) i h =
    let n : 4 * suc k + i ≡ suc (suc (suc (suc (4 * k + i)))) = omega arith in rw n (spread_at ws k i h)

-- one lane of all
pub lane_at : (ws : List ℕ) (k : ℕ) → get_or (lanes 4 (get_or ws (k / 4) 0)) (k % 4) 0 ≡ get_or (spread ws) k 0
lane_at ws k =
    let e : 4 * (k / 4) + k % 4 ≡ k = omega arith in spread_at ws (k / 4) (k % 4) (omega arith) ∙ ap (λ n. get_or (spread ws) n 0) e

-- at most a bound at each lane of each word
pub word_lanes-le : (ws : List ℕ) (n : ℕ) → ((k : ℕ) → get_or (spread ws) k 0 ≤ n) → (k i : ℕ) → get_or (lanes 4 (get_or ws k 0)) i 0 ≤ n
word_lanes-le ws n h k i =
    elim (cases_lt i 4) [
      | inl below ↦ omega (arith, spread_at ws k i below, h (4 * k + i))
      | inr past ↦ omega (arith, get_or_past (lanes 4 (get_or ws k 0)) i 0 past)
    ]

pub word_lanes-same : (vs ws : List ℕ) → ((k : ℕ) → get_or (spread vs) k 0 ≤ get_or (spread ws) k 0) →
    (k i : ℕ) → get_or (lanes 4 (get_or vs k 0)) i 0 ≤ get_or (lanes 4 (get_or ws k 0)) i 0
word_lanes-same vs ws h k i =
    elim (cases_lt i 4) [
      | inl below ↦ omega (arith, spread_at vs k i below, spread_at ws k i below, h (4 * k + i))
      | inr past ↦ omega (arith, get_or_past (lanes 4 (get_or vs k 0)) i 0 past)
    ]

-- an operation on words that is one on each lane
pub spread_zip : (F f : ℕ → ℕ → ℕ) (vs ws : List ℕ) → length vs ≡ length ws →
    ((k : ℕ) → k < length vs → lanes 4 (F (get_or vs k 0) (get_or ws k 0)) ≡ zip_with f (lanes 4 (get_or vs k 0)) (lanes 4 (get_or ws k 0))) →
    spread (zip_with F vs ws) ≡ zip_with f (spread vs) (spread ws)
spread_zip F f [] [] e h = refl
spread_zip F f [] (w ∷ ws) e h = absurd (omega arith)
spread_zip F f (v ∷ vs) [] e h = absurd (omega arith)
spread_zip F f (v ∷ vs) (w ∷ ws) e h =
    let rest : spread (zip_with F vs ws) ≡ zip_with f (spread vs) (spread ws) =
    spread_zip F f vs ws (omega arith) (λ k b. h (suc k) (omega (arith, b))) in
    ap (λ xs. xs ++ spread (zip_with F vs ws)) (h 0 (omega arith)) ∙ ap (λ xs. zip_with f (lanes 4 v) (lanes 4 w) ++ xs) rest

-- the test on words, word by word
pub spread-divides : (v w : ℕ) (vs ws : List ℕ) → divides (spread (v ∷ vs)) (spread (w ∷ ws)) ≡ (divides (lanes 4 v) (lanes 4 w) && divides (spread vs) (spread ws))
spread-divides v w vs ws = grind (arith)

pub small_sums : (xs ys : List ℕ) (p q : ℕ) → p + q ≤ 32767 → ((k : ℕ) → get_or xs k 0 ≤ p) → ((k : ℕ) → get_or ys k 0 ≤ q) →
    AreSmall (zip_with (λ x y. x + y) xs ys)
small_sums [] ys p q s h g k = omega arith
small_sums (x ∷ xs) [] p q s h g k = omega arith
small_sums (x ∷ xs) (y ∷ ys) p q s h g zero = omega (arith, h 0, g 0, s)
small_sums (x ∷ xs) (y ∷ ys) p q s h g (suc k) = small_sums xs ys p q s (λ k. h (suc k)) (λ k. g (suc k)) k

pub small_rests : (xs ys : List ℕ) → AreSmall xs → AreSmall (zip_with (λ x y. x - y) xs ys)
small_rests [] ys h k = omega arith
small_rests (x ∷ xs) [] h k = omega arith
small_rests (x ∷ xs) (y ∷ ys) h zero = omega (arith, h 0)
small_rests (x ∷ xs) (y ∷ ys) h (suc k) = small_rests xs ys (λ k. h (suc k)) k

-- the sum of two words is that of their lanes
pub word_plus : (x y : ℕ) → x < 2 ^ 64 → y < 2 ^ 64 → AreSmall (zip_with (λ x y. x + y) (lanes 4 x) (lanes 4 y)) →
    (x + y < 2 ^ 64) × (lanes 4 (x + y) ≡ zip_with (λ x y. x + y) (lanes 4 x) (lanes 4 y))
word_plus x y fx fy s =
    let zs : List ℕ = zip_with (λ x y. x + y) (lanes 4 x) (lanes 4 y) in
    let e : x + y ≡ joined zs = omega (arith, joined-plus (lanes 4 x) (lanes 4 y) refl, joined-lanes 4 x fx, joined-lanes 4 y fy) in (
      omega (arith, e, small_most zs s),
      ap (λ n. lanes 4 n) e ∙ lanes-joined zs (small_below zs s),
    )

-- and the difference, where no lane of the second is greater
pub word_minus : (x y : ℕ) → x < 2 ^ 64 → y < 2 ^ 64 → AreSmall (lanes 4 x) → ((k : ℕ) → get_or (lanes 4 y) k 0 ≤ get_or (lanes 4 x) k 0) →
    (y ≤ x) × (lanes 4 (x - y) ≡ zip_with (λ x y. x - y) (lanes 4 x) (lanes 4 y))
word_minus x y fx fy s h =
    let zs : List ℕ = zip_with (λ x y. x - y) (lanes 4 x) (lanes 4 y) in
    let le : joined (lanes 4 y) ≤ joined (lanes 4 x) = joined-le (lanes 4 y) (lanes 4 x) refl h in
    let ex : joined (lanes 4 x) ≡ x = joined-lanes 4 x fx in
    let ey : joined (lanes 4 y) ≡ y = joined-lanes 4 y fy in
    let e : x - y ≡ joined zs = omega (arith, joined-minus (lanes 4 x) (lanes 4 y) refl h, ex, ey) in (
      omega (arith, le, ex, ey),
      ap (λ n. lanes 4 n) e ∙ lanes-joined zs (small_below zs (small_rests (lanes 4 x) (lanes 4 y) s)),
    )

-- the values from a place on
abbrev pub from_at : ℕ → ℕ → List ℕ → List ℕ
from_at zero i xs = []
from_at (suc n) i xs = get_or xs i 0 ∷ from_at n (i + 1) xs

pub from_at-suc : (n i x : ℕ) (xs : List ℕ) → from_at n (suc i) (x ∷ xs) ≡ from_at n i xs
from_at-suc zero i x xs = refl
from_at-suc (suc n) i x xs =
    let e : suc i + 1 ≡ suc (i + 1) = omega arith in rw e (ap (λ ys. get_or xs i 0 ∷ ys) (from_at-suc n (i + 1) x xs))

pub listed : (n : ℕ) (xs : List ℕ) → length xs ≡ n → xs ≡ from_at n 0 xs
listed zero [] e = refl
listed zero (x ∷ xs) e = absurd (omega arith)
listed (suc n) [] e = absurd (omega arith)
listed (suc n) (x ∷ xs) e = ap (λ ys. x ∷ ys) (listed n xs (omega arith) ∙ sym (from_at-suc n 0 x xs))

-- four words, one by one
pub zip_four : (F : ℕ → ℕ → ℕ) (vs ws : List ℕ) → length vs ≡ 4 → length ws ≡ 4 →
    F (get_or vs 0 0) (get_or ws 0 0) ∷ F (get_or vs 1 0) (get_or ws 1 0) ∷ F (get_or vs 2 0) (get_or ws 2 0) ∷ F (get_or vs 3 0) (get_or ws 3 0) ∷ []
    ≡ zip_with F vs ws
zip_four F vs ws e g =
    sym (ap (λ xs. zip_with F xs ws) (listed 4 vs e) ∙ ap (λ ys. zip_with F (from_at 4 0 vs) ys) (listed 4 ws g))

pub divides_four : (vs ws : List ℕ) → length vs ≡ 4 → length ws ≡ 4 →
    (divides (lanes 4 (get_or vs 0 0)) (lanes 4 (get_or ws 0 0)) && divides (lanes 4 (get_or vs 1 0)) (lanes 4 (get_or ws 1 0))
    && divides (lanes 4 (get_or vs 2 0)) (lanes 4 (get_or ws 2 0)) && divides (lanes 4 (get_or vs 3 0)) (lanes 4 (get_or ws 3 0)))
    ≡ divides (spread vs) (spread ws)
divides_four vs ws e g =
    let a : ℕ → Bool = λ k. divides (lanes 4 (get_or vs k 0)) (lanes 4 (get_or ws k 0)) in
    let last : divides (spread (get_or vs 3 0 ∷ [])) (spread (get_or ws 3 0 ∷ [])) ≡ a 3 = refl in
    let third : divides (spread (get_or vs 2 0 ∷ get_or vs 3 0 ∷ [])) (spread (get_or ws 2 0 ∷ get_or ws 3 0 ∷ [])) ≡ (a 2 && a 3) =
    spread-divides (get_or vs 2 0) (get_or ws 2 0) (get_or vs 3 0 ∷ []) (get_or ws 3 0 ∷ []) in
    let second : divides (spread (get_or vs 1 0 ∷ get_or vs 2 0 ∷ get_or vs 3 0 ∷ [])) (spread (get_or ws 1 0 ∷ get_or ws 2 0 ∷ get_or ws 3 0 ∷ [])) ≡ (a 1 && (a 2 && a 3)) =
    spread-divides (get_or vs 1 0) (get_or ws 1 0) (get_or vs 2 0 ∷ get_or vs 3 0 ∷ []) (get_or ws 2 0 ∷ get_or ws 3 0 ∷ []) ∙ ap (λ b. a 1 && b) third in
    let first : divides (spread (from_at 4 0 vs)) (spread (from_at 4 0 ws)) ≡ (a 0 && (a 1 && (a 2 && a 3))) =
    spread-divides (get_or vs 0 0) (get_or ws 0 0) (get_or vs 1 0 ∷ get_or vs 2 0 ∷ get_or vs 3 0 ∷ []) (get_or ws 1 0 ∷ get_or ws 2 0 ∷ get_or ws 3 0 ∷ []) ∙ ap (λ b. a 0 && b) second in
    let group : (((a 0 && a 1) && a 2) && a 3) ≡ (a 0 && (a 1 && (a 2 && a 3))) = and_assoc (a 0 && a 1) (a 2) (a 3) ∙ and_assoc (a 0) (a 1) (a 2 && a 3) in
    group
    ∙ sym (ap (λ xs. divides (spread xs) (spread ws)) (listed 4 vs e)
    ∙ (ap (λ ys. divides (spread (from_at 4 0 vs)) (spread ys)) (listed 4 ws g) ∙ first))

-- the word of four lanes
pub four_lanes : (a b c d w : ℕ) → a < 65536 → b < 65536 → c < 65536 → d < 65536 → w ≡ joined (a ∷ b ∷ c ∷ d ∷ []) → lanes 4 w ≡ a ∷ b ∷ c ∷ d ∷ []
four_lanes a b c d w fa fb fc fd e = ap (λ n. lanes 4 n) e ∙ lanes-joined (a ∷ b ∷ c ∷ d ∷ []) below
  where
    below : (k : ℕ) → get_or (a ∷ b ∷ c ∷ d ∷ []) k 0 < 65536
    below zero = fa
    below (suc zero) = fb
    below (suc (suc zero)) = fc
    below (suc (suc (suc zero))) = fd
    below (suc (suc (suc (suc k)))) = omega arith

-- words that hold sixteen places
pub packed : (ps : List ℕ) (r s t u : ℕ) → length ps ≡ 16 → ((k : ℕ) → get_or ps k 0 < 65536) →
    r ≡ joined (get_or ps 0 0 ∷ get_or ps 1 0 ∷ get_or ps 2 0 ∷ get_or ps 3 0 ∷ []) →
    s ≡ joined (get_or ps 4 0 ∷ get_or ps 5 0 ∷ get_or ps 6 0 ∷ get_or ps 7 0 ∷ []) →
    t ≡ joined (get_or ps 8 0 ∷ get_or ps 9 0 ∷ get_or ps 10 0 ∷ get_or ps 11 0 ∷ []) →
    u ≡ joined (get_or ps 12 0 ∷ get_or ps 13 0 ∷ get_or ps 14 0 ∷ get_or ps 15 0 ∷ []) → spread (r ∷ s ∷ t ∷ u ∷ []) ≡ ps
packed ps r s t u n h er es et eu =
    let z : ℕ → List ℕ = λ k. get_or ps k 0 ∷ get_or ps (k + 1) 0 ∷ get_or ps (k + 2) 0 ∷ get_or ps (k + 3) 0 ∷ [] in
    let l : (k w : ℕ) → w ≡ joined (z k) → lanes 4 w ≡ z k =
    λ k w e. four_lanes (get_or ps k 0) (get_or ps (k + 1) 0) (get_or ps (k + 2) 0) (get_or ps (k + 3) 0) w (h k) (h (k + 1)) (h (k + 2)) (h (k + 3)) e in
    ap (λ xs. xs ++ (lanes 4 s ++ (lanes 4 t ++ (lanes 4 u ++ [])))) (l 0 r er)
    ∙ (ap (λ xs. z 0 ++ (xs ++ (lanes 4 t ++ (lanes 4 u ++ [])))) (l 4 s es)
    ∙ (ap (λ xs. z 0 ++ (z 4 ++ (xs ++ (lanes 4 u ++ [])))) (l 8 t et) ∙ (ap (λ xs. z 0 ++ (z 4 ++ (z 8 ++ (xs ++ [])))) (l 12 u eu) ∙ sym (listed 16 ps n))))

pub words_below : (r s t u : ℕ) → r < 2 ^ 64 → s < 2 ^ 64 → t < 2 ^ 64 → u < 2 ^ 64 → (k : ℕ) → get_or (r ∷ s ∷ t ∷ u ∷ []) k 0 < 2 ^ 64
words_below r s t u fr fs ft fu zero = fr
words_below r s t u fr fs ft fu (suc zero) = fs
words_below r s t u fr fs ft fu (suc (suc zero)) = ft
words_below r s t u fr fs ft fu (suc (suc (suc zero))) = fu
words_below r s t u fr fs ft fu (suc (suc (suc (suc k)))) = omega arith

-- words that are zero
pub spread-zeros : (m : ℕ) → spread (replicate m 0) ≡ replicate (4 * m) 0
spread-zeros zero = refl
spread-zeros (suc m) =
    let n : 4 * suc m ≡ suc (suc (suc (suc (4 * m)))) = omega arith in rw n (ap (λ xs. 0 ∷ 0 ∷ 0 ∷ 0 ∷ xs) (spread-zeros m))

-- a word with a number in one lane
pub one_lane : (i x : ℕ) → i < 4 → x < 65536 → lanes 4 (x * 2 ^ (16 * i)) ≡ set (0 ∷ 0 ∷ 0 ∷ 0 ∷ []) i x
one_lane zero x h f = four_lanes x 0 0 0 (x * 2 ^ (16 * 0)) f (omega arith) (omega arith) (omega arith) (omega arith)
one_lane (suc zero) x h f = four_lanes 0 x 0 0 (x * 2 ^ (16 * 1)) (omega arith) f (omega arith) (omega arith) (omega arith)
one_lane (suc (suc zero)) x h f = four_lanes 0 0 x 0 (x * 2 ^ (16 * 2)) (omega arith) (omega arith) f (omega arith) (omega arith)
one_lane (suc (suc (suc zero))) x h f = four_lanes 0 0 0 x (x * 2 ^ (16 * 3)) (omega arith) (omega arith) (omega arith) f (omega arith)
one_lane (suc (suc (suc (suc i)))) x h f = absurd (omega arith)

-- one word among zeros
pub one_word : (m k i x w : ℕ) → k < m → i < 4 → lanes 4 w ≡ set (0 ∷ 0 ∷ 0 ∷ 0 ∷ []) i x →
    spread (set (replicate m 0) k w) ≡ set (replicate (4 * m) 0) (4 * k + i) x
one_word zero k i x w h f e = absurd (omega arith)
one_word (suc m) zero i x w h f e =
    let four : List ℕ = 0 ∷ 0 ∷ 0 ∷ 0 ∷ [] in
    let n : 4 * suc m ≡ suc (suc (suc (suc (4 * m)))) = omega arith in
    let z : 4 * 0 + i ≡ i = omega arith in
    rw (n, z) (ap (λ xs. xs ++ spread (replicate m 0)) e
    ∙ (ap (λ xs. set four i x ++ xs) (spread-zeros m) ∙ sym (set-append_left four (replicate (4 * m) 0) i x f)))
one_word (suc m) (suc k) i x w h f e =
    let n : 4 * suc m ≡ suc (suc (suc (suc (4 * m)))) = omega arith in
    let z : 4 * suc k + i ≡ suc (suc (suc (suc (4 * k + i)))) = omega arith in
    rw (n, z) (ap (λ xs. 0 ∷ 0 ∷ 0 ∷ 0 ∷ xs) (one_word m k i x w (omega arith) f e))
