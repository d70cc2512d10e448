-- The words that hold exponents.
use Rattle.std.proofs.Common.{◌≡◌, ◌*◌, ◌/◌, ◌%◌, Bool, ℕ, zero, suc, ◌+◌, ◌-◌, ◌^◌, ◌≤◌, ◌<◌, nat_eq, ◌&&◌, IsTrue, List, [], ◌∷◌, length, replicate, ◌++◌, sum, take, drop, get_or, max, arith, refl, sym, ◌∙◌, ap, inl, inr}
use Rattle.std.specs.Cmp.Lexicographic.{pointwise}
use Rattle.std.proofs.Math.ListN.{set}
use Rattle.std.proofs.lemmas.Bool.{cases_lt}
use Rattle.std.proofs.lemmas.Bool.Decides.{same_from_decides, Decides-like, Decides-and, Decides-eqb}
use Rattle.std.proofs.lemmas.Slice.Eq.{bytes_eq-Decides}
use Rattle.std.proofs.Math.Seq.{take-append_seam}
use Rattle.std.proofs.lemmas.List.{ext_get_or, get_or-drop, get_or-take, get_or_past, get_or-append_right, get_or_append_left, length-append, length-replicate, take-append-drop, replicate-append-replicate, append_assoc}
use Rattle.std.proofs.lemmas.List.Sums.{sum_by-cons, sum_by-append, sum_by-take-drop}
use Rattle.std.proofs.lemmas.List.Folds.{sum_by-replicate}
use Rattle.monomials.specs.Monomials.{degree, plus, minus, lcm, zip_with, divides, power}
use Rattle.monomials.specs.declared.expo.Expo.TheInside.{Inside}
use Rattle.monomials.specs.Words.{lanes, spread}
use Rattle.monomials.specs.Padded.{IsPadded, exponents, padded, padded-exponents, length-exponents, drop-places, sixteen, zeros}
use Rattle.monomials.proofs.Lanes.{spread_zip, word_lanes-le, word_lanes-same, word_plus, word_minus, small_sums, divides_four, zip_four, lane_at, one_word, words_below, listed, from_at}
use Rattle.monomials.proofs.Exponents.{length-zip_with, get_or-zip_with, take-zip_with, sum-zip_with-le, degree-plus, degree-minus, divides_decides, get_or-zeros, sum-zeros, place-le_sum}

-- a lane is an exponent, or zero past the exponents
pub get_or-exponents : (e : Inside) (k : ℕ) → IsPadded e → get_or (exponents e) k 0 ≡ get_or (spread e.words) k 0
get_or-exponents e k h =
    elim (cases_lt k e.len) [
      | inl below ↦ get_or-take e.len (spread e.words) k 0 below
      | inr past ↦ get_or_past (exponents e) k 0 (omega (arith, length-exponents e h)) ∙ sym (h.padding k past)
    ]

-- the sum of all lanes is the degree
pub lanes_total : (e : Inside) → IsPadded e → sum (spread e.words) ≡ e.degree
lanes_total e h =
    omega (arith, sum_by-take-drop (λ x. x) (spread e.words) e.len, ap sum (drop-places e h), sum-zeros (16 - e.len), h.total)

-- each lane is at most the degree
pub lane-le : (e : Inside) → IsPadded e → (k : ℕ) → get_or (spread e.words) k 0 ≤ e.degree
lane-le e h k = omega (arith, get_or-exponents e k h, place-le_sum (exponents e) k, h.total)

-- each lane of each word is small
pub lanes_small : (e : Inside) → IsPadded e → (k i : ℕ) → get_or (lanes 4 (get_or e.words k 0)) i 0 ≤ 32767
lanes_small e h k i = omega (arith, word_lanes-le e.words e.degree (lane-le e h) k i, h.small)

-- two monomials of one length, and the words that hold them
module _ (a b : Inside) (m n : List ℕ) (pa : IsPadded a) (pb : IsPadded b) (ea : exponents a ≡ m) (eb : exponents b ≡ n)
    (same : length m ≡ length n) where
  pub lens : a.len ≡ b.len
  lens = omega (arith, length-exponents a pa, length-exponents b pb, ap length ea, ap length eb)

  pub same_places : length (spread a.words) ≡ length (spread b.words)
  same_places = sixteen a pa ∙ sym (sixteen b pb)

  left_at : (k : ℕ) → get_or m k 0 ≡ get_or (spread a.words) k 0
  left_at k = ap (λ x. get_or x k 0) (sym ea) ∙ get_or-exponents a k pa

  right_at : (k : ℕ) → get_or n k 0 ≡ get_or (spread b.words) k 0
  right_at k = ap (λ x. get_or x k 0) (sym eb) ∙ get_or-exponents b k pb

  -- the lanes of a divisor are no greater
  pub place-le : IsTrue (divides m n) → (k : ℕ) → get_or (spread a.words) k 0 ≤ get_or (spread b.words) k 0
  place-le h k = omega (arith, left_at k, right_at k, (divides_decides m n same).0 h k)

  -- the padding does not matter to division
  pub divides-places : divides (spread a.words) (spread b.words) ≡ divides m n
  divides-places =
      same_from_decides (divides (spread a.words) (spread b.words)) (divides m n) (divides_decides (spread a.words) (spread b.words) same_places)
      (Decides-like (divides m n) (λ h k. omega (arith, left_at k, right_at k, h k)) (λ h k. omega (arith, left_at k, right_at k, h k))
      (divides_decides m n same))

  -- words with an operation on each lane
  module _ (f : ℕ → ℕ → ℕ) (r : List ℕ) (fours : length r ≡ 4) (spread_is : spread r ≡ zip_with f (spread a.words) (spread b.words)) where
    pub exponents_are : take a.len (spread r) ≡ zip_with f m n
    exponents_are =
        let eb2 : take a.len (spread b.words) ≡ n = ap (λ x. take x (spread b.words)) lens ∙ eb in
        ap (λ x. take a.len x) spread_is
        ∙ (take-zip_with f a.len (spread a.words) (spread b.words)
        ∙ (ap (λ x. zip_with f x (take a.len (spread b.words))) ea ∙ ap (λ x. zip_with f m x) eb2))

    pub padded_by : (d : ℕ) → f 0 0 ≡ 0 → ((k : ℕ) → get_or r k 0 < 2 ^ 64) → d ≡ sum (zip_with f m n) → d ≤ 32767 →
        IsPadded (record { words = r; degree = d; len = a.len })
    padded_by d z w t s =
        record {
          not_empty = pa.not_empty;
          fits = pa.fits;
          four = fours;
          whole = w;
          padding = λ k out.
              elim (cases_lt k 16) [
                | inr past ↦ get_or_past (spread r) k 0 (omega (arith, ap length spread_is, length-zip_with f (spread a.words) (spread b.words) same_places, sixteen a pa))
                | inl in' ↦
                    let za : get_or (spread a.words) k 0 ≡ 0 = pa.padding k out in
                    let zb : get_or (spread b.words) k 0 ≡ 0 = pb.padding k (omega (arith, lens)) in
                    ap (λ x. get_or x k 0) spread_is
                    ∙ (get_or-zip_with f (spread a.words) (spread b.words) k same_places (omega (arith, sixteen a pa))
                    ∙ (ap (λ x. f x (get_or (spread b.words) k 0)) za ∙ (ap (λ x. f 0 x) zb ∙ z)))
              ];
          total = ap sum exponents_are ∙ sym t;
          small = s;
        }

-- words of two monomials
module _ (a b : Inside) (m n : List ℕ) (pa : IsPadded a) (pb : IsPadded b) (ea : exponents a ≡ m) (eb : exponents b ≡ n)
    (same : length m ≡ length n) where
  pub divides_result : (r s t u : Bool) → r ≡ divides (lanes 4 (get_or a.words 0 0)) (lanes 4 (get_or b.words 0 0)) →
      s ≡ divides (lanes 4 (get_or a.words 1 0)) (lanes 4 (get_or b.words 1 0)) →
      t ≡ divides (lanes 4 (get_or a.words 2 0)) (lanes 4 (get_or b.words 2 0)) →
      u ≡ divides (lanes 4 (get_or a.words 3 0)) (lanes 4 (get_or b.words 3 0)) → (r && s && t && u) ≡ divides m n
  divides_result r s t u er es et eu =
      let four : (divides (lanes 4 (get_or a.words 0 0)) (lanes 4 (get_or b.words 0 0)) && divides (lanes 4 (get_or a.words 1 0)) (lanes 4 (get_or b.words 1 0))
      && divides (lanes 4 (get_or a.words 2 0)) (lanes 4 (get_or b.words 2 0)) && divides (lanes 4 (get_or a.words 3 0)) (lanes 4 (get_or b.words 3 0)))
      ≡ divides (spread a.words) (spread b.words) = divides_four a.words b.words pa.four pb.four in
      rw (er, es, et, eu) (four ∙ divides-places a b m n pa pb ea eb same)

  -- the word of a product
  pub plus_at : degree m + degree n ≤ 32767 → (k : ℕ) →
      (get_or a.words k 0 + get_or b.words k 0 < 2 ^ 64)
      × (lanes 4 (get_or a.words k 0 + get_or b.words k 0) ≡ zip_with (λ x y. x + y) (lanes 4 (get_or a.words k 0)) (lanes 4 (get_or b.words k 0)))
  plus_at h k =
      word_plus (get_or a.words k 0) (get_or b.words k 0) (pa.whole k) (pb.whole k)
      (small_sums (lanes 4 (get_or a.words k 0)) (lanes 4 (get_or b.words k 0)) a.degree b.degree
      (omega (arith, h, pa.total, pb.total, ap sum ea, ap sum eb)) (word_lanes-le a.words a.degree (lane-le a pa) k)
      (word_lanes-le b.words b.degree (lane-le b pb) k))

  -- the word of a quotient
  pub minus_at : IsTrue (divides n m) → (k : ℕ) →
      (get_or b.words k 0 ≤ get_or a.words k 0)
      × (lanes 4 (get_or a.words k 0 - get_or b.words k 0) ≡ zip_with (λ x y. x - y) (lanes 4 (get_or a.words k 0)) (lanes 4 (get_or b.words k 0)))
  minus_at h k =
      word_minus (get_or a.words k 0) (get_or b.words k 0) (pa.whole k) (pb.whole k) (lanes_small a pa k)
      (word_lanes-same b.words a.words (place-le b a n m pb pa eb ea (sym same) h) k)

  abbrev pub sums : List ℕ
  sums = (get_or a.words 0 0 + get_or b.words 0 0) ∷ (get_or a.words 1 0 + get_or b.words 1 0) ∷ (get_or a.words 2 0 + get_or b.words 2 0) ∷ (get_or a.words 3 0 + get_or b.words 3 0) ∷ []

  sums_are : sums ≡ zip_with (λ x y. x + y) a.words b.words
  sums_are = zip_four (λ x y. x + y) a.words b.words pa.four pb.four

  sums_spread : degree m + degree n ≤ 32767 → spread sums ≡ zip_with (λ x y. x + y) (spread a.words) (spread b.words)
  sums_spread h = ap spread sums_are ∙ spread_zip (λ x y. x + y) (λ x y. x + y) a.words b.words (pa.four ∙ sym pb.four) (λ k l. (plus_at h k).1)

  pub plus_padded : degree m + degree n ≤ 32767 → IsPadded (record { words = sums; degree = a.degree + b.degree; len = a.len })
  plus_padded h =
      let t : a.degree + b.degree ≡ degree (plus m n) = omega (arith, degree-plus m n same, pa.total, pb.total, ap sum ea, ap sum eb) in
      padded_by a b m n pa pb ea eb same (λ x y. x + y) sums refl (sums_spread h) (a.degree + b.degree) refl
      (words_below _ _ _ _ (plus_at h 0).0 (plus_at h 1).0 (plus_at h 2).0 (plus_at h 3).0) t (omega (arith, pa.total, pb.total, ap sum ea, ap sum eb, h))

  pub plus_is : degree m + degree n ≤ 32767 → take a.len (spread sums) ≡ plus m n
  plus_is h = exponents_are a b m n pa pb ea eb same (λ x y. x + y) sums refl (sums_spread h)

  abbrev pub rests : List ℕ
  rests = (get_or a.words 0 0 - get_or b.words 0 0) ∷ (get_or a.words 1 0 - get_or b.words 1 0) ∷ (get_or a.words 2 0 - get_or b.words 2 0) ∷ (get_or a.words 3 0 - get_or b.words 3 0) ∷ []

  rests_are : rests ≡ zip_with (λ x y. x - y) a.words b.words
  rests_are = zip_four (λ x y. x - y) a.words b.words pa.four pb.four

  rests_spread : IsTrue (divides n m) → spread rests ≡ zip_with (λ x y. x - y) (spread a.words) (spread b.words)
  rests_spread h = ap spread rests_are ∙ spread_zip (λ x y. x - y) (λ x y. x - y) a.words b.words (pa.four ∙ sym pb.four) (λ k l. (minus_at h k).1)

  pub minus_degree : IsTrue (divides n m) → b.degree ≤ a.degree
  minus_degree h = omega (arith, degree-minus m n same h, pa.total, pb.total, ap sum ea, ap sum eb)

  pub minus_padded : IsTrue (divides n m) → IsPadded (record { words = rests; degree = a.degree - b.degree; len = a.len })
  minus_padded h =
      let t : a.degree - b.degree ≡ degree (minus m n) = omega (arith, degree-minus m n same h, pa.total, pb.total, ap sum ea, ap sum eb) in
      let whole : (k : ℕ) → get_or a.words k 0 - get_or b.words k 0 < 2 ^ 64 = λ k. omega (arith, pa.whole k) in
      padded_by a b m n pa pb ea eb same (λ x y. x - y) rests refl (rests_spread h) (a.degree - b.degree) refl
      (words_below _ _ _ _ (whole 0) (whole 1) (whole 2) (whole 3)) t (omega (arith, pa.small))

  pub minus_is : IsTrue (divides n m) → take a.len (spread rests) ≡ minus m n
  minus_is h = exponents_are a b m n pa pb ea eb same (λ x y. x - y) rests refl (rests_spread h)

  -- words of the greater lanes
  module _ (r s t u : ℕ) (er : lanes 4 r ≡ zip_with (λ x y. max x y) (lanes 4 (get_or a.words 0 0)) (lanes 4 (get_or b.words 0 0)))
      (es : lanes 4 s ≡ zip_with (λ x y. max x y) (lanes 4 (get_or a.words 1 0)) (lanes 4 (get_or b.words 1 0)))
      (et : lanes 4 t ≡ zip_with (λ x y. max x y) (lanes 4 (get_or a.words 2 0)) (lanes 4 (get_or b.words 2 0)))
      (eu : lanes 4 u ≡ zip_with (λ x y. max x y) (lanes 4 (get_or a.words 3 0)) (lanes 4 (get_or b.words 3 0))) where
    maxima_spread : spread (r ∷ s ∷ t ∷ u ∷ []) ≡ zip_with (λ x y. max x y) (spread a.words) (spread b.words)
    maxima_spread =
        let z : ℕ → List ℕ = λ k. zip_with (λ x y. max x y) (lanes 4 (get_or a.words k 0)) (lanes 4 (get_or b.words k 0)) in
        let words : spread (r ∷ s ∷ t ∷ u ∷ []) ≡ z 0 ++ (z 1 ++ (z 2 ++ (z 3 ++ []))) =
        ap (λ xs. xs ++ (lanes 4 s ++ (lanes 4 t ++ (lanes 4 u ++ [])))) er
        ∙ (ap (λ xs. z 0 ++ (xs ++ (lanes 4 t ++ (lanes 4 u ++ [])))) es
        ∙ (ap (λ xs. z 0 ++ (z 1 ++ (xs ++ (lanes 4 u ++ [])))) et ∙ ap (λ xs. z 0 ++ (z 1 ++ (z 2 ++ (xs ++ [])))) eu)) in
        words
        ∙ sym (ap (λ xs. zip_with (λ x y. max x y) (spread xs) (spread b.words)) (listed 4 a.words pa.four)
        ∙ ap (λ ys. zip_with (λ x y. max x y) (spread (from_at 4 0 a.words)) (spread ys)) (listed 4 b.words pb.four))

    pub lcm_is : take a.len (spread (r ∷ s ∷ t ∷ u ∷ [])) ≡ lcm m n
    lcm_is = exponents_are a b m n pa pb ea eb same (λ x y. max x y) (r ∷ s ∷ t ∷ u ∷ []) refl maxima_spread

    pub lcm_total : sum (spread (r ∷ s ∷ t ∷ u ∷ [])) ≡ sum (lcm m n)
    lcm_total =
        let ws : List ℕ = spread (r ∷ s ∷ t ∷ u ∷ []) in
        omega (
          arith,
          sum_by-take-drop (λ x. x) ws a.len,
          ap sum lcm_is,
          ap sum (zeros (drop a.len ws) past),
          sum_by-replicate (λ x. x) (length (drop a.len ws)) 0,
        )
      where
        past : (k : ℕ) → get_or (drop a.len (spread (r ∷ s ∷ t ∷ u ∷ []))) k 0 ≡ 0
        past k = get_or-drop a.len (spread (r ∷ s ∷ t ∷ u ∷ [])) k 0 ∙ lane_past (a.len + k) (omega arith)
          where
            lane_past : (j : ℕ) → a.len ≤ j → get_or (spread (r ∷ s ∷ t ∷ u ∷ [])) j 0 ≡ 0
            lane_past j out =
                elim (cases_lt j 16) [
                  | inr past ↦ get_or_past (spread (r ∷ s ∷ t ∷ u ∷ [])) j 0 past
                  | inl in' ↦
                      ap (λ x. get_or x j 0) maxima_spread
                      ∙ (get_or-zip_with (λ x y. max x y) (spread a.words) (spread b.words) j (sixteen a pa ∙ sym (sixteen b pb)) (omega (arith, sixteen a pa))
                      ∙ omega (arith, pa.padding j out, pb.padding j (omega (arith, lens a b m n pa pb ea eb same))))
                ]

    pub lcm_small : degree m + degree n ≤ 32767 → sum (spread (r ∷ s ∷ t ∷ u ∷ [])) ≤ 32767
    lcm_small h = omega (arith, h, lcm_total, sum-zip_with-le (λ x y. max x y) m n (λ x y. omega arith))

    pub lcm_padded : degree m + degree n ≤ 32767 → (d : ℕ) → d ≡ sum (spread (r ∷ s ∷ t ∷ u ∷ [])) → r < 2 ^ 64 → s < 2 ^ 64 → t < 2 ^ 64 → u < 2 ^ 64 →
        IsPadded (record { words = r ∷ s ∷ t ∷ u ∷ []; degree = d; len = a.len })
    lcm_padded h d e fr fs ft fu =
        padded_by a b m n pa pb ea eb same (λ x y. max x y) (r ∷ s ∷ t ∷ u ∷ []) refl maxima_spread d refl (words_below r s t u fr fs ft fu) (e ∙ lcm_total)
        (omega (arith, e, lcm_small h))

-- words and lengths are equal just where the monomials are
pub equal_words : (a b : Inside) (m n : List ℕ) → IsPadded a → IsPadded b → exponents a ≡ m → exponents b ≡ n →
    (pointwise nat_eq a.words b.words && nat_eq a.len b.len) ≡ pointwise nat_eq m n
equal_words a b m n pa pb ea eb =
    same_from_decides _ _
    (Decides-like _ there back (Decides-and _ _ (bytes_eq-Decides a.words b.words) (Decides-eqb a.len b.len)))
    (bytes_eq-Decides m n)
  where
    there : (a.words ≡ b.words) × (a.len ≡ b.len) → m ≡ n
    there h = sym ea ∙ (ap (λ k. take k (spread a.words)) h.1 ∙ (ap (λ x. take b.len (spread x)) h.0 ∙ eb))

    back : m ≡ n → (a.words ≡ b.words) × (a.len ≡ b.len)
    back h =
        let e : a ≡ b = sym (padded-exponents a pa) ∙ (ap padded (ea ∙ (h ∙ sym eb)) ∙ padded-exponents b pb) in
        (ap (λ (x : Inside). x.words) e, ap (λ (x : Inside). x.len) e)

-- as many exponents as are counted
pub length_is : (a : Inside) (m : List ℕ) → IsPadded a → exponents a ≡ m → length m ≡ a.len
length_is a m pa ea = ap length (sym ea) ∙ length-exponents a pa

-- one exponent
pub at_is : (a : Inside) (m : List ℕ) (k : ℕ) → IsPadded a → exponents a ≡ m →
    get_or (lanes 4 (get_or a.words (k / 4) 0)) (k % 4) 0 ≡ get_or m k 0
at_is a m k pa ea = lane_at a.words k ∙ (sym (get_or-exponents a k pa) ∙ ap (λ xs. get_or xs k 0) ea)

-- the lanes are the exponents and zeros
pub words_are : (a : Inside) (m : List ℕ) → IsPadded a → exponents a ≡ m → spread a.words ≡ m ++ replicate (16 - length m) 0
words_are a m pa ea =
    let n : length m ≡ a.len = length_is a m pa ea in
    sym (take-append-drop a.len (spread a.words))
    ∙ (ap (λ xs. xs ++ drop a.len (spread a.words)) ea
    ∙ (ap (λ xs. m ++ xs) (drop-places a pa) ∙ ap (λ k. m ++ replicate (16 - k) 0) (sym n)))

-- words whose lanes are a monomial's exponents and zeros
module _ (m ws : List ℕ) (n : ℕ) (len : length m ≡ n) (is : spread ws ≡ m ++ replicate (16 - n) 0) where
  pub total_of : sum (spread ws) ≡ sum m
  total_of = omega (arith, ap sum is, sum_by-append (λ x. x) m (replicate (16 - n) 0), sum-zeros (16 - n))

  pub exponents_of : take n (spread ws) ≡ m
  exponents_of =
      ap (λ xs. take n xs) is ∙ (ap (λ k. take k (m ++ replicate (16 - n) 0)) (sym len) ∙ take-append_seam m (replicate (16 - n) 0))

  pub padded_of : (d : ℕ) → 1 ≤ n → n ≤ 16 → length ws ≡ 4 → ((k : ℕ) → get_or ws k 0 < 2 ^ 64) → d ≡ sum m → sum m ≤ 32767 →
      IsPadded (record { words = ws; degree = d; len = n })
  padded_of d one fits four whole e small =
      record {
        not_empty = one;
        fits = fits;
        four = four;
        whole = whole;
        padding = λ k out.
            ap (λ p. get_or p k 0) is
            ∙ (get_or-append_right m (replicate (16 - n) 0) n k 0 len out ∙ get_or-zeros (16 - n) (k - n));
        total = ap sum exponents_of ∙ sym e;
        small = omega (arith, e, small);
      }

-- places that hold a list, and zeros behind it
pub places_of : (xs ps : List ℕ) → length ps ≡ 16 → length xs ≤ 16 → ((k : ℕ) → k < length xs → get_or ps k 0 ≡ get_or xs k 0) →
    ((k : ℕ) → length xs ≤ k → get_or ps k 0 ≡ 0) → ps ≡ xs ++ replicate (16 - length xs) 0
places_of xs ps whole fits done rest =
    ext_get_or 0 ps (xs ++ replicate (16 - length xs) 0)
    (omega (arith, whole, length-append xs (replicate (16 - length xs) 0), length-replicate {A = ℕ} (16 - length xs) 0))
    (λ k _. each k)
  where
    each : (k : ℕ) → get_or ps k 0 ≡ get_or (xs ++ replicate (16 - length xs) 0) k 0
    each k =
        elim (cases_lt k (length xs)) [
          | inl below ↦ done k below ∙ sym (get_or_append_left xs (replicate (16 - length xs) 0) 0 k below)
          | inr past ↦
              rest k past
              ∙ sym (get_or-append_right xs (replicate (16 - length xs) 0) (length xs) k 0 refl past ∙ get_or-zeros (16 - length xs) (k - length xs))
        ]

-- one number among zeros
pub set_zeros : (n k x : ℕ) → k < n → set (replicate n 0) k x ≡ replicate k 0 ++ (x ∷ replicate (n - suc k) 0)
set_zeros zero k x h = absurd (omega arith)
set_zeros (suc n) zero x h = let e : suc n - 1 ≡ n = omega arith in rw e refl
set_zeros (suc n) (suc k) x h =
    let e : suc n - suc (suc k) ≡ n - suc k = omega arith in rw e (ap (λ z. 0 ∷ z) (set_zeros n k x (omega arith)))

-- a bound on all numbers, where one of them is changed
pub set-below : (xs : List ℕ) (j x b k : ℕ) → x < b → ((i : ℕ) → get_or xs i 0 < b) → get_or (set xs j x) k 0 < b
set-below [] j x b k less h = h k
set-below (y ∷ xs) zero x b zero less h = less
set-below (y ∷ xs) zero x b (suc k) less h = h (suc k)
set-below (y ∷ xs) (suc j) x b zero less h = h 0
set-below (y ∷ xs) (suc j) x b (suc k) less h = set-below xs j x b k less (λ i. h (suc i))

-- the monomials of one variable
module _ (n v e : ℕ) (fits : n ≤ 16) (first : 1 ≤ v) (last : v ≤ n) where
  pub length-power : length (power n v e) ≡ n
  length-power =
      omega (
        arith,
        length-append (replicate (v - 1) 0) (e ∷ replicate (n - v) 0),
        length-replicate {A = ℕ} (v - 1) 0,
        length-replicate {A = ℕ} (n - v) 0,
      )

  pub degree-power : sum (power n v e) ≡ e
  degree-power =
      omega (
        arith,
        sum_by-append (λ x. x) (replicate (v - 1) 0) (e ∷ replicate (n - v) 0),
        sum_by-cons (λ x. x) e (replicate (n - v) 0),
        sum-zeros (v - 1),
        sum-zeros (n - v),
      )

  -- its lanes
  pub power_padded : set (replicate 16 0) (v - 1) e ≡ power n v e ++ replicate (16 - n) 0
  power_padded =
      let front : List ℕ = replicate (v - 1) 0 in
      let rest : 16 - suc (v - 1) ≡ (n - v) + (16 - n) = omega arith in
      let zeros : ℕ → List ℕ = λ k. replicate k 0 in
      let back : zeros (16 - suc (v - 1)) ≡ zeros (n - v) ++ zeros (16 - n) =
      ap zeros rest ∙ sym (replicate-append-replicate (n - v) (16 - n) 0) in
      set_zeros 16 (v - 1) e (omega arith)
      ∙ (ap (λ xs. front ++ (e ∷ xs)) back ∙ sym (append_assoc front (e ∷ replicate (n - v) 0) (replicate (16 - n) 0)))

  -- the words with its exponent in one lane
  pub power_words : (j w : ℕ) → j ≡ (v - 1) / 4 → lanes 4 w ≡ set (0 ∷ 0 ∷ 0 ∷ 0 ∷ []) ((v - 1) % 4) e →
      spread (set (0 ∷ 0 ∷ 0 ∷ 0 ∷ []) j w) ≡ power n v e ++ replicate (16 - n) 0
  power_words j w is one =
      let at : 4 * j + (v - 1) % 4 ≡ v - 1 = omega (arith, is) in
      one_word 4 j ((v - 1) % 4) e w (omega (arith, is)) (omega arith) one
      ∙ (ap (λ k. set (replicate 16 0) k e) at ∙ power_padded)
