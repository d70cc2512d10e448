-- Rows behind a row of positive weights: what they tell apart, and the whole numbers that they compare.
use Rattle.std.proofs.Common.{◌≡◌, ℕ, zero, suc, ◌+◌, ◌-◌, ◌*◌, ◌≤◌, ◌<◌, List, [], ◌∷◌, ◌++◌, length, map, replicate, drop, get_or, arith, refl, sym, ◌∙◌, ap, inl, inr, ℤ, pos, negsuc}
use Rattle.std.proofs.Common.{Ordering, Less, Equal, Greater, nat_cmp, int_cmp}
use Rattle.std.specs.Ordering.{ordering_then}
use Rattle.std.specs.Cmp.{nat_cmp_is, ranked}
use Rattle.std.specs.Cmp.Lexicographic.{slice_cmp}
use Rattle.std.proofs.lemmas.Bool.{cases_lt}
use Rattle.std.proofs.lemmas.Nat.{mul-le}
use Rattle.std.proofs.lemmas.List.{get_or-drop, length-replicate}
use Rattle.monomials.specs.Monomials.{Monomial}
use Rattle.monomials.specs.Orders.{row_value, rows_cmp}
use Rattle.monomials.specs.Blocks.{row_of, weights_row, first_first, last_first}
use Rattle.monomials.specs.Rows.{weighted}
use Rattle.monomials.proofs.RowValues.{weighted-cons, compare_weights_row, compare_rising, compare_falling}

-- all weights are positive
abbrev pub IsPositive : List ℕ → Type 0
IsPositive ws = (k : ℕ) → k < length ws → 0 < get_or ws k 0

-- ---- weighted degrees

weighted-nil : (ws : List ℕ) → weighted ws [] ≡ 0
weighted-nil [] = refl
weighted-nil (w ∷ ws) = refl

-- by the first variable, and the others
weighted-first : (w : ℕ) (ws m : List ℕ) → weighted (w ∷ ws) m ≡ w * get_or m 0 0 + weighted ws (drop 1 m)
weighted-first w ws [] = omega (arith, weighted-nil ws)
weighted-first w ws (e ∷ m) = weighted-cons w e ws m

-- under positive weights no exponent is above the weighted degree
pub exponent-le-weighted : (ws m : List ℕ) → IsPositive ws → (k : ℕ) → k < length ws → get_or m k 0 ≤ weighted ws m
exponent-le-weighted [] m h k l = absurd (omega arith)
exponent-le-weighted (w ∷ ws) [] h k l = omega arith
exponent-le-weighted (w ∷ ws) (e ∷ m) h zero l =
    let a : 1 * e ≤ w * e = mul-le 1 e w e (h 0 (omega arith)) (omega arith) in
    omega (arith, a, weighted-cons w e ws m)
exponent-le-weighted (w ∷ ws) (e ∷ m) h (suc k) l =
    omega (arith, weighted-cons w e ws m, exponent-le-weighted ws m (λ j b. h (suc j) (omega arith)) k (omega arith))

-- equal exponents give equal weighted degrees
weighted_alike : (ws a b : List ℕ) → ((k : ℕ) → k < length ws → get_or a k 0 ≡ get_or b k 0) → weighted ws a ≡ weighted ws b
weighted_alike [] a b h = refl
weighted_alike (w ∷ ws) a b h =
    let rest : weighted ws (drop 1 a) ≡ weighted ws (drop 1 b) =
    weighted_alike ws (drop 1 a) (drop 1 b)
    (λ k l. get_or-drop 1 a k 0 ∙ (ap (λ j. get_or a j 0) (omega arith) ∙ (h (suc k) (omega arith) ∙ (ap (λ j. get_or b j 0) (omega arith) ∙ sym (get_or-drop 1 b k 0))))) in
    weighted-first w ws a ∙ ((λ i. w * h 0 (omega arith) i + rest i) ∙ sym (weighted-first w ws b))

cancel : (w x y : ℕ) → 0 < w → w * x ≡ w * y → x ≡ y
cancel w x y some e =
    elim (cases_lt x y) [
      | inl less ↦ let a : w * (x + 1) ≤ w * y = mul-le w (x + 1) w y (omega arith) (omega arith) in absurd (omega (arith, a))
      | inr more ↦
          elim (cases_lt y x) [
            | inl less ↦ let a : w * (y + 1) ≤ w * x = mul-le w (y + 1) w x (omega arith) (omega arith) in absurd (omega (arith, a))
            | inr same ↦ omega arith
          ]
    ]

-- equal weighted degrees, and equal exponents but the first, give an equal first one
first_same : (ws a b : List ℕ) → 0 < length ws → IsPositive ws → weighted ws a ≡ weighted ws b →
    ((k : ℕ) → 0 < k → k < length ws → get_or a k 0 ≡ get_or b k 0) → get_or a 0 0 ≡ get_or b 0 0
first_same [] a b some h e alike = absurd (omega arith)
first_same (w ∷ ws) a b some h e alike =
    let rest : weighted ws (drop 1 a) ≡ weighted ws (drop 1 b) =
    weighted_alike ws (drop 1 a) (drop 1 b)
    (λ k l. get_or-drop 1 a k 0 ∙ (ap (λ j. get_or a j 0) (omega arith) ∙ (alike (suc k) (omega arith) (omega arith) ∙ (ap (λ j. get_or b j 0) (omega arith) ∙ sym (get_or-drop 1 b k 0))))) in
    cancel w (get_or a 0 0) (get_or b 0 0) (h 0 (omega arith)) (omega (arith, e, rest, weighted-first w ws a, weighted-first w ws b))

-- ---- rows that compare as equal

-- orderings one behind another
pub then_assoc : (o p q : Ordering) → ordering_then (ordering_then o p) q ≡ ordering_then o (ordering_then p q)
then_assoc Less p q = refl
then_assoc Equal p q = refl
then_assoc Greater p q = refl

pub then_none : (o : Ordering) → ordering_then o Equal ≡ o
then_none Less = refl
then_none Equal = refl
then_none Greater = refl

-- what ties behind an ordering ties with it
pub then_equal : (o p : Ordering) → ordering_then o p ≡ Equal → (o ≡ Equal) × (p ≡ Equal)
then_equal Less p e = cc
then_equal Equal p e = (refl, e)
then_equal Greater p e = cc

-- equal numbers alone tie
pub nat_cmp_equal : (x y : ℕ) → nat_cmp x y ≡ Equal → x ≡ y
nat_cmp_equal x y e = ranked x y Equal (sym e)

module _ (n : ℕ) (a b : Monomial) where
  -- unit rows give equal exponents
  pub rising_equal : (at count : ℕ) → rows_cmp (first_first n at count) a b ≡ Equal → (k : ℕ) → at ≤ k → k < at + count →
      get_or a k 0 ≡ get_or b k 0
  rising_equal at zero e k low high = absurd (omega arith)
  rising_equal at (suc count) e k low high =
      let p : (int_cmp (row_value (row_of (pos 1) n at 1) a) (row_value (row_of (pos 1) n at 1) b) ≡ Equal)
      × (rows_cmp (first_first n (at + 1) count) a b ≡ Equal) = then_equal _ _ e in
      elim (cases_lt at k) [
        | inl less ↦ rising_equal (at + 1) count p.1 k (omega arith) (omega arith)
        | inr same ↦
            let i : at ≡ k = omega arith in
            rw (← i) (nat_cmp_equal _ _ (sym (compare_rising n at a b) ∙ p.0))
      ]

  -- negative unit rows give equal exponents
  pub falling_equal : (at count : ℕ) → rows_cmp (last_first n at count) a b ≡ Equal → (k : ℕ) → at ≤ k → k < at + count →
      get_or a k 0 ≡ get_or b k 0
  falling_equal at zero e k low high = absurd (omega arith)
  falling_equal at (suc count) e k low high =
      let r : List ℤ = row_of (negsuc 0) n (at + count) 1 in
      let p : (int_cmp (row_value r a) (row_value r b) ≡ Equal) × (rows_cmp (last_first n at count) a b ≡ Equal) = then_equal _ _ e in
      elim (cases_lt k (at + count)) [
        | inl less ↦ falling_equal at count p.1 k low less
        | inr same ↦
            let i : at + count ≡ k = omega arith in
            let here : get_or b (at + count) 0 ≡ get_or a (at + count) 0 =
            nat_cmp_equal _ _ (sym (compare_falling n (at + count) a b) ∙ p.0) in
            sym (rw i at here)
      ]

  -- a row of weights, and then exponents in order
  pub graded_rising_equal : (at : ℕ) (ws : List ℕ) → rows_cmp (weights_row n at ws ∷ first_first n at (length ws)) a b ≡ Equal →
      (k : ℕ) → at ≤ k → k < at + length ws → get_or a k 0 ≡ get_or b k 0
  graded_rising_equal at ws e = rising_equal at (length ws) (then_equal _ _ e).1

  -- a row of positive weights, and then negative exponents from the last to the second
  pub graded_falling_equal : (at : ℕ) (ws : List ℕ) → 0 < length ws → IsPositive ws →
      rows_cmp (weights_row n at ws ∷ last_first n (at + 1) (length ws - 1)) a b ≡ Equal →
      (k : ℕ) → at ≤ k → k < at + length ws → get_or a k 0 ≡ get_or b k 0
  graded_falling_equal at ws some positive e k low high =
      let r : List ℤ = weights_row n at ws in
      let p : (int_cmp (row_value r a) (row_value r b) ≡ Equal) × (rows_cmp (last_first n (at + 1) (length ws - 1)) a b ≡ Equal) =
      then_equal _ _ e in
      elim (cases_lt at k) [
        | inl less ↦ falling_equal (at + 1) (length ws - 1) p.1 k (omega arith) (omega arith)
        | inr same ↦
            let i : at + 0 ≡ k = omega arith in
            let degrees : weighted ws (drop at a) ≡ weighted ws (drop at b) =
            nat_cmp_equal _ _ (sym (compare_weights_row n at ws a b) ∙ p.0) in
            let first : get_or (drop at a) 0 0 ≡ get_or (drop at b) 0 0 =
            first_same ws (drop at a) (drop at b) some positive degrees
            (λ q qp l. get_or-drop at a q 0 ∙ (falling_equal (at + 1) (length ws - 1) p.1 (at + q) (omega arith) (omega arith) ∙ sym (get_or-drop at b q 0))) in
            rw i at (sym (get_or-drop at a 0 0) ∙ (first ∙ get_or-drop at b 0 0))
      ]

-- ---- the whole numbers that rows compare

-- the exponents of the variables behind the first `at`, in order
abbrev pub rising_values : ℕ → ℕ → Monomial → List ℕ
rising_values at zero m = []
rising_values at (suc count) m = get_or m at 0 ∷ rising_values (at + 1) count m

-- by how much they are less than d, from the last to the first
abbrev pub falling_values : ℕ → ℕ → ℕ → Monomial → List ℕ
falling_values d at zero m = []
falling_values d at (suc count) m = (d - get_or m (at + count) 0) ∷ falling_values d at count m

pub length-rising_values : (at count : ℕ) (m : Monomial) → length (rising_values at count m) ≡ count
length-rising_values at zero m = refl
length-rising_values at (suc count) m = omega (arith, length-rising_values (at + 1) count m)

pub length-falling_values : (d at count : ℕ) (m : Monomial) → length (falling_values d at count m) ≡ count
length-falling_values d at zero m = refl
length-falling_values d at (suc count) m = omega (arith, length-falling_values d at count m)

nat_cmp-sub : (d x y : ℕ) → x ≤ d → y ≤ d → nat_cmp y x ≡ nat_cmp (d - x) (d - y)
nat_cmp-sub d x y a b = grind (arith, nat_cmp_is)

module _ (n : ℕ) (a b : Monomial) where
  pub rising_same : (at count : ℕ) →
      rows_cmp (first_first n at count) a b ≡ slice_cmp nat_cmp (rising_values at count a) (rising_values at count b)
  rising_same at zero = refl
  rising_same at (suc count) = λ i. ordering_then (compare_rising n at a b i) (rising_same (at + 1) count i)

  -- where d is not below the exponents, what is left of it compares as their negatives do
  falling_same : (d at count : ℕ) → ((k : ℕ) → at ≤ k → k < at + count → get_or a k 0 ≤ d) →
      ((k : ℕ) → at ≤ k → k < at + count → get_or b k 0 ≤ d) →
      rows_cmp (last_first n at count) a b ≡ slice_cmp nat_cmp (falling_values d at count a) (falling_values d at count b)
  falling_same d at zero ha hb = refl
  falling_same d at (suc count) ha hb =
      let first : int_cmp (row_value (row_of (negsuc 0) n (at + count) 1) a) (row_value (row_of (negsuc 0) n (at + count) 1) b)
      ≡ nat_cmp (d - get_or a (at + count) 0) (d - get_or b (at + count) 0) =
      compare_falling n (at + count) a b
      ∙ nat_cmp-sub d (get_or a (at + count) 0) (get_or b (at + count) 0) (ha (at + count) (omega arith) (omega arith)) (hb (at + count) (omega arith) (omega arith)) in
      let rest : rows_cmp (last_first n at count) a b ≡ slice_cmp nat_cmp (falling_values d at count a) (falling_values d at count b) =
      falling_same d at count (λ k low high. ha k low (omega arith)) (λ k low high. hb k low (omega arith)) in
      λ i. ordering_then (first i) (rest i)

  -- the weighted degree, and the exponents
  pub graded_rising_same : (at : ℕ) (ws : List ℕ) →
      rows_cmp (weights_row n at ws ∷ first_first n at (length ws)) a b
      ≡ slice_cmp nat_cmp (weighted ws (drop at a) ∷ rising_values at (length ws) a) (weighted ws (drop at b) ∷ rising_values at (length ws) b)
  graded_rising_same at ws i = ordering_then (compare_weights_row n at ws a b i) (rising_same at (length ws) i)

  -- The weighted degree, and by how much it is above the exponents from the last to the second.
  -- Where the degrees are equal, adding them to the negative rows changes no comparison.
  pub graded_falling_same : (at : ℕ) (ws : List ℕ) → IsPositive ws →
      rows_cmp (weights_row n at ws ∷ last_first n (at + 1) (length ws - 1)) a b
      ≡ slice_cmp nat_cmp (weighted ws (drop at a) ∷ falling_values (weighted ws (drop at a)) (at + 1) (length ws - 1) a)
      (weighted ws (drop at b) ∷ falling_values (weighted ws (drop at b)) (at + 1) (length ws - 1) b)
  graded_falling_same at ws positive =
      ap (λ o. ordering_then o (rows_cmp (last_first n (at + 1) (length ws - 1)) a b)) (compare_weights_row n at ws a b)
      ∙ by (nat_cmp (weighted ws (drop at a)) (weighted ws (drop at b))) refl
    where
      bound : (m : Monomial) (k : ℕ) → at + 1 ≤ k → k < at + 1 + (length ws - 1) → get_or m k 0 ≤ weighted ws (drop at m)
      bound m k low high =
          let j : at + (k - at) ≡ k = omega arith in
          let here : get_or (drop at m) (k - at) 0 ≡ get_or m k 0 = get_or-drop at m (k - at) 0 ∙ ap (λ x. get_or m x 0) j in
          omega (arith, here, exponent-le-weighted ws (drop at m) positive (k - at) (omega arith))

      by : (o : Ordering) → nat_cmp (weighted ws (drop at a)) (weighted ws (drop at b)) ≡ o →
          ordering_then o (rows_cmp (last_first n (at + 1) (length ws - 1)) a b)
          ≡ ordering_then o (slice_cmp nat_cmp (falling_values (weighted ws (drop at a)) (at + 1) (length ws - 1) a)
          (falling_values (weighted ws (drop at b)) (at + 1) (length ws - 1) b))
      by Less e = refl
      by Greater e = refl
      by Equal e =
          let same : weighted ws (drop at a) ≡ weighted ws (drop at b) = nat_cmp_equal _ _ e in
          falling_same (weighted ws (drop at a)) (at + 1) (length ws - 1) (bound a) (λ k low high. rw same (bound b k low high))
          ∙ ap (λ d. slice_cmp nat_cmp (falling_values (weighted ws (drop at a)) (at + 1) (length ws - 1) a) (falling_values d (at + 1) (length ws - 1) b)) same

-- ---- degrees are weighted degrees

-- the image of equal elements
pub map-replicate : (f : ℕ → ℤ) (n x : ℕ) → map f (replicate n x) ≡ replicate n (f x)
map-replicate f zero x = refl
map-replicate f (suc n) x = ap (λ z. f x ∷ z) (map-replicate f n x)

-- a row of ones is one of weights
pub ones_row : (n at len : ℕ) → row_of (pos 1) n at len ≡ weights_row n at (replicate len 1)
ones_row n at len =
    let l : length {A = ℕ} (replicate len 1) ≡ len = length-replicate len 1 in
    λ i. replicate at (pos 0) ++ (sym (map-replicate pos len 1) i ++ replicate (n - (at + sym l i)) (pos 0))

pub ones_positive : (len : ℕ) → IsPositive (replicate len 1)
ones_positive zero k l = absurd (omega arith)
ones_positive (suc len) zero l = omega arith
ones_positive (suc len) (suc k) l = ones_positive len k (omega arith)
