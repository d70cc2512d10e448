-- The values of rows at monomials.
use Rattle.std.proofs.Common.{◌≡◌, ℕ, zero, suc, ◌+◌, ◌-◌, ◌*◌, ◌≤◌, ◌<◌, List, [], ◌∷◌, length, ◌++◌, replicate, map, sum, take, drop, get_or, arith, refl, sym, ◌∙◌, ap, inl, inr, ℤ, pos, negsuc, ◌+ℤ◌, ◌*ℤ◌, neg_ℤ}
use Rattle.std.specs.Ordering.{nat_cmp, int_cmp}
use Rattle.std.proofs.Math.IntN.{zero-*ℤ, *ℤ-zero, negsuc-*ℤ-pos, +ℤ_idl, +ℤ_idr}
use Rattle.std.proofs.lemmas.Bool.{cases_lt}
use Rattle.std.proofs.lemmas.Bool.Decides.{nat_tests}
use Rattle.std.proofs.lemmas.Int.{ints}
use Rattle.std.proofs.lemmas.Nat.{mul-le}
use Rattle.std.proofs.lemmas.List.{length-replicate, get_or_past, get_or-drop}
use Rattle.std.proofs.lemmas.List.Sums.{sum_by-cons, sum_by-take-drop, sum_by_more, sum_by_more_le}
use Rattle.monomials.specs.Monomials.{zip_with}
use Rattle.monomials.specs.Orders.{row_value}
use Rattle.monomials.specs.Blocks.{row_of, weights_row}
use Rattle.monomials.specs.Rows.{weighted}
use Rattle.monomials.specs.Words.{spread}
use Rattle.monomials.specs.Padded.{IsPadded, exponents, sixteen, zeros}
use Rattle.monomials.proofs.OrderLaws.{times_sum}
use Rattle.monomials.proofs.Packing.{lanes_total}
use Rattle.monomials.specs.declared.expo.Expo.TheInside.{Inside}
use Rattle.monomials.proofs.Exponents.{take-zip_with, length-zip_with, get_or-zip_with, sum-zeros}

-- one more variable
pub weighted-cons : (w e : ℕ) (ws m : List ℕ) → weighted (w ∷ ws) (e ∷ m) ≡ w * e + weighted ws m
weighted-cons w e ws m = sum_by-cons (λ x. x) (w * e) (zip_with (λ x y. x * y) ws m)

-- a row of weights has the weighted degree as value
pub row_value-map_pos : (ws m : List ℕ) → row_value (map pos ws) m ≡ pos (weighted ws m)
row_value-map_pos [] m = refl
row_value-map_pos (w ∷ ws) [] = refl
row_value-map_pos (w ∷ ws) (e ∷ m) = rw (row_value-map_pos ws m, weighted-cons w e ws m)

-- the value of a row in two parts, each at its own variables
pub row_value-append : (rs ss : List ℤ) (m : List ℕ) → row_value (rs ++ ss) m ≡ row_value rs m +ℤ row_value ss (drop (length rs) m)
row_value-append [] ss m = sym (+ℤ_idl (row_value ss m))
row_value-append (r ∷ rs) [] [] = refl
row_value-append (r ∷ rs) (s ∷ ss) [] = refl
row_value-append (r ∷ rs) ss (e ∷ m) = rw (row_value-append rs ss m) (omega (arith, ints))

-- a row of equal entries
pub row_value-replicate : (z : ℤ) (n : ℕ) (m : List ℕ) → row_value (replicate n z) m ≡ z *ℤ pos (sum (take n m))
row_value-replicate z zero m = sym (*ℤ-zero z)
row_value-replicate z (suc n) [] = sym (*ℤ-zero z)
row_value-replicate z (suc n) (e ∷ m) =
    rw (row_value-replicate z n m) (sym (ap (λ x. z *ℤ pos x) (sum_by-cons (λ x. x) e (take n m)) ∙ times_sum z e (sum (take n m))))

row_value-zeros : (n : ℕ) (m : List ℕ) → row_value (replicate n (pos 0)) m ≡ pos 0
row_value-zeros n m = row_value-replicate (pos 0) n m ∙ zero-*ℤ (pos (sum (take n m)))

-- a row that has one entry at a range of variables, and zeros elsewhere
pub row_value-row_of : (z : ℤ) (n at len : ℕ) (m : List ℕ) → row_value (row_of z n at len) m ≡ z *ℤ pos (sum (take len (drop at m)))
row_value-row_of z n at len m =
    let back : List ℤ = replicate (n - (at + len)) (pos 0) in
    let front : ℤ = row_value (replicate at (pos 0)) m in
    let rest : List ℕ = drop at m in
    row_value-append (replicate at (pos 0)) (replicate len z ++ back) m
    ∙ (ap (λ k. front +ℤ row_value (replicate len z ++ back) (drop k m)) (length-replicate at (pos 0))
    ∙ (ap (λ x. x +ℤ row_value (replicate len z ++ back) rest) (row_value-zeros at m)
    ∙ (+ℤ_idl (row_value (replicate len z ++ back) rest)
    ∙ (row_value-append (replicate len z) back rest
    ∙ (ap (λ x. row_value (replicate len z) rest +ℤ x) (row_value-zeros (n - (at + len)) (drop (length (replicate len z)) rest))
    ∙ (+ℤ_idr (row_value (replicate len z) rest) ∙ row_value-replicate z len rest))))))

sum-take_one : (k : ℕ) (m : List ℕ) → sum (take 1 (drop k m)) ≡ get_or m k 0
sum-take_one zero [] = refl
sum-take_one zero (x ∷ m) = omega (arith, sum_by-cons (λ x. x) x [])
sum-take_one (suc k) [] = refl
sum-take_one (suc k) (x ∷ m) = sum-take_one k m

-- a row with one entry
pub row_value-unit : (z : ℤ) (n k : ℕ) (m : List ℕ) → row_value (row_of z n k 1) m ≡ z *ℤ pos (get_or m k 0)
row_value-unit z n k m = row_value-row_of z n k 1 m ∙ ap (λ x. z *ℤ pos x) (sum-take_one k m)

-- a row of weights at the variables behind the first `at`
pub row_value-weights_row : (n at : ℕ) (ws m : List ℕ) → row_value (weights_row n at ws) m ≡ pos (weighted ws (drop at m))
row_value-weights_row n at ws m =
    let back : List ℤ = replicate (n - (at + length ws)) (pos 0) in
    let front : ℤ = row_value (replicate at (pos 0)) m in
    let rest : List ℕ = drop at m in
    row_value-append (replicate at (pos 0)) (map pos ws ++ back) m
    ∙ (ap (λ k. front +ℤ row_value (map pos ws ++ back) (drop k m)) (length-replicate at (pos 0))
    ∙ (ap (λ x. x +ℤ row_value (map pos ws ++ back) rest) (row_value-zeros at m)
    ∙ (+ℤ_idl (row_value (map pos ws ++ back) rest)
    ∙ (row_value-append (map pos ws) back rest
    ∙ (ap (λ x. row_value (map pos ws) rest +ℤ x) (row_value-zeros (n - (at + length ws)) (drop (length (map pos ws)) rest))
    ∙ (+ℤ_idr (row_value (map pos ws) rest) ∙ row_value-map_pos ws rest))))))

-- whole numbers compare as integers do
pub int_cmp-pos : (x y : ℕ) → int_cmp (pos x) (pos y) ≡ nat_cmp x y
int_cmp-pos x y = grind (arith, ints, nat_tests)

minus_one : (x : ℕ) → negsuc 0 *ℤ pos x ≡ neg_ℤ (pos x)
minus_one x = let e : 1 * x ≡ x = omega arith in negsuc-*ℤ-pos 0 x ∙ ap (λ y. neg_ℤ (pos y)) e

int_cmp-neg : (x y : ℕ) → int_cmp (neg_ℤ (pos x)) (neg_ℤ (pos y)) ≡ nat_cmp y x
int_cmp-neg x y = grind (arith, ints, nat_tests)

-- of two negated numbers the one that was less is greater
pub int_cmp-minus : (x y : ℕ) → int_cmp (negsuc 0 *ℤ pos x) (negsuc 0 *ℤ pos y) ≡ nat_cmp y x
int_cmp-minus x y = rw (minus_one x, minus_one y) (int_cmp-neg x y)

-- how rows of weights, and rows of one entry, compare two monomials
pub compare_weights : (ws a b : List ℕ) → int_cmp (row_value (map pos ws) a) (row_value (map pos ws) b) ≡ nat_cmp (weighted ws a) (weighted ws b)
compare_weights ws a b = rw (row_value-map_pos ws a, row_value-map_pos ws b) (int_cmp-pos (weighted ws a) (weighted ws b))

pub compare_weights_row : (n at : ℕ) (ws a b : List ℕ) →
    int_cmp (row_value (weights_row n at ws) a) (row_value (weights_row n at ws) b)
    ≡ nat_cmp (weighted ws (drop at a)) (weighted ws (drop at b))
compare_weights_row n at ws a b =
    rw (row_value-weights_row n at ws a, row_value-weights_row n at ws b) (int_cmp-pos (weighted ws (drop at a)) (weighted ws (drop at b)))

once : (x : ℕ) → pos 1 *ℤ pos x ≡ pos x
once x = ap pos (omega arith)

pub compare_rising : (n k : ℕ) (a b : List ℕ) →
    int_cmp (row_value (row_of (pos 1) n k 1) a) (row_value (row_of (pos 1) n k 1) b) ≡ nat_cmp (get_or a k 0) (get_or b k 0)
compare_rising n k a b =
    let left : row_value (row_of (pos 1) n k 1) a ≡ pos (get_or a k 0) = row_value-unit (pos 1) n k a ∙ once (get_or a k 0) in
    let right : row_value (row_of (pos 1) n k 1) b ≡ pos (get_or b k 0) = row_value-unit (pos 1) n k b ∙ once (get_or b k 0) in
    rw (left, right) (int_cmp-pos (get_or a k 0) (get_or b k 0))

pub compare_falling : (n k : ℕ) (a b : List ℕ) →
    int_cmp (row_value (row_of (negsuc 0) n k 1) a) (row_value (row_of (negsuc 0) n k 1) b) ≡ nat_cmp (get_or b k 0) (get_or a k 0)
compare_falling n k a b =
    rw (row_value-unit (negsuc 0) n k a, row_value-unit (negsuc 0) n k b) (int_cmp-minus (get_or a k 0) (get_or b k 0))

-- under weights of at most 65535 a value is at most 65535 times the degree
pub weighted-le : (ws m : List ℕ) → ((k : ℕ) → get_or ws k 0 ≤ 65535) → weighted ws m ≤ 65535 * sum m
weighted-le [] m h = omega arith
weighted-le (w ∷ ws) [] h = omega arith
weighted-le (w ∷ ws) (e ∷ m) h =
    let a : w * e ≤ 65535 * e = mul-le w e 65535 e (h 0) (omega arith) in
    omega (arith, a, weighted-cons w e ws m, sum_by-cons (λ x. x) e m, weighted-le ws m (λ k. h (suc k)))

-- the padding adds nothing
pub weighted-exponents : (e : Inside) (ws : List ℕ) → IsPadded e → length ws ≡ 16 →
    weighted (take e.len ws) (exponents e) ≡ weighted ws (spread e.words)
weighted-exponents e ws h n =
    let f : ℕ → ℕ → ℕ = λ w m. w * m in
    let zs : List ℕ = zip_with f ws (spread e.words) in
    let rest : (k : ℕ) → get_or (drop e.len zs) k 0 ≡ 0 = λ k.
    get_or-drop e.len zs k 0 ∙
    elim (cases_lt (e.len + k) 16) [
      | inr past ↦ get_or_past zs (e.len + k) 0 (omega (arith, length-zip_with f ws (spread e.words) (n ∙ sym (sixteen e h))))
      | inl in' ↦
          get_or-zip_with f ws (spread e.words) (e.len + k) (n ∙ sym (sixteen e h)) (omega arith)
          ∙ (ap (λ x. get_or ws (e.len + k) 0 * x) (h.padding (e.len + k) (omega arith)) ∙ omega arith)
    ] in
    let z : sum (drop e.len zs) ≡ 0 = ap sum (zeros (drop e.len zs) rest) ∙ sum-zeros (length (drop e.len zs)) in
    ap sum (sym (take-zip_with f e.len ws (spread e.words))) ∙ omega (arith, sum_by-take-drop (λ x. x) zs e.len)

-- one more place in the sum of weight times exponent
module _ (e : Inside) (ws : List ℕ) (i : ℕ) (h : IsPadded e) (n : length ws ≡ 16) (below : i < 16) where
  all_zip : length (zip_with (λ w m. w * m) ws (spread e.words)) ≡ 16
  all_zip = length-zip_with (λ w m. w * m) ws (spread e.words) (n ∙ sym (sixteen e h)) ∙ n

  place_is : get_or (zip_with (λ w m. w * m) ws (spread e.words)) i 0 ≡ get_or ws i 0 * get_or (spread e.words) i 0
  place_is = get_or-zip_with (λ w m. w * m) ws (spread e.words) i (n ∙ sym (sixteen e h)) (omega (arith, n))

  -- the sum so far
  pub weighted_step : sum (take (i + 1) (zip_with (λ w m. w * m) ws (spread e.words)))
      ≡ sum (take i (zip_with (λ w m. w * m) ws (spread e.words))) + get_or ws i 0 * get_or (spread e.words) i 0
  weighted_step =
      sum_by_more (λ x. x) (zip_with (λ w m. w * m) ws (spread e.words)) i 0 (omega (arith, all_zip))
      ∙ ap (λ x. sum (take i (zip_with (λ w m. w * m) ws (spread e.words))) + x) place_is

  -- it fits 32 bits
  pub weighted_fits : ((k : ℕ) → get_or ws k 0 ≤ 65535) →
      sum (take i (zip_with (λ w m. w * m) ws (spread e.words))) + get_or ws i 0 * get_or (spread e.words) i 0 ≤ 2147385345
  weighted_fits small =
      omega (
        arith,
        sum_by_more_le (λ x. x) (zip_with (λ w m. w * m) ws (spread e.words)) i 0 (omega (arith, all_zip)),
        place_is,
        weighted-le ws (spread e.words) small,
        lanes_total e h,
        h.small,
      )
