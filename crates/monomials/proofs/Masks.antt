-- Masks of monomials.
use Rattle.std.proofs.Common.{◌≡◌, ℕ, zero, suc, ◌+◌, ◌*◌, ◌^◌, ◌-◌, ◌≤◌, ◌<◌, ◌↔◌, min, drop, nat_le, IsTrue, List, [], ◌∷◌, length, get_or, arith, refl, sym, ◌∙◌, ap}
use Rattle.std.specs.Int.Bits.{bit_and}
use Rattle.std.specs.Int.{bit_at}
use Rattle.std.proofs.Math.Nat.{zero-div}
use Rattle.std.proofs.lemmas.Nat.{and_block}
use Rattle.std.proofs.lemmas.Nat.Bits.{bit_at-zero, bit_at_cat_low, bit_at_cat_high}
use Rattle.std.proofs.lemmas.List.{length-drop}
use Rattle.std.proofs.lemmas.Bool.{and_parts, leb-true}
use Rattle.monomials.specs.Monomials.{divides}
use Rattle.monomials.specs.Masks.{reached, nibble, mask}

-- one bit more
pub bit-and : (a b r s k : ℕ) → r < 2 ^ k → s < 2 ^ k → a ≤ b → b ≤ 1 → bit_and r s ≡ r → bit_and (a * 2 ^ k + r) (b * 2 ^ k + s) ≡ a * 2 ^ k + r
bit-and zero b r s k hr hs le one e = and_block k 0 b r s hr hs ∙ ap (λ n. 0 * 2 ^ k + n) e
bit-and (suc zero) zero r s k hr hs le one e = absurd (omega arith)
bit-and (suc zero) (suc zero) r s k hr hs le one e = and_block k 1 1 r s hr hs ∙ ap (λ n. 1 * 2 ^ k + n) e
bit-and (suc zero) (suc (suc b)) r s k hr hs le one e = absurd (omega arith)
bit-and (suc (suc a)) b r s k hr hs le one e = absurd (omega arith)

pub low-bit : (a b : ℕ) → a ≤ b → b ≤ 1 → bit_and a b ≡ a
low-bit zero b le one = refl
low-bit (suc zero) zero le one = absurd (omega arith)
low-bit (suc zero) (suc zero) le one = refl
low-bit (suc zero) (suc (suc b)) le one = absurd (omega arith)
low-bit (suc (suc a)) b le one = absurd (omega arith)

-- a lower exponent has no bit more
pub nibble-and : (x y : ℕ) → x ≤ y → bit_and (nibble x) (nibble y) ≡ nibble x
nibble-and x y h =
    bit-and (reached 8 x) (reached 8 y) (reached 4 x * 4 + (reached 2 x * 2 + reached 1 x)) (reached 4 y * 4 + (reached 2 y * 2 + reached 1 y)) 3
    (omega arith) (omega arith) (omega (arith, h)) (omega arith)
    (bit-and (reached 4 x) (reached 4 y) (reached 2 x * 2 + reached 1 x) (reached 2 y * 2 + reached 1 y) 2
    (omega arith) (omega arith) (omega (arith, h)) (omega arith)
    (bit-and (reached 2 x) (reached 2 y) (reached 1 x) (reached 1 y) 1 (omega arith) (omega arith) (omega (arith, h)) (omega arith)
    (low-bit (reached 1 x) (reached 1 y) (omega (arith, h)) (omega arith))))

pub nibble-below : (x : ℕ) → nibble x < 16
nibble-below x = omega arith

-- the mask of a divisor has no bit that the other's lacks
pub mask-divides : (xs ys : List ℕ) → length xs ≡ length ys → IsTrue (divides xs ys) → bit_and (mask xs) (mask ys) ≡ mask xs
mask-divides [] ys e h = refl
mask-divides (x ∷ xs) [] e h = absurd (omega arith)
mask-divides (x ∷ xs) (y ∷ ys) e h =
    let le : x ≤ y = leb-true x y (and_parts _ (divides xs ys) h).0 in
    let ih : bit_and (mask xs) (mask ys) ≡ mask xs = mask-divides xs ys (omega arith) (and_parts (nat_le x y) _ h).1 in
    and_block 4 (mask xs) (mask ys) (nibble x) (nibble y) (nibble-below x) (nibble-below y) ∙ omega (arith, ih, nibble-and x y le)

pub mask-below : (m : List ℕ) (n : ℕ) → length m ≤ n → mask m < 16 ^ n
mask-below [] n h = pow_pos n
  where
    pow_pos : (n : ℕ) → 0 < 16 ^ n
    pow_pos zero = omega arith
    pow_pos (suc n) = omega (arith, pow_pos n)
mask-below (x ∷ m) zero h = absurd (omega arith)
mask-below (x ∷ m) (suc n) h = omega (arith, nibble-below x, mask-below m n (omega arith))

-- the four bits of an exponent
pub nibble-bits : (x t : ℕ) → t ≤ 3 → bit_at (nibble x) t ≡ reached (2 ^ t) x
nibble-bits x zero h = omega arith
nibble-bits x (suc zero) h = omega arith
nibble-bits x (suc (suc zero)) h = omega arith
nibble-bits x (suc (suc (suc zero))) h = omega arith
nibble-bits x (suc (suc (suc (suc t)))) h = absurd (omega arith)

-- the bits of a mask
pub mask-bits : (m : List ℕ) (k t : ℕ) → t ≤ 3 → bit_at (mask m) (4 * k + t) ≡ reached (2 ^ t) (get_or m k 0)
mask-bits [] k t h = bit_at-zero (4 * k + t) ∙ sym (none t)
  where
    none : (t : ℕ) → reached (2 ^ t) 0 ≡ 0
    none t = ap (λ q. min 1 q) (zero-div (2 ^ t))
mask-bits (x ∷ m) zero t h =
    let e : 4 * 0 + t ≡ t = omega arith in
    ap (λ n. bit_at (mask m * 16 + nibble x) n) e ∙ (bit_at_cat_low (mask m) 4 (nibble x) t (omega arith) ∙ nibble-bits x t h)
mask-bits (x ∷ m) (suc k) t h =
    let e : 4 * suc k + t - 4 ≡ 4 * k + t = omega arith in
    bit_at_cat_high (mask m) 4 (nibble x) (4 * suc k + t) (nibble-below x) (omega arith)
    ∙ (ap (λ n. bit_at (mask m) n) e ∙ mask-bits m k t h)

pub reached-is : (x t : ℕ) → t ≤ 3 → (reached (2 ^ t) x ≡ 1) ↔ (2 ^ t ≤ x)
reached-is x zero h = (λ e. omega (arith, e), λ e. omega (arith, e))
reached-is x (suc zero) h = (λ e. omega (arith, e), λ e. omega (arith, e))
reached-is x (suc (suc zero)) h = (λ e. omega (arith, e), λ e. omega (arith, e))
reached-is x (suc (suc (suc zero))) h = (λ e. omega (arith, e), λ e. omega (arith, e))
reached-is x (suc (suc (suc (suc t)))) h = absurd (omega arith)

-- a bit is set exactly where the exponent reaches its power of 2
pub bits_are : (m : List ℕ) (v t : ℕ) → t ≤ 3 → (bit_at (mask m) (4 * (v - 1) + t) ≡ 1) ↔ (2 ^ t ≤ get_or m (v - 1) 0)
bits_are m v t h =
    let e : bit_at (mask m) (4 * (v - 1) + t) ≡ reached (2 ^ t) (get_or m (v - 1) 0) = mask-bits m (v - 1) t h in
    let is : (reached (2 ^ t) (get_or m (v - 1) 0) ≡ 1) ↔ (2 ^ t ≤ get_or m (v - 1) 0) = reached-is (get_or m (v - 1) 0) t h in
    (λ b. is.0 (sym e ∙ b), λ le. e ∙ is.1 le)

-- one more exponent in front
pub mask-drop : (m : List ℕ) (k : ℕ) → 1 ≤ k → k ≤ length m → mask (drop (k - 1) m) ≡ mask (drop k m) * 16 + nibble (get_or m (k - 1) 0)
mask-drop m zero one h = absurd (omega arith)
mask-drop [] (suc k) one h = absurd (omega arith)
mask-drop (x ∷ m) (suc zero) one h = refl
mask-drop (x ∷ m) (suc (suc k)) one h =
    let e : suc (suc k) - 1 ≡ suc k = omega arith in
    let f : suc k - 1 ≡ k = omega arith in
    let ih : mask (drop (suc k - 1) m) ≡ mask (drop (suc k) m) * 16 + nibble (get_or m (suc k - 1) 0) = mask-drop m (suc k) (omega arith) (omega arith) in
    rw e (ap (λ i. mask (drop i m)) (sym f) ∙ (ih ∙ ap (λ i. mask (drop (suc k) m) * 16 + nibble (get_or m i 0)) f))

-- and it fits a word
pub mask-fits : (m : List ℕ) (k : ℕ) → 1 ≤ k → k ≤ length m → length m ≤ 16 → mask (drop k m) * 16 + nibble (get_or m (k - 1) 0) < 2 ^ 64
mask-fits m k one h few =
    omega (arith, mask-drop m k one h, mask-below (drop (k - 1) m) 16 (omega (arith, length-drop (k - 1) m)))

-- the mask of x_1 x_2^2 x_3^3
pub mask_row : mask (1 ∷ 2 ∷ 3 ∷ []) ≡ 817
mask_row = refl
