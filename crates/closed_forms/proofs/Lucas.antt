-- Gaussian binomials by digits (after Lucas 1878): modulo p the binomial of n = N m + r and k = K m + s is C(N,K) [r,s]_q, where m
-- is the least number from 1 on whose q-number is zero.
use Rattle.std.proofs.Common.{◌≡◌, ℕ, zero, suc, ◌+◌, ◌-◌, ◌*◌, ◌/◌, ◌%◌, ◌^◌, ◌<◌, ◌≤◌, ◌⊎◌, inl, inr, refl, sym, ap, ◌∙◌, arith, pow-add, mod-lt, mod-eq_of_lt}
use Rattle.std.proofs.Math.Nat.{pow-zero, pow-succ', div-add-mod, div-eq_of_lt}
use Rattle.monomials.proofs.Modulo.{Same, same_refl, same_add, same_mul, same_mul_right, same_rest}
use Rattle.word_model.specs.Conditions.{NonZero, IsField}
use Rattle.closed_forms.specs.Binomials.{q_number, gaussian}
use Rattle.closed_forms.specs.Inside.Tables.{IsFree, IsBase}
use Rattle.closed_forms.proofs.Pascal.{gaussian-above, binomial-step}
use Rattle.closed_forms.proofs.Residues.{same_times}

module _ (q : ℕ) where
  pub q_number-add : (a b : ℕ) → q_number q (a + b) ≡ q_number q a + q ^ a * q_number q b
  q_number-add zero b =
      let e : 0 + b ≡ b = omega arith in
      rw (e, pow-zero q) (omega arith)
  q_number-add (suc a) b =
      let e : suc a + b ≡ suc (a + b) = omega arith in
      rw (e, pow-succ' q a) (collect q (q_number q (a + b)) (q_number q a) (q ^ a) (q_number q b) (q_number-add a b))
    where
      collect : (q s x y z : ℕ) → s ≡ x + y * z → 1 + q * s ≡ 1 + q * x + q * y * z
      collect q s x y z e = rw e (omega arith)

  -- ---- neighbours in a row

  some_or_none : (n k : ℕ) → (n < suc k) ⊎ (suc k ≤ n)
  some_or_none n k = grind arith

  -- [j+1] + q^(j+1) [n-j] is [n+1], unless the binomial is zero
  whole : (n k j : ℕ) → j ≤ suc k → (q_number q (suc j) + q ^ suc j * q_number q (n - j)) * gaussian q n (suc k) ≡ q_number q (suc n) * gaussian q n (suc k)
  whole n k j h = by (some_or_none n k)
    where
      by : (n < suc k) ⊎ (suc k ≤ n) → (q_number q (suc j) + q ^ suc j * q_number q (n - j)) * gaussian q n (suc k) ≡ q_number q (suc n) * gaussian q n (suc k)
      by (inl above) = rw (gaussian-above q n (suc k) above) (omega arith)
      by (inr within) =
          let e : suc j + (n - j) ≡ suc n = omega arith in
          ap (λ x. x * gaussian q n (suc k)) (sym (q_number-add (suc j) (n - j)) ∙ ap (q_number q) e)

  -- [k+1] [n,k+1] = [n-k] [n,k]
  pub neighbours : (n k : ℕ) → q_number q (suc k) * gaussian q n (suc k) ≡ q_number q (n - k) * gaussian q n k
  neighbours zero k = let none : 0 - k ≡ 0 = omega arith in rw none (omega arith)
  neighbours (suc n) zero =
      let e : suc n - 0 ≡ suc n = omega arith in
      let f : n - 0 ≡ n = omega arith in
      let one : q ^ 1 ≡ q = pow-succ' q 0 ∙ rw (pow-zero q) (omega arith) in
      let before : q_number q 1 * gaussian q n 1 ≡ q_number q n * 1 = neighbours n 0 ∙ ap (λ r. q_number q r * 1) f in
      rw e (first q (q ^ 1) (gaussian q n 1) (q_number q n) one before)
    where
      first : (q q' g x : ℕ) → q' ≡ q → (1 + q * 0) * g ≡ x * 1 → (1 + q * 0) * (1 + q' * g) ≡ (1 + q * x) * 1
      first q q' g x e h =
          let times : q * ((1 + q * 0) * g) ≡ q * (x * 1) = ap (λ r. q * r) h in
          rw e (omega (arith, times))
  neighbours (suc n) (suc k) =
      let e : suc n - suc k ≡ n - k = omega arith in
      rw e
      (collect (q_number q (suc (suc k))) (gaussian q n (suc k)) (q ^ suc (suc k)) (gaussian q n (suc (suc k))) (q_number q (n - k)) (gaussian q n k) (q ^ suc k) (q_number q (n - suc k)) (q_number q (suc k)) (q_number q (suc n))
      (neighbours n k) (neighbours n (suc k)) (whole n k (suc k) (omega arith)) (whole n k k (omega arith)))
    where
      collect : (l g1 y g2 m g0 x m' l' n : ℕ) → l' * g1 ≡ m * g0 → l * g2 ≡ m' * g1 → (l + y * m') * g1 ≡ n * g1 → (l' + x * m) * g1 ≡ n * g1
          → l * (g1 + y * g2) ≡ m * (g0 + x * g1)
      collect l g1 y g2 m g0 x m' l' n low high left right =
          let times : y * (l * g2) ≡ y * (m' * g1) = ap (λ r. y * r) high in
          omega arith

  pub diagonal : (n : ℕ) → gaussian q n n ≡ 1
  diagonal zero = refl
  diagonal (suc n) = rw (diagonal n, gaussian-above q n (suc n) (omega arith)) (omega arith)

module _ (p q : ℕ) where
  -- from the entry at k of a digit's row to that at k + 1
  pub next_in_row : (n k x y : ℕ) → x ≡ gaussian q n k % p → ((q_number q (suc k) % p) * y) % p ≡ 1 % p
      → (x * (((q_number q (n - k) % p) * y) % p)) % p ≡ gaussian q n (suc k) % p
  next_in_row n k x y e inverse =
      let here : Same p (q_number q (suc k) * y) 1 = same_mul_right p y _ _ (sym (same_rest p (q_number q (suc k)))) ∙ inverse in
      let moved : gaussian q n k * (q_number q (n - k) * y) ≡ gaussian q n (suc k) * (q_number q (suc k) * y) =
      exchange (gaussian q n k) (q_number q (n - k)) y (gaussian q n (suc k)) (q_number q (suc k)) (neighbours q n k) in
      rw e
      (same_times p _ _ _ _ (same_rest p (gaussian q n k)) (same_rest p ((q_number q (n - k) % p) * y) ∙ same_mul_right p y _ _ (same_rest p (q_number q (n - k))))
      ∙ same_refl p _ _ moved
      ∙ same_mul p (gaussian q n (suc k)) _ _ here
      ∙ same_refl p _ _ (omega arith))
    where
      exchange : (g m y g' l : ℕ) → l * g' ≡ m * g → g * (m * y) ≡ g' * (l * y)
      exchange g m y g' l h = let times : y * (l * g') ≡ y * (m * g) = ap (λ r. y * r) h in omega arith

-- ---- digits

-- n = N m + r, one more
up : (n m r : ℕ) → n * m + suc r ≡ suc (n * m + r)
up n m r = omega arith

-- from the last digit to the next N
over : (n m : ℕ) → suc n * suc m + 0 ≡ suc (n * suc m + m)
over n m = omega arith

module _ (p q m : ℕ) (field : IsField p) (free : IsFree p q (suc m)) (period : q_number q (suc m) % p ≡ 0) where
  none : Same p (q_number q (suc m)) 0
  none = period ∙ sym (mod-eq_of_lt (omega (arith, field.more)))

  -- q^(m+1) is 1
  one_power : Same p (q ^ suc m) 1
  one_power =
      let e : suc m + 1 ≡ suc (suc m) = omega arith in
      let both : q_number q (suc m) + q ^ suc m * (1 + q * 0) ≡ 1 + q * q_number q (suc m) = sym (q_number-add q (suc m) 1) ∙ ap (q_number q) e in
      same_refl p _ _ (omega arith)
      ∙ same_add p 0 _ (q ^ suc m * (1 + q * 0)) _ (sym none) refl
      ∙ same_refl p _ _ both
      ∙ same_add p 1 1 _ _ refl (same_mul p q _ _ none)
      ∙ same_refl p _ _ (omega arith)

  -- so the power of a number is that of its digit
  digit_power : (k r : ℕ) → Same p (q ^ (k * suc m + r)) (q ^ r)
  digit_power zero r = let e : 0 * suc m + r ≡ r = omega arith in same_refl p _ _ (ap (λ x. q ^ x) e)
  digit_power (suc k) r =
      let e : suc k * suc m + r ≡ suc m + (k * suc m + r) = omega arith in
      same_refl p _ _ (ap (λ x. q ^ x) e ∙ pow-add q (suc m) (k * suc m + r))
      ∙ same_times p _ _ _ _ one_power (digit_power k r)
      ∙ same_refl p _ _ (omega arith)

  -- no q-number of a digit divides zero
  no_divisor : (t g : ℕ) → 1 ≤ t → t < suc m → Same p (q_number q t * g) 0 → Same p g 0
  no_divisor t g low high zero_product =
      let nonzero : NonZero p (q_number q t) = λ z. free t low high (z ∙ mod-eq_of_lt (omega (arith, field.more))) in
      let unit : (b : ℕ) × ((b * q_number q t) % p ≡ 1 % p) = field.unit (q_number q t) nonzero in
      same_refl p _ _ (omega arith)
      ∙ sym (same_mul_right p g _ _ unit.1)
      ∙ same_refl p _ _ (omega arith)
      ∙ same_mul p unit.0 _ _ zero_product
      ∙ same_refl p _ _ (omega arith)

  -- the row of m + 1 has nothing between its ends
  vanishes : (s : ℕ) → suc s < suc m → Same p (gaussian q (suc m) (suc s)) 0
  vanishes zero h =
      let e : suc m - 0 ≡ suc m = omega arith in
      no_divisor 1 (gaussian q (suc m) 1) (omega arith) h
      (same_refl p _ _ (neighbours q (suc m) 0 ∙ ap (λ r. q_number q r * 1) e) ∙ same_mul_right p 1 _ _ none)
  vanishes (suc s) h =
      no_divisor (suc (suc s)) (gaussian q (suc m) (suc (suc s))) (omega arith) h
      (same_refl p _ _ (neighbours q (suc m) (suc s)) ∙ same_mul p (q_number q (suc m - suc s)) _ _ (vanishes s (omega arith)) ∙ same_refl p _ _ (omega arith))

  -- ---- the binomials of n = N (m + 1) + r

  -- the claim at N and r, for each k = K (m + 1) + s
  abbrev ByDigits : ℕ → ℕ → Type 0
  ByDigits n r = (k s : ℕ) → s < suc m → Same p (gaussian q (n * suc m + r) (k * suc m + s)) (gaussian 1 n k * gaussian q r s)

  at_zero : (x : ℕ) → gaussian q x (0 * suc m + 0) ≡ 1
  at_zero x = let e : 0 * suc m + 0 ≡ 0 = omega arith in ap (gaussian q x) e

  -- Pascal's rule at k + 1, where the entries are known
  pascal : (x k s u v : ℕ) → Same p (gaussian q x k) u → Same p (gaussian q x (suc k)) v → Same p (q ^ suc k) (q ^ s)
      → Same p (gaussian q (suc x) (suc k)) (u + q ^ s * v)
  pascal x k s u v eu ev e = same_add p _ _ _ _ eu (same_times p _ _ _ _ e ev)

  start : ByDigits 0 0
  start zero zero h = same_refl p _ _ (at_zero (0 * suc m + 0))
  start zero (suc s) h =
      let e : 0 * suc m + 0 ≡ 0 = omega arith in
      same_refl p _ _ (ap (λ x. gaussian q x (0 * suc m + suc s)) e ∙ gaussian-above q 0 (0 * suc m + suc s) (omega arith))
  start (suc k) s h =
      let e : 0 * suc m + 0 ≡ 0 = omega arith in
      same_refl p _ _ (ap (λ x. gaussian q x (suc k * suc m + s)) e ∙ gaussian-above q 0 (suc k * suc m + s) (omega arith) ∙ omega arith)

  within_digit : (n r : ℕ) → suc r < suc m → ByDigits n r → ByDigits n (suc r)
  within_digit n r low before zero zero h = same_refl p _ _ (at_zero (n * suc m + suc r))
  within_digit n r low before (suc k) zero h =
      let x : ℕ = n * suc m + r in
      let last : gaussian 1 n k * gaussian q r m ≡ 0 = rw (gaussian-above q r m (omega arith)) (omega arith) in
      same_refl p _ _ (λ i. gaussian q (up n (suc m) r i) (over k m i))
      ∙ pascal x (k * suc m + m) 0 (gaussian 1 n k * gaussian q r m) (gaussian 1 n (suc k) * 1)
      (before k m (omega arith))
      (same_refl p _ _ (ap (gaussian q x) (sym (over k m))) ∙ before (suc k) 0 h)
      (same_refl p _ _ (ap (λ e. q ^ e) (sym (over k m))) ∙ digit_power (suc k) 0)
      ∙ same_refl p _ _ (rw (last, pow-zero q) (omega arith))
  within_digit n r low before k (suc s) h =
      let x : ℕ = n * suc m + r in
      same_refl p _ _ (λ i. gaussian q (up n (suc m) r i) (up k (suc m) s i))
      ∙ pascal x (k * suc m + s) (suc s) (gaussian 1 n k * gaussian q r s) (gaussian 1 n k * gaussian q r (suc s))
      (before k s (omega arith))
      (same_refl p _ _ (ap (gaussian q x) (sym (up k (suc m) s))) ∙ before k (suc s) h)
      (same_refl p _ _ (ap (λ e. q ^ e) (sym (up k (suc m) s))) ∙ digit_power k (suc s))
      ∙ same_refl p _ _ (collect (gaussian 1 n k) (gaussian q r s) (q ^ suc s) (gaussian q r (suc s)))
    where
      collect : (c g y h : ℕ) → c * g + y * (c * h) ≡ c * (g + y * h)
      collect c g y h = omega arith

  carry : (n : ℕ) → ByDigits n m → ByDigits (suc n) 0
  carry n before zero zero h = same_refl p _ _ (at_zero (suc n * suc m + 0))
  carry n before (suc k) zero h =
      let x : ℕ = n * suc m + m in
      same_refl p _ _ (λ i. gaussian q (over n m i) (over k m i))
      ∙ pascal x (k * suc m + m) 0 (gaussian 1 n k * gaussian q m m) (gaussian 1 n (suc k) * 1)
      (before k m (omega arith))
      (same_refl p _ _ (ap (gaussian q x) (sym (over k m))) ∙ before (suc k) 0 h)
      (same_refl p _ _ (ap (λ e. q ^ e) (sym (over k m))) ∙ digit_power (suc k) 0)
      ∙ same_refl p _ _ (collect (gaussian 1 n k) (gaussian q m m) (q ^ 0) (gaussian 1 n (suc k)) (gaussian 1 (suc n) (suc k)) (diagonal q m) (pow-zero q) (binomial-step n k))
    where
      collect : (a d y b s : ℕ) → d ≡ 1 → y ≡ 1 → s ≡ a + b → a * d + y * (b * 1) ≡ s * 1
      collect a d y b s ed ey es = rw (ed, ey, es) (omega arith)
  carry n before k (suc s) h =
      let x : ℕ = n * suc m + m in
      same_refl p _ _ (λ i. gaussian q (over n m i) (up k (suc m) s i))
      ∙ pascal x (k * suc m + s) (suc s) (gaussian 1 n k * gaussian q m s) (gaussian 1 n k * gaussian q m (suc s))
      (before k s (omega arith))
      (same_refl p _ _ (ap (gaussian q x) (sym (up k (suc m) s))) ∙ before k (suc s) h)
      (same_refl p _ _ (ap (λ e. q ^ e) (sym (up k (suc m) s))) ∙ digit_power k (suc s))
      ∙ same_refl p _ _ (collect (gaussian 1 n k) (gaussian q m s) (q ^ suc s) (gaussian q m (suc s)))
      ∙ same_mul p (gaussian 1 n k) _ _ (vanishes s h)
      ∙ same_refl p _ _ (omega arith)
    where
      collect : (c g y h : ℕ) → c * g + y * (c * h) ≡ c * (g + y * h)
      collect c g y h = omega arith

  along_digit : (n : ℕ) → ByDigits n 0 → (r : ℕ) → r < suc m → ByDigits n r
  along_digit n before zero low = before
  along_digit n before (suc r) low = within_digit n r low (along_digit n before r (omega arith))

  first_of_digit : (n : ℕ) → ByDigits n 0
  first_of_digit zero = start
  first_of_digit (suc n) = carry n (along_digit n (first_of_digit n) m (omega arith))

  by_digits : (n r : ℕ) → r < suc m → ByDigits n r
  by_digits n r low = along_digit n (first_of_digit n) r low

-- the binomials by the parts of n and k to a base
pub split : (p q m n k : ℕ) → IsField p → IsBase p q m n → k ≤ n → Same p (gaussian q n k) (gaussian 1 (n / m) (k / m) * gaussian q (n % m) (k % m))
split p q zero n k field base h = absurd (omega (arith, base.positive))
split p q (suc m) n k field base h = by base.zero_there
  where
    by : (n < suc m) ⊎ (q_number q (suc m) % p ≡ 0) → Same p (gaussian q n k) (gaussian 1 (n / suc m) (k / suc m) * gaussian q (n % suc m) (k % suc m))
    by (inl small) =
        let n_none : n / suc m ≡ 0 = div-eq_of_lt small in
        let k_none : k / suc m ≡ 0 = div-eq_of_lt (omega arith) in
        let n_is : n % suc m ≡ n = mod-eq_of_lt small in
        let k_is : k % suc m ≡ k = mod-eq_of_lt (omega arith) in
        rw (n_none, k_none, n_is, k_is) (same_refl p _ _ (omega arith))
    by (inr period) =
        let n_is : n / suc m * suc m + n % suc m ≡ n = omega (arith, div-add-mod n (suc m)) in
        let k_is : k / suc m * suc m + k % suc m ≡ k = omega (arith, div-add-mod k (suc m)) in
        same_refl p _ _ (λ i. gaussian q (sym n_is i) (sym k_is i))
        ∙ by_digits p q m field base.free period (n / suc m) (n % suc m) (mod-lt n (omega arith)) (k / suc m) (k % suc m) (mod-lt k (omega arith))
