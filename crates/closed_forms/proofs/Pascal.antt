-- Gaussian binomials: where they vanish, and the step from b to b + 1.
use Rattle.std.proofs.Common.{◌≡◌, ℕ, zero, suc, ◌+◌, ◌-◌, ◌*◌, ◌^◌, ◌<◌, ◌≤◌, ◌⊎◌, inl, inr, refl, sym, ap, ◌∙◌, arith, pow-add}
use Rattle.std.proofs.Math.Nat.{pow-zero, pow-succ'}
use Rattle.closed_forms.specs.Binomials.{q_number, gaussian}

-- The product [n]_q [n-1]_q .. of k factors. At q = 1 it is k! C(n,k).
abbrev pub falling_product : ℕ → ℕ → ℕ → ℕ
falling_product q n zero = 1
falling_product q zero (suc k) = 0
falling_product q (suc n) (suc k) = q_number q (suc n) * falling_product q n k

-- The number at x^(b-k) y^(a-k) where y x = q x y + δ, with [a,k]_q [k]_q! as one falling product.
abbrev pub falling_number : ℕ → ℕ → ℕ → ℕ → ℕ → ℕ
falling_number q delta a b k = delta ^ k * (q ^ ((a - k) * (b - k)) * (gaussian q b k * falling_product q a k))

-- above n there is no binomial
pub gaussian-above : (q n k : ℕ) → n < k → gaussian q n k ≡ 0
gaussian-above q n zero h = absurd (omega arith)
gaussian-above q zero (suc k) h = refl
gaussian-above q (suc n) (suc k) h =
    let a : gaussian q n k ≡ 0 = gaussian-above q n k (omega arith) in
    let b : gaussian q n (suc k) ≡ 0 = gaussian-above q n (suc k) (omega arith) in
    let c : q ^ suc k * gaussian q n (suc k) ≡ q ^ suc k * 0 = ap (λ x. q ^ suc k * x) b in
    omega arith

-- more than n factors from [n]_q down have [0]_q among them
pub falling_product-above : (q n k : ℕ) → n < k → falling_product q n k ≡ 0
falling_product-above q n zero h = absurd (omega arith)
falling_product-above q zero (suc k) h = refl
falling_product-above q (suc n) (suc k) h =
    ap (λ x. q_number q (suc n) * x) (falling_product-above q n k (omega arith)) ∙ omega arith

-- the powers of 1
pub one_pow : (k : ℕ) → 1 ^ k ≡ 1
one_pow zero = pow-zero 1
one_pow (suc k) = pow-succ' 1 k ∙ omega (arith, one_pow k)

-- Pascal's rule of plain binomials
pub binomial-step : (n k : ℕ) → gaussian 1 (suc n) (suc k) ≡ gaussian 1 n k + gaussian 1 n (suc k)
binomial-step n k =
    ap (λ x. gaussian 1 n k + x * gaussian 1 n (suc k)) (one_pow (suc k)) ∙ omega arith

-- ---- the step from b to b + 1

module _ (q : ℕ) where
  below_or_above : (a k b : ℕ) → (a < k) ⊎ ((b ≤ k) ⊎ ((k ≤ a) × (k < b)))
  below_or_above a k b = grind arith

  -- the powers of q at a term from the left and from the right, unless the term is zero
  powers_meet : (a b k : ℕ)
      → q ^ suc a * q ^ ((a - k) * (b - suc k)) * (gaussian q b (suc k) * falling_product q a k)
      ≡ q ^ ((a - k) * (b - k)) * q ^ suc k * (gaussian q b (suc k) * falling_product q a k)
  powers_meet a b k = by (below_or_above a k b)
    where
      by : (a < k) ⊎ ((b ≤ k) ⊎ ((k ≤ a) × (k < b)))
          → q ^ suc a * q ^ ((a - k) * (b - suc k)) * (gaussian q b (suc k) * falling_product q a k)
          ≡ q ^ ((a - k) * (b - k)) * q ^ suc k * (gaussian q b (suc k) * falling_product q a k)
      by (inl above) = rw (falling_product-above q a k above) (omega arith)
      by (inr (inl above)) = rw (gaussian-above q b (suc k) (omega arith)) (omega arith)
      by (inr (inr h)) =
          let f : ℕ = b - suc k in
          let e : ℕ = a - k in
          let bk : b - k ≡ suc f = omega (arith, h.1) in
          let product : e * suc f ≡ e * f + e = omega arith in
          let exponents : suc a + e * f ≡ e * (b - k) + suc k = rw bk (omega (arith, h.0, product)) in
          ap (λ x. x * (gaussian q b (suc k) * falling_product q a k)) (sym (pow-add q (suc a) (e * f)) ∙ ap (λ x. q ^ x) exponents ∙ pow-add q (e * (b - k)) (suc k))

  two_terms : (d dk y z e r g h i f : ℕ) → y * z * (h * f) ≡ e * r * (h * f)
      → d * dk * (e * ((g + r * h) * (i * f))) ≡ y * (d * dk * (z * (h * (i * f)))) + d * i * (dk * (e * (g * f)))
  two_terms d dk y z e r g h i f met =
      let times : d * dk * i * (y * z * (h * f)) ≡ d * dk * i * (e * r * (h * f)) = ap (λ x. d * dk * i * x) met in
      omega arith

  module _ (delta : ℕ) where
    -- the first term
    pub falling_number-first : (a b : ℕ) → falling_number q delta a (suc b) 0 ≡ q ^ a * falling_number q delta a b 0
    falling_number-first a b =
        let za : a - 0 ≡ a = omega arith in
        let zb : b - 0 ≡ b = omega arith in
        let zsb : suc b - 0 ≡ suc b = omega arith in
        let here : a * suc b ≡ a + a * b = omega arith in
        rw (za, zb, zsb, here, pow-add q a (a * b)) (omega arith)

    -- a later term, from two of b
    later : (a b k : ℕ)
        → falling_number q delta (suc a) (suc b) (suc k) ≡ q ^ suc a * falling_number q delta (suc a) b (suc k) + (delta * q_number q (suc a)) * falling_number q delta a b k
    later a b k =
        let ea : suc a - suc k ≡ a - k = omega arith in
        let eb : suc b - suc k ≡ b - k = omega arith in
        rw (ea, eb, pow-succ' delta k)
        (two_terms delta (delta ^ k) (q ^ suc a) (q ^ ((a - k) * (b - suc k))) (q ^ ((a - k) * (b - k))) (q ^ suc k) (gaussian q b k) (gaussian q b (suc k)) (q_number q (suc a)) (falling_product q a k) (powers_meet a b k))

    pub falling_number-next : (a b k : ℕ)
        → falling_number q delta a (suc b) (suc k) ≡ q ^ a * falling_number q delta a b (suc k) + (delta * q_number q a) * falling_number q delta (a - 1) b k
    falling_number-next zero b k = omega arith
    falling_number-next (suc a) b k = let e : suc a - 1 ≡ a = omega arith in rw e (later a b k)

    -- at b = 0 there is one term
    pub falling_number-start : (a : ℕ) → falling_number q delta a 0 0 ≡ 1
    falling_number-start a =
        let e : (a - 0) * (0 - 0) ≡ 0 = omega arith in
        rw (e, pow-zero q, pow-zero delta) refl

    pub falling_number-none : (a k : ℕ) → falling_number q delta a 0 (suc k) ≡ 0
    falling_number-none a k = omega arith

    -- there are no terms above a
    pub falling_number-above : (a b k : ℕ) → a < k → falling_number q delta a b k ≡ 0
    falling_number-above a b k h = rw (falling_product-above q a k h) (omega arith)

    -- and none above b
    pub falling_number-beyond : (a b k : ℕ) → b < k → falling_number q delta a b k ≡ 0
    falling_number-beyond a b k h = rw (gaussian-above q b k h) (omega arith)
