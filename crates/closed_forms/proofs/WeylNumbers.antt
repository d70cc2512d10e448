-- The numbers of the Weyl formulas, by their factorials.
use Rattle.std.proofs.Common.{◌≡◌, ℕ, zero, suc, ◌+◌, ◌-◌, ◌*◌, ◌%◌, ◌^◌, ◌<◌, refl, sym, ap, ◌∙◌, arith}
use Rattle.closed_forms.specs.Binomials.{q_number, gaussian, q_factorial}
use Rattle.closed_forms.specs.Forms.{weyl_number}
use Rattle.closed_forms.proofs.Pascal.{falling_product, falling_number, falling_number-first, falling_number-next, falling_number-start, falling_number-none, falling_number-above, falling_number-beyond}
use Rattle.closed_forms.proofs.Numbers.{falling_product-last, falling_entry}
use Rattle.closed_forms.proofs.Lucas.{neighbours}

-- [n,k]_q [k]_q! is the falling product
falling_is : (q n k : ℕ) → gaussian q n k * q_factorial q k ≡ falling_product q n k
falling_is q n zero = refl
falling_is q n (suc k) =
    apart (gaussian q n (suc k)) (q_number q (suc k)) (q_factorial q k)
    ∙ ap (λ x. x * q_factorial q k) (neighbours q n k)
    ∙ together (q_number q (n - k)) (gaussian q n k) (q_factorial q k)
    ∙ ap (λ x. x * q_number q (n - k)) (falling_is q n k)
    ∙ sym (falling_product-last q n k)
  where
    apart : (g x f : ℕ) → g * (x * f) ≡ (x * g) * f
    apart g x f = omega arith

    together : (x g f : ℕ) → (x * g) * f ≡ (g * f) * x
    together x g f = omega arith

module _ (q delta : ℕ) where
  weyl_is : (a b k : ℕ) → weyl_number q delta a b k ≡ falling_number q delta a b k
  weyl_is a b k =
      ap (λ x. delta ^ k * (q ^ ((a - k) * (b - k)) * x))
      (swapped (gaussian q a k) (gaussian q b k) (q_factorial q k) ∙ ap (λ x. gaussian q b k * x) (falling_is q a k))
    where
      swapped : (g h f : ℕ) → g * (h * f) ≡ h * (g * f)
      swapped g h f = omega arith

  -- the first term
  pub weyl_number-first : (a b : ℕ) → weyl_number q delta a (suc b) 0 ≡ q ^ a * weyl_number q delta a b 0
  weyl_number-first a b = weyl_is a (suc b) 0 ∙ falling_number-first q delta a b ∙ ap (λ x. q ^ a * x) (sym (weyl_is a b 0))

  -- a later term, from two of b
  pub weyl_number-next : (a b k : ℕ)
      → weyl_number q delta a (suc b) (suc k) ≡ q ^ a * weyl_number q delta a b (suc k) + (delta * q_number q a) * weyl_number q delta (a - 1) b k
  weyl_number-next a b k =
      weyl_is a (suc b) (suc k)
      ∙ falling_number-next q delta a b k
      ∙ (λ t. q ^ a * sym (weyl_is a b (suc k)) t + (delta * q_number q a) * sym (weyl_is (a - 1) b k) t)

  -- at b = 0 there is one term
  pub weyl_number-start : (a : ℕ) → weyl_number q delta a 0 0 ≡ 1
  weyl_number-start a = weyl_is a 0 0 ∙ falling_number-start q delta a

  pub weyl_number-none : (a k : ℕ) → weyl_number q delta a 0 (suc k) ≡ 0
  weyl_number-none a k = weyl_is a 0 (suc k) ∙ falling_number-none q delta a k

  -- there are no terms above a
  pub weyl_number-above : (a b k : ℕ) → a < k → weyl_number q delta a b k ≡ 0
  weyl_number-above a b k h = weyl_is a b k ∙ falling_number-above q delta a b k h

  -- and none above b
  pub weyl_number-beyond : (a b k : ℕ) → b < k → weyl_number q delta a b k ≡ 0
  weyl_number-beyond a b k h = weyl_is a b k ∙ falling_number-beyond q delta a b k h

-- the number at k, by its three parts
pub weyl_entry : (p q d a b k f y g : ℕ) → f ≡ (d ^ k * falling_product q a k) % p → y ≡ q ^ ((a - k) * (b - k)) % p → g ≡ gaussian q b k % p
    → (f * ((y * g) % p)) % p ≡ weyl_number q d a b k % p
weyl_entry p q d a b k f y g ef ey eg = falling_entry p q d a b k f y g ef ey eg ∙ ap (λ x. x % p) (sym (weyl_is q d a b k))
