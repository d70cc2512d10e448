-- The numbers of the formulas modulo p, step by step.
use Rattle.std.proofs.Common.{◌≡◌, ℕ, zero, suc, ◌+◌, ◌-◌, ◌*◌, ◌%◌, ◌^◌, refl, sym, ap, ◌∙◌, arith}
use Rattle.std.proofs.Math.Nat.{pow-suc, pow-succ'}
use Rattle.monomials.proofs.Modulo.{Same, same_refl, same_mul, same_mul_right, same_rest}
use Rattle.closed_forms.specs.Binomials.{q_number, gaussian}
use Rattle.closed_forms.proofs.Pascal.{falling_product, falling_number}
use Rattle.closed_forms.specs.Forms.{binomial_number}
use Rattle.closed_forms.proofs.Residues.{same_times, same_pow}

-- the last factor of a falling product
pub falling_product-last : (q n k : ℕ) → falling_product q n (suc k) ≡ falling_product q n k * q_number q (n - k)
falling_product-last q zero zero = let e : 0 - 0 ≡ 0 = omega arith in rw e refl
falling_product-last q (suc n) zero = let e : suc n - 0 ≡ suc n = omega arith in rw e (omega arith)
falling_product-last q zero (suc k) = omega arith
falling_product-last q (suc n) (suc k) =
    let e : suc n - suc k ≡ n - k = omega arith in
    rw e (ap (λ x. q_number q (suc n) * x) (falling_product-last q n k) ∙ omega arith)

-- products of rests
rests : (p x y : ℕ) → Same p ((x % p) * (y % p)) (x * y)
rests p x y = same_times p _ _ _ _ (same_rest p x) (same_rest p y)

-- the number at k, by its three parts
pub falling_entry : (p q d a b k f y g : ℕ) → f ≡ (d ^ k * falling_product q a k) % p → y ≡ q ^ ((a - k) * (b - k)) % p → g ≡ gaussian q b k % p
    → (f * ((y * g) % p)) % p ≡ falling_number q d a b k % p
falling_entry p q d a b k f y g ef ey eg =
    let x : ℕ = q ^ ((a - k) * (b - k)) in
    rw (ef, ey, eg)
    (same_times p _ _ _ _ (same_rest p (d ^ k * falling_product q a k)) (same_rest p ((x % p) * (gaussian q b k % p)) ∙ rests p x (gaussian q b k))
    ∙ same_refl p _ _ (collect (d ^ k) (falling_product q a k) x (gaussian q b k)))
  where
    collect : (d f x g : ℕ) → d * f * (x * g) ≡ d * (x * (g * f))
    collect d f x g = omega arith

-- from δ^k [a]_q .. [a-k+1]_q to the next
pub falling_factor : (p q d a k f m : ℕ) → f ≡ (d ^ k * falling_product q a k) % p → m ≡ q_number q (a - k) % p
    → (f * ((d * m) % p)) % p ≡ (d ^ (k + 1) * falling_product q a (k + 1)) % p
falling_factor p q d a k f m ef em =
    let more : k + 1 ≡ suc k = omega arith in
    rw (ef, em, more)
    (same_times p _ _ _ _ (same_rest p (d ^ k * falling_product q a k)) (same_rest p (d * (q_number q (a - k) % p)) ∙ same_mul p d _ _ (same_rest p (q_number q (a - k))))
    ∙ same_refl p _ _
    (collect (d ^ k) (falling_product q a k) d (q_number q (a - k))
    ∙ (λ i. sym (pow-succ' d k) i * sym (falling_product-last q a k) i)))
  where
    collect : (x f d m : ℕ) → x * f * (d * m) ≡ d * x * (f * m)
    collect x f d m = omega arith

-- the number at z^(n-k) of (z + c)^n
pub binomial_entry : (p c n k g y : ℕ) → g ≡ gaussian 1 n k % p → y ≡ c ^ k % p → (g * y) % p ≡ binomial_number c n k % p
binomial_entry p c n k g y eg ey = rw (eg, ey) (rests p (gaussian 1 n k) (c ^ k))

-- from c^k to the next power
pub next_power : (p c k y : ℕ) → y ≡ c ^ k % p → (y * c) % p ≡ c ^ (k + 1) % p
next_power p c k y e =
    let more : k + 1 ≡ suc k = omega arith in
    rw (e, more)
    (same_times p _ _ c c (same_rest p (c ^ k)) refl ∙ same_refl p _ _ (sym (pow-suc c k)))

-- numbers of the same constant
pub binomial_alike : (p c d n k : ℕ) → Same p c d → Same p (binomial_number c n k) (binomial_number d n k)
binomial_alike p c d n k e = same_mul p (gaussian 1 n k) _ _ (same_pow p c d k e)

-- the constant of a shift, as it is found
pub shift_is : (p x y : ℕ) → Same p (((x % p) * y) % p) (x * y)
shift_is p x y = same_rest p ((x % p) * y) ∙ same_mul_right p y _ _ (same_rest p x)
