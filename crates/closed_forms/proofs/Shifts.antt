-- The polynomial (z + c)^n, by what its terms weigh.
use Rattle.std.proofs.Common.{◌≡◌, ℕ, zero, suc, ◌+◌, ◌-◌, ◌*◌, ◌^◌, ◌<◌, ◌⊎◌, inl, inr, refl, ap, ◌∙◌, arith}
use Rattle.std.proofs.Math.Nat.{pow-zero, pow-succ'}
use Rattle.monomials.proofs.Modulo.{Same, same_add, same_mul}
use Rattle.closed_forms.specs.Binomials.{gaussian}
use Rattle.closed_forms.specs.Forms.{binomial_number}
use Rattle.closed_forms.proofs.Sums.{sum_below, sum_below_equal, sum_below_none, sum_below-lin}
use Rattle.closed_forms.proofs.Pascal.{gaussian-above, binomial-step}

-- the weight of (z + c)^n, where z^k weighs f k
abbrev pub shifted : ℕ → ℕ → (ℕ → ℕ) → ℕ
shifted c zero f = f 0
shifted c (suc n) f = shifted c n (λ k. f (suc k)) + c * shifted c n f

-- weights that are the same modulo p
pub shifted_alike : (p c n : ℕ) (f g : ℕ → ℕ) → ((k : ℕ) → Same p (f k) (g k)) → Same p (shifted c n f) (shifted c n g)
shifted_alike p c zero f g e = e 0
shifted_alike p c (suc n) f g e =
    same_add p _ _ _ _ (shifted_alike p c n (λ k. f (suc k)) (λ k. g (suc k)) (λ k. e (suc k))) (same_mul p c _ _ (shifted_alike p c n f g e))

-- without a constant: z^n
pub shifted-none : (n : ℕ) (f : ℕ → ℕ) → shifted 0 n f ≡ f n
shifted-none zero f = refl
shifted-none (suc n) f = omega (arith, shifted-none n (λ k. f (suc k)))

-- a weight that is a sum
shifted-lin : (c d n : ℕ) (f g : ℕ → ℕ) → shifted c n (λ k. f k + d * g k) ≡ shifted c n f + d * shifted c n g
shifted-lin c d zero f g = refl
shifted-lin c d (suc n) f g = omega (arith, shifted-lin c d n (λ k. f (suc k)) (λ k. g (suc k)), ap (λ x. c * x) (shifted-lin c d n f g))

-- z + d in place of z: (z + d + c)^n
pub shifted-shifted : (c d n : ℕ) (f : ℕ → ℕ) → shifted c n (λ k. shifted d k f) ≡ shifted (c + d) n f
shifted-shifted c d zero f = refl
shifted-shifted c d (suc n) f =
    let first : shifted c n (λ k. shifted d k (λ m. f (suc m)) + d * shifted d k f) ≡ shifted c n (λ k. shifted d k (λ m. f (suc m))) + d * shifted c n (λ k. shifted d k f) =
    shifted-lin c d n (λ k. shifted d k (λ m. f (suc m))) (λ k. shifted d k f) in
    let up : shifted c n (λ k. shifted d k (λ m. f (suc m))) ≡ shifted (c + d) n (λ m. f (suc m)) = shifted-shifted c d n (λ m. f (suc m)) in
    let here : shifted c n (λ k. shifted d k f) ≡ shifted (c + d) n f = shifted-shifted c d n f in
    collect c d _ _ _ _ _ first up here
  where
    collect : (c d s u h u' h' : ℕ) → s ≡ u + d * h → u ≡ u' → h ≡ h' → s + c * h ≡ u' + (c + d) * h'
    collect c d s u h u' h' es eu eh = rw (es, eu, eh) (omega arith)

-- ---- the binomial theorem

none_above : (c k : ℕ) (f : ℕ → ℕ) → binomial_number c 0 (suc k) * f (0 - suc k) ≡ 0
none_above c k f = omega arith

-- a term of (z + c)^(n + 1), from two of (z + c)^n
next_term : (c n k : ℕ) (f : ℕ → ℕ)
    → binomial_number c (suc n) (suc k) * f (suc n - suc k) ≡ 1 * (binomial_number c n (suc k) * f (suc n - suc k)) + c * (binomial_number c n k * f (n - k))
next_term c n k f =
    let e : suc n - suc k ≡ n - k = omega arith in
    rw (e, binomial-step n k, pow-succ' c k) (collect (gaussian 1 n k) (gaussian 1 n (suc k)) c (c ^ k) (f (n - k)))
  where
    collect : (g h c ck x : ℕ) → (g + h) * (c * ck) * x ≡ 1 * (h * (c * ck) * x) + c * (g * ck * x)
    collect g h c ck x = omega arith

-- z times a term of (z + c)^n
times_term : (c n k : ℕ) (f : ℕ → ℕ) → binomial_number c n k * f (suc (n - k)) ≡ binomial_number c n k * f (suc n - k)
times_term c n k f = by (some_or_none n k)
  where
    some_or_none : (n k : ℕ) → (n < k) ⊎ (suc (n - k) ≡ suc n - k)
    some_or_none n k = grind arith

    by : (n < k) ⊎ (suc (n - k) ≡ suc n - k) → binomial_number c n k * f (suc (n - k)) ≡ binomial_number c n k * f (suc n - k)
    by (inl above) = rw (gaussian-above 1 n k above) (omega arith)
    by (inr e) = ap (λ m. binomial_number c n k * f m) e

-- the binomial theorem, with the sum running over the numbers below any m above n
pub binomial_theorem : (c n m : ℕ) (f : ℕ → ℕ) → n < m → shifted c n f ≡ sum_below m (λ k. binomial_number c n k * f (n - k))
binomial_theorem c zero zero f h = absurd (omega arith)
binomial_theorem c zero (suc m) f h =
    let one : c ^ 0 ≡ 1 = pow-zero c in
    let rest : sum_below m (λ k. binomial_number c 0 (suc k) * f (0 - suc k)) ≡ 0 = sum_below_none m _ (λ k. none_above c k f) in
    rw (rest, one) (omega arith)
binomial_theorem c (suc n) zero f h = absurd (omega arith)
binomial_theorem c (suc n) (suc m) f h =
    let rest : sum_below m (λ k. binomial_number c (suc n) (suc k) * f (suc n - suc k))
    ≡ 1 * sum_below m (λ k. binomial_number c n (suc k) * f (suc n - suc k)) + c * sum_below m (λ k. binomial_number c n k * f (n - k)) =
    sum_below_equal m _ _ (λ k. next_term c n k f) ∙ sum_below-lin 1 c m (λ k. binomial_number c n (suc k) * f (suc n - suc k)) (λ k. binomial_number c n k * f (n - k)) in
    let times : shifted c n (λ k. f (suc k)) ≡ binomial_number c n 0 * f (suc n - 0) + sum_below m (λ k. binomial_number c n (suc k) * f (suc n - suc k)) =
    binomial_theorem c n (suc m) (λ k. f (suc k)) (omega arith) ∙ sum_below_equal (suc m) _ _ (λ k. times_term c n k f) in
    let same : shifted c n f ≡ sum_below m (λ k. binomial_number c n k * f (n - k)) = binomial_theorem c n m f (omega arith) in
    collect c _ _ _ _ _ _ rest times same
  where
    collect : (c r s t u v w : ℕ) → r ≡ 1 * s + c * t → u ≡ v + s → w ≡ t → u + c * w ≡ v + r
    collect c r s t u v w er eu ew = rw (er, eu, ew) (omega arith)
