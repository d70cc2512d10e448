-- Powers modulo p.
use Rattle.std.proofs.Common.{◌≡◌, ℕ, zero, suc, ◌+◌, ◌*◌, ◌/◌, ◌%◌, ◌^◌, refl, sym, ap, ◌∙◌, arith, pow-add}
use Rattle.std.proofs.Math.Nat.{pow-zero, pow-succ', div-add-mod}
use Rattle.std.proofs.lemmas.Nat.{mul-pow}
use Rattle.closed_forms.specs.Binomials.{q_number}
use Rattle.monomials.proofs.Modulo.{Same, same_refl, same_add, same_mul, same_mul_right, same_rest}

-- products of the same numbers are the same
pub same_times : (p a b c d : ℕ) → Same p a b → Same p c d → Same p (a * c) (b * d)
same_times p a b c d e h = same_mul_right p c a b e ∙ same_mul p b c d h

-- powers of the same numbers are the same
pub same_pow : (p a b k : ℕ) → Same p a b → Same p (a ^ k) (b ^ k)
same_pow p a b zero e = same_refl p _ _ (pow-zero a ∙ sym (pow-zero b))
same_pow p a b (suc k) e =
    same_refl p _ _ (pow-succ' a k) ∙ same_times p a b _ _ e (same_pow p a b k e) ∙ same_refl p _ _ (sym (pow-succ' b k))

-- from [n]_q to [n+1]_q
pub next_q_number : (p q x n : ℕ) → x ≡ q_number q n % p → (1 + (q * x) % p) % p ≡ q_number q (n + 1) % p
next_q_number p q x n e =
    let more : n + 1 ≡ suc n = omega arith in
    rw (more, e)
    (same_add p 1 1 _ _ refl (same_rest p (q * (q_number q n % p)) ∙ same_mul p q _ _ (same_rest p (q_number q n))))

-- half the exponent, and the square
pub half_power : (p s k : ℕ) → Same p (((s * s) % p) ^ (k / 2) * s ^ (k % 2)) (s ^ k)
half_power p s k =
    let parts : k / 2 + k / 2 + k % 2 ≡ k = omega (arith, div-add-mod k 2) in
    same_mul_right p (s ^ (k % 2)) _ _ (same_pow p ((s * s) % p) (s * s) (k / 2) (same_rest p (s * s)))
    ∙ same_refl p _ _ (ap (λ x. x * s ^ (k % 2)) (mul-pow s s (k / 2) ∙ sym (pow-add s (k / 2) (k / 2))) ∙ sym (pow-add s (k / 2 + k / 2) (k % 2)) ∙ ap (λ x. s ^ x) parts)

-- a step of the power at an even exponent
pub even_step : (p r s k x : ℕ) → k % 2 ≡ 0 → Same p (r * s ^ k) x → Same p (r * ((s * s) % p) ^ (k / 2)) x
even_step p r s k x even h =
    let one : ((s * s) % p) ^ (k / 2) ≡ ((s * s) % p) ^ (k / 2) * s ^ (k % 2) = rw (even, pow-zero s) (omega arith) in
    same_mul p r _ _ (same_refl p _ _ one ∙ half_power p s k) ∙ h

-- a step at an odd one
pub odd_step : (p r s k x : ℕ) → k % 2 ≡ 1 → Same p (r * s ^ k) x → Same p (((r * s) % p) * ((s * s) % p) ^ (k / 2)) x
odd_step p r s k x odd h =
    let first : s ^ (k % 2) ≡ s = rw odd (pow-succ' s 0 ∙ rw (pow-zero s) (omega arith)) in
    let moved : (r * s) * ((s * s) % p) ^ (k / 2) ≡ r * (((s * s) % p) ^ (k / 2) * s ^ (k % 2)) = rw first (omega arith) in
    same_mul_right p (((s * s) % p) ^ (k / 2)) _ _ (same_rest p (r * s))
    ∙ same_refl p _ _ moved
    ∙ same_mul p r _ _ (half_power p s k) ∙ h
