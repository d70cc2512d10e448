-- Powers modulo p, by squares.
use Rattle.std.proofs.Common.{◌≡◌, ℕ, ◌+◌, ◌*◌, ◌/◌, ◌%◌, ◌^◌, sym, ap, ◌∙◌, arith, pow-add}
use Rattle.std.proofs.Math.Nat.{pow-zero, pow-succ', div-add-mod}
use Rattle.std.proofs.lemmas.Nat.{mul-pow, pow-mod, mul-mod_first, mul-mod_second}

-- half the exponent, and the square
half_power : (p s k : ℕ) → (((s * s) % p) ^ (k / 2) * s ^ (k % 2)) % p ≡ s ^ k % p
half_power p s k =
    let parts : k / 2 + k / 2 + k % 2 ≡ k = omega (arith, div-add-mod k 2) in
    sym (mul-mod_first (((s * s) % p) ^ (k / 2)) (s ^ (k % 2)) p)
    ∙ ap (λ x. (x * s ^ (k % 2)) % p) (pow-mod (s * s) (k / 2) p)
    ∙ mul-mod_first ((s * s) ^ (k / 2)) (s ^ (k % 2)) p
    ∙ ap (λ x. (x * s ^ (k % 2)) % p) (mul-pow s s (k / 2) ∙ sym (pow-add s (k / 2) (k / 2)))
    ∙ ap (λ x. x % p) (sym (pow-add s (k / 2 + k / 2) (k % 2)) ∙ ap (λ x. s ^ x) parts)

-- a step of the power at an even exponent
pub even_step : (p r s k x : ℕ) → k % 2 ≡ 0 → (r * s ^ k) % p ≡ x % p → (r * ((s * s) % p) ^ (k / 2)) % p ≡ x % p
even_step p r s k x even h =
    let one : ((s * s) % p) ^ (k / 2) ≡ ((s * s) % p) ^ (k / 2) * s ^ (k % 2) = rw (even, pow-zero s) (omega arith) in
    sym (mul-mod_second r (((s * s) % p) ^ (k / 2)) p)
    ∙ ap (λ y. (r * y) % p) (ap (λ y. y % p) one ∙ half_power p s k)
    ∙ mul-mod_second r (s ^ k) p
    ∙ h

-- a step at an odd one
pub odd_step : (p r s k x : ℕ) → k % 2 ≡ 1 → (r * s ^ k) % p ≡ x % p → (((r * s) % p) * ((s * s) % p) ^ (k / 2)) % p ≡ x % p
odd_step p r s k x odd h =
    let square : ℕ = ((s * s) % p) ^ (k / 2) in
    let first : s ^ (k % 2) ≡ s = rw odd (pow-succ' s 0 ∙ rw (pow-zero s) (omega arith)) in
    let moved : (r * s) * square ≡ r * (square * s ^ (k % 2)) = rw first (omega arith) in
    mul-mod_first (r * s) square p
    ∙ ap (λ y. y % p) moved
    ∙ sym (mul-mod_second r (square * s ^ (k % 2)) p)
    ∙ ap (λ y. (r * y) % p) (half_power p s k)
    ∙ mul-mod_second r (s ^ k) p
    ∙ h
