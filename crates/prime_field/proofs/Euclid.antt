-- The steps of Euclid's algorithm for the inverse of a number modulo p.
use Rattle.std.proofs.Common.{◌≡◌, ◌≢◌, ℕ, ◌+◌, ◌*◌, ◌-◌, ◌/◌, ◌%◌, ◌<◌, ◌≤◌, arith, ◌∙◌, ap, inl, inr}
use Rattle.std.specs.Int.{◌∣◌}
use Rattle.std.proofs.Math.Nat.{div-add-mod', mod-lt, dvd-mod_iff}
use Rattle.std.proofs.lemmas.Bool.{cases_lt}
use Rattle.std.proofs.lemmas.Nat.{mul-mod_second}
use Rattle.std.proofs.lemmas.Nat.Gcd.{dvd_refl, le_of_dvd, dvd_of_mod-eq-zero, mod-eq-zero_of_dvd}
use Rattle.prime_field.specs.Modular.{IsPrime}
use Rattle.prime_field.proofs.Inverses.{same_remainder}

-- no number but 1 divides both
pub record IsCoprime (a b : ℕ) : Type 0 where
  pub common : (d : ℕ) → d ∣ a → d ∣ b → d ≡ 1

-- a prime and a positive number below it are coprime
pub coprime_to_prime : (p a : ℕ) → IsPrime p → 0 < a → a < p → IsCoprime p a
coprime_to_prime p a h positive below = record {
  common = λ d divides_p divides_a.
      let most : d ≤ a = le_of_dvd positive divides_a in
      let none : p % d ≡ 0 = mod-eq-zero_of_dvd d divides_p in
      elim (cases_lt 1 d) [
        | inl above ↦ absurd (h.no_divisor d above (omega arith) none)
        | inr low ↦
            elim (cases_lt 0 d) [
              | inl one ↦ omega arith
              | inr zero_divisor ↦
                  let none_a : a % d ≡ 0 = mod-eq-zero_of_dvd d divides_a in
                  absurd (omega arith)
            ]
      ];
}

-- a step of Euclid's algorithm keeps the pair coprime
pub coprime_step : (a b : ℕ) → IsCoprime a b → IsCoprime b (a % b)
coprime_step a b h = record {
  common = λ d divides_b divides_rest. h.common d ((dvd-mod_iff d divides_b).0 divides_rest) divides_b;
}

-- the remainder by a coprime number above 1 is not zero
pub coprime_remains : (a b : ℕ) → IsCoprime a b → 1 < b → a % b ≢ 0
coprime_remains a b h above none =
    let one : b ≡ 1 = h.common b (dvd_of_mod-eq-zero b none) (dvd_refl b) in
    omega arith

-- the factor of the next remainder, from those of the two before it
pub factor_step : (p a before rest f g : ℕ) → 0 < p → (a * f) % p ≡ before % p → (a * g) % p ≡ rest % p
    → (a * ((f + (p - (before / rest * g) % p)) % p)) % p ≡ (before % rest) % p
factor_step p a before rest f g positive f_is g_is =
    let q : ℕ = before / rest in
    let m : ℕ = (q * g) % p in
    let n : ℕ = p - m in
    let r : ℕ = before % rest in
    let low : m < p = mod-lt (q * g) positive in
    let whole : q * rest + r ≡ before = div-add-mod' before rest in
    let by_m : q * g / p * p + m ≡ q * g = div-add-mod' (q * g) p in
    let by_f : a * f / p * p + (a * f) % p ≡ a * f = div-add-mod' (a * f) p in
    let by_g : a * g / p * p + (a * g) % p ≡ a * g = div-add-mod' (a * g) p in
    let by_before : before / p * p + before % p ≡ before = div-add-mod' before p in
    let by_rest : rest / p * p + rest % p ≡ rest = div-add-mod' rest p in
    let sum : n + m ≡ p = omega arith in
    let i : ℕ = q * (a * g / p) + before / p in
    let j : ℕ = a * f / p + a + a * (q * g / p) + q * (rest / p) in
    let same : a * (f + n) + i * p ≡ r + j * p = omega (
      arith,
      ap (λ x. a * x) sum,
      ap (λ x. a * x) by_m,
      ap (λ x. q * x) by_g,
      ap (λ x. q * x) by_rest,
      ap (λ x. q * x) g_is,
    ) in
    mul-mod_second a (f + n) p ∙ same_remainder p (a * (f + n)) r i j same
