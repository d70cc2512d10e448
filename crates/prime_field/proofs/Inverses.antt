-- The numbers modulo a prime are a field: inverses exist and are unique, and no product of nonzero numbers is zero.
use Rattle.std.proofs.Common.{◌≡◌, refl, Bool, true, false, ◌==◌, if◌then◌else◌, ◌≢◌, ℕ, zero, suc, ◌+◌, ◌*◌, ◌-◌, ◌/◌, ◌%◌, ◌<◌, ◌≤◌, arith, sym, ◌∙◌, ap, inl, inr}
use Rattle.std.proofs.Math.Nat.{div-add-mod', mod-lt, mod-eq_of_lt, add-mul-mod_self_right}
use Rattle.std.proofs.lemmas.Bool.{cases_lt}
use Rattle.std.proofs.lemmas.Bool.Decides.{nat_tests}
use Rattle.std.proofs.lemmas.Nat.{mul-mod_first, mul-mod_second, mul-le}
use Rattle.prime_field.specs.Modular.{IsPrime, inverse, inverse_from}

-- numbers that differ by multiples of p have the same remainder
pub same_remainder : (p x y i j : ℕ) → x + i * p ≡ y + j * p → x % p ≡ y % p
same_remainder p x y i j e =
    sym (add-mul-mod_self_right x i p) ∙ (ap (λ z. z % p) e ∙ add-mul-mod_self_right y j p)

-- p - q times r is p % r and a multiple of p, for q = p / r
turned : (p q r t m : ℕ) → q ≤ p → r ≡ suc t → q * r + m ≡ p → (p - q) * r ≡ m + t * p
turned p q r t m low r_is whole =
    let s : ℕ = p - q in
    let sum : s + q ≡ p = omega arith in
    omega (arith, ap (λ x. s * x) r_is, ap (λ x. q * x) r_is, ap (λ x. x * t) sum)

-- a positive number below p has an inverse: that of p % r times p - p / r
inverse_to : (p : ℕ) → IsPrime p → (n r : ℕ) → r ≤ n → 0 < r → r < p → (b : ℕ) × ((b * r) % p ≡ 1)
inverse_to p h zero r most positive below = absurd (omega arith)
inverse_to p h (suc n) r most positive below =
    elim (cases_lt r 2) [
      | inl one ↦
          let is : 1 * r ≡ 1 = omega arith in
          let above : 1 < p = h.above_one in
          (1, ap (λ x. x % p) is ∙ mod-eq_of_lt above)
      | inr large ↦
          let q : ℕ = p / r in
          let m : ℕ = p % r in
          let whole : q * r + m ≡ p = div-add-mod' p r in
          let low : m < r = mod-lt p positive in
          let remains : m ≢ 0 = h.no_divisor r large below in
          let most_q : q * 1 ≤ q * r = mul-le q 1 q r (omega arith) (omega arith) in
          let deeper : (b : ℕ) × ((b * m) % p ≡ 1) = inverse_to p h n m (omega arith) (omega arith) (omega arith) in
          let b : ℕ = deeper.0 in
          let step : (p - q) * r ≡ m + (r - 1) * p = turned p q r (r - 1) m (omega arith) (omega arith) whole in
          let same : (b * (p - q)) * r + 0 * p ≡ b * m + (b * (r - 1)) * p = omega (arith, ap (λ x. b * x) step) in
          (b * (p - q), same_remainder p ((b * (p - q)) * r) (b * m) 0 (b * (r - 1)) same ∙ deeper.1)
    ]

-- each number that p does not divide has an inverse
pub prime_has_inverse : (p : ℕ) → IsPrime p → (a : ℕ) → a % p ≢ 0 → (b : ℕ) × ((b * a) % p ≡ 1)
prime_has_inverse p h a not_zero =
    let r : ℕ = a % p in
    let positive : 0 < p = let above : 1 < p = h.above_one in omega arith in
    let found : (b : ℕ) × ((b * r) % p ≡ 1) = inverse_to p h r r (omega arith) (omega arith) (mod-lt a positive) in
    (found.0, sym (mul-mod_second found.0 a p) ∙ found.1)

-- a product with an inverse of a, cancelled
cancelled : (p a b c : ℕ) → (a * c) % p ≡ 1 → (c * ((a * b) % p)) % p ≡ b % p
cancelled p a b c inverse =
    let one : (b * ((a * c) % p)) % p ≡ (b * (a * c)) % p = mul-mod_second b (a * c) p in
    let regrouped : c * (a * b) ≡ b * (a * c) = omega arith in
    let unit : b * ((a * c) % p) ≡ b = rw inverse (omega arith) in
    mul-mod_second c (a * b) p ∙ (ap (λ x. x % p) regrouped ∙ (sym one ∙ ap (λ x. x % p) unit))

-- a number has one inverse below p
pub inverse_unique : (p a b c : ℕ) → IsPrime p → (a * b) % p ≡ 1 → (a * c) % p ≡ 1 → b < p → c < p → b ≡ c
inverse_unique p a b c h left right b_in_range c_in_range =
    let by_b : (c * ((a * b) % p)) % p ≡ b % p = cancelled p a b c right in
    let unit : c * ((a * b) % p) ≡ c = rw left (omega arith) in
    sym (mod-eq_of_lt b_in_range) ∙ (sym by_b ∙ (ap (λ x. x % p) unit ∙ mod-eq_of_lt c_in_range))

-- a product of nonzero numbers is not zero
pub no_zero_divisors : (p a b : ℕ) → IsPrime p → 0 < a → a < p → 0 < b → b < p → 0 < a * b % p
no_zero_divisors p a b h a_positive a_in_range b_positive b_in_range =
    elim (cases_lt 0 (a * b % p)) [
      | inl positive ↦ positive
      | inr zero_product ↦
          let is_zero : a * b % p ≡ 0 = omega arith in
          let a_is : a % p ≡ a = mod-eq_of_lt a_in_range in
          let found : (c : ℕ) × ((c * a) % p ≡ 1) = prime_has_inverse p h a (omega arith) in
          let c : ℕ = found.0 in
          let turn : a * c ≡ c * a = omega arith in
          let by_c : (c * ((a * b) % p)) % p ≡ b % p = cancelled p a b c (ap (λ x. x % p) turn ∙ found.1) in
          let b_is : b % p ≡ b = mod-eq_of_lt b_in_range in
          let none : (c * 0) % p ≡ 0 = let z : c * 0 ≡ 0 = omega arith in rw z (mod-eq_of_lt (omega arith)) in
          let vanishes : 0 ≡ b = sym none ∙ ((rw is_zero at by_c) ∙ b_is) in
          absurd (omega arith)
    ]

-- a search for the inverse of a, by its next test
found_by :
    (p a c b : ℕ) (later : ℕ) → ((a * b) % p ≢ 1 → c ≡ later) → ((a * b) % p ≡ 1 → c ≡ b)
    → (found : Bool) → ((a * b) % p == 1) ≡ found → c ≡ (if found then b else later)
found_by p a c b later go here true e = here (grind (arith, nat_tests, e))
found_by p a c b later go here false e = go (grind (arith, nat_tests, e))

-- a search that starts at or below the inverse finds it
found_from : (p a c : ℕ) → IsPrime p → (a * c) % p ≡ 1 → c < p → (b k : ℕ) → b + k ≡ p → b ≤ c → c ≡ inverse_from p a b k
found_from p a c h is below b zero whole low = absurd (omega arith)
found_from p a c h is below b (suc k) whole low =
    let later : (a * b) % p ≢ 1 → c ≡ inverse_from p a (suc b) k =
    λ other. (let apart : b ≢ c = λ same. other (rw same is) in found_from p a c h is below (suc b) k (omega arith) (omega arith))
    in
    found_by p a c b (inverse_from p a (suc b) k) later (λ one. inverse_unique p a c b h is one below (omega arith)) ((a * b) % p == 1) refl

-- the number below p whose product with a is 1 is the inverse
pub inverse_is : (p a c : ℕ) → IsPrime p → (a * c) % p ≡ 1 → c < p → c ≡ inverse p a
unfolding inverse
inverse_is p a c h is below = found_from p a c h is below 0 p (omega arith) (omega arith)

-- the product with the quotient is the number that was divided
pub quotient_times : (p a b c : ℕ) → (b * c) % p ≡ 1 → a < p → (b * ((a * c) % p)) % p ≡ a
quotient_times p a b c unit below =
    let turned : b * (a * c) ≡ (b * c) * a = omega arith in
    let once : 1 * a ≡ a = omega arith in
    mul-mod_second b (a * c) p
    ∙ ap (λ x. x % p) turned
    ∙ sym (mul-mod_first (b * c) a p)
    ∙ ap (λ x. (x * a) % p) unit
    ∙ ap (λ x. x % p) once
    ∙ mod-eq_of_lt below
