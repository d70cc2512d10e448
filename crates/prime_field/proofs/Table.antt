-- That each characteristic of the table is prime, by trial division that the check computes.
use Rattle.std.proofs.Common.{◌≡◌, ℕ, zero, suc, ◌+◌, ◌*◌, ◌/◌, ◌%◌, ◌<◌, ◌≤◌, Bool, true, false, refl, arith, sym, ◌∙◌, nat_lt, nat_le, ◌||◌, ◌&&◌, ◌==◌, inl, inr, get_or}
use Rattle.std.specs.List.{list_all, Any}
use Rattle.std.proofs.Math.Nat.{div-add-mod', mul-mod_right}
use Rattle.std.proofs.lemmas.Bool.{and_parts, cases_lt, cases_Bool, eqb-true, false≢true}
use Rattle.std.proofs.lemmas.Bool.Decides.{Decides-below_and, nat_tests}
use Rattle.std.proofs.lemmas.List.Folds.{Any-from_list_any, list_all_at}
use Rattle.std.proofs.lemmas.Nat.{mul-le}
use Rattle.prime_field.specs.Modular.{characteristics, in_table, IsPrime}

-- k is below 2, or p or more, or does not divide p
no_divisor_at : ℕ → ℕ → Bool
no_divisor_at p k = nat_lt k 2 || nat_le p k || nat_lt 0 (p % k)

-- no number below n is a proper divisor of p
passes : ℕ → ℕ → Bool
passes p zero = true
passes p (suc n) = no_divisor_at p n && passes p n

-- the test that shows a number below 65536 to be prime: it has no proper divisor below 256
is_prime : ℕ → Bool
is_prime p = nat_lt 1 p && (nat_lt p 65536 && passes p 256)

-- the test of all numbers below n tests each of them
passed : (p n k : ℕ) → passes p n ≡ true → k < n → no_divisor_at p k ≡ true
unfolding passes
passed p n k t h =
    (Decides-below_and (no_divisor_at p) (λ k. no_divisor_at p k ≡ true) (passes p) (λ k. (λ e. e, λ e. e)) refl (λ _. refl) n).0 t k h

-- a number that passes the test does not divide p
indivisible : (p k : ℕ) → no_divisor_at p k ≡ true → 1 < k → k < p → 0 < p % k
unfolding no_divisor_at
indivisible p k t low high = grind (arith, nat_tests)

-- a divisor of at least 256 leaves a quotient below 256, which divides too
no_divisor_by_trial : (p : ℕ) → p < 65536 → passes p 256 ≡ true → (d : ℕ) → 1 < d → d < p → p % d ≡ 0 → ⊥
no_divisor_by_trial p small t d low high e =
    elim (cases_lt d 256) [
      | inl below ↦
          let remains : 0 < p % d = indivisible p d (passed p 256 d t below) low high in
          omega arith
      | inr above ↦
          let q : ℕ = p / d in
          let whole : q * d ≡ p = let m : p / d * d + p % d ≡ p = div-add-mod' p d in omega arith in
          elim (cases_lt q 256) [
            | inr large ↦
                let m : 256 * 256 ≤ q * d = mul-le 256 256 q d large above in
                omega arith
            | inl less ↦
                elim (cases_lt q 2) [
                  | inl tiny ↦
                      let m : q * d ≤ 1 * d = mul-le q d 1 d (omega arith) (omega arith) in
                      omega arith
                  | inr two ↦
                      let none : p % q ≡ 0 = rw whole at (mul-mod_right q d) in
                      let m : q * 2 ≤ q * d = mul-le q 2 q d (omega arith) (omega arith) in
                      let remains : 0 < p % q = indivisible p q (passed p 256 q t less) two (omega arith) in
                      omega arith
                ]
          ]
    ]

-- each characteristic passes the test
table_is_prime : list_all is_prime characteristics ≡ true
unfolding is_prime passes no_divisor_at
table_is_prime = refl

-- the test shows a number to be prime
prime_by_trial : (p : ℕ) → is_prime p ≡ true → IsPrime p
unfolding is_prime
prime_by_trial p t =
    let outer : (nat_lt 1 p ≡ true) × ((nat_lt p 65536 && passes p 256) ≡ true) = and_parts _ _ t in
    let inner : (nat_lt p 65536 ≡ true) × (passes p 256 ≡ true) = and_parts _ _ outer.1 in
    let small : p < 65536 = grind (arith, nat_tests) in
    record {
      above_one = grind (arith, nat_tests);
      small = small;
      no_divisor = no_divisor_by_trial p small inner.1;
    }

-- each characteristic of the table is prime
pub prime_from_table : (p : ℕ) → in_table p ≡ true → IsPrime p
prime_from_table p t =
    let entry : Any (λ q. (q == p) ≡ true) characteristics = Any-from_list_any (λ q. q == p) characteristics t in
    let same : entry.1 ≡ p = eqb-true entry.1 p entry.4 in
    elim (cases_Bool (is_prime entry.1)) [
      | inl is ↦ prime_by_trial p (rw same at is)
      | inr isnt ↦
          let fails : is_prime (get_or characteristics entry.0 entry.1) ≡ false = rw entry.3 isnt in
          absurd (false≢true (sym (list_all_at is_prime characteristics entry.0 entry.1 entry.2 fails) ∙ table_is_prime))
    ]
