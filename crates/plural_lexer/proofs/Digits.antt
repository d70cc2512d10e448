-- The value of digits, one digit after another.
use Rattle.std.proofs.Common.{◌≡◌, ℕ, ◌+◌, ◌-◌, ◌*◌, ◌^◌, ◌<◌, ◌≤◌, true, nat_le, List, length, take, get_or, sym, ◌∙◌, arith, inl, inr}
use Rattle.std.specs.List.{list_all}
use Rattle.std.proofs.lemmas.Bool.{and_parts, leb-true, false≢true, cases_Bool}
use Rattle.std.proofs.lemmas.List.Folds.{list_all_at}
use Rattle.std.proofs.lemmas.List.Sums.{fold_more}
use Rattle.std.proofs.lemmas.Grind.{pow_more}
use Rattle.std.proofs.Math.Nat.{pow-le-pow_right}
use Rattle.plural_lexer.specs.Letters.{is_digit, digits_value}

-- each of them is a digit
pub digit_at : (digits : List ℕ) (i : ℕ) → list_all is_digit digits ≡ true → i < length digits
    → (48 ≤ get_or digits i 0) × (get_or digits i 0 ≤ 57)
digit_at digits i all h =
    elim (cases_Bool (is_digit (get_or digits i 0))) [
      | inl passes ↦
          let b : ℕ = get_or digits i 0 in
          let both = and_parts (nat_le 48 b) (nat_le b 57) passes in (leb-true 48 b both.0, leb-true b 57 both.1)
      | inr fails ↦ absurd (false≢true (sym (list_all_at is_digit digits i 0 h fails) ∙ all))
    ]

-- one digit more
pub digits_value_more : (digits : List ℕ) (i : ℕ) → i < length digits
    → digits_value (take (i + 1) digits) ≡ 10 * digits_value (take i digits) + (get_or digits i 0 - 48)
digits_value_more digits i h = fold_more (λ n b. 10 * n + (b - 48)) 0 digits i 0 h

-- the value stays below the power of ten
pub below_power : (i value digit : ℕ) → value < 10 ^ i → digit ≤ 9 → 10 * value + digit < 10 ^ (i + 1)
below_power i value digit h d = rw (pow_more 10 i) (omega arith)

-- of 18 digits all but the last
pub below_most_digits : (i value : ℕ) → i < 18 → value < 10 ^ i → value < 100000000000000000
below_most_digits i value few h = let within : i ≤ 17 = omega arith in
    let bound : 10 ^ i ≤ 10 ^ 17 = pow-le-pow_right (omega arith) within in omega (arith, bound)
