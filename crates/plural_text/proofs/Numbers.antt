-- Decimal texts are read as their numbers.
use Rattle.std.proofs.Common.{◌≡◌, ℕ, ◌+◌, ◌-◌, ◌*◌, ◌/◌, ◌%◌, ◌<◌, ◌≤◌, ◌^◌, nat_le, ◌&&◌, List, [], ◌∷◌, ◌++◌, length, true, Some, refl, ◌∙◌, ap, arith, inl, inr}
use Rattle.std.specs.Prelude.{option_and_then}
use Rattle.std.specs.List.{list_all}
use Rattle.std.specs.Fmt.{decimal}
use Rattle.std.proofs.lemmas.Bool.{cases_Bool, le-leb}
use Rattle.std.proofs.lemmas.Bool.Decides.{nat_tests}
use Rattle.std.proofs.lemmas.Fmt.{decimal_by_steps, decimal_nonempty}
use Rattle.plural_lexer.specs.Letters.{is_digit}
use Rattle.plural_text.specs.Readings.{read_digits, read_number, is_number}
use Rattle.plural_text.proofs.Characters.{all_append}

digit_is_digit : (d : ℕ) → d < 10 → is_digit (48 + d) ≡ true
digit_is_digit d h = grind (arith, nat_tests)

-- one more digit
pub read_digit : (most n d : ℕ) → d < 10 → 10 * n + d ≤ most → read_digits most n ((48 + d) ∷ []) ≡ Some (10 * n + d)
read_digit most n d small within =
    let value : 48 + d - 48 ≡ d = omega arith in
    rw (digit_is_digit d small, value, le-leb (10 * n + d) most within) refl

-- digits behind digits
read_digits-append : (most n : ℕ) (front back : List ℕ) → read_digits most n (front ++ back)
    ≡ option_and_then (λ m. read_digits most m back) (read_digits most n front)
read_digits-append most n [] back = refl
read_digits-append most n (b ∷ front) back =
    elim (cases_Bool (is_digit b && nat_le (10 * n + (b - 48)) most)) [
      | inl holds ↦ rw holds (read_digits-append most (10 * n + (b - 48)) front back)
      | inr fails ↦ rw fails refl
    ]

-- the digits of a number are read as it
read_digits-decimal : (most n : ℕ) → n < 2 ^ 64 → n ≤ most → read_digits most 0 (decimal n) ≡ Some n
read_digits-decimal most n small =
    decimal_by_steps (λ n ds. n ≤ most → read_digits most 0 ds ≡ Some n)
    (λ n below within. read_digit most 0 n below (omega arith) ∙ ap (λ m. Some m) (omega arith))
    (λ n ds above front within.
    let rest : n % 10 < 10 = omega arith in
    let whole : 10 * (n / 10) + n % 10 ≡ n = omega arith in
    read_digits-append most 0 ds ((48 + n % 10) ∷ [])
    ∙ (ap (option_and_then (λ m. read_digits most m ((48 + n % 10) ∷ []))) (front (omega arith))
    ∙ (read_digit most (n / 10) (n % 10) rest (omega arith) ∙ ap (λ m. Some m) whole)))
    n small

pub digits_of_decimal : (n : ℕ) → n < 2 ^ 64 → list_all is_digit (decimal n) ≡ true
digits_of_decimal n small =
    decimal_by_steps (λ n ds. list_all is_digit ds ≡ true)
    (λ n below. rw (digit_is_digit n below) refl)
    (λ n ds above front. all_append is_digit ds ((48 + n % 10) ∷ []) front (rw (digit_is_digit (n % 10) (omega arith)) refl))
    n small

some_digits : (most : ℕ) (ds : List ℕ) → 0 < length ds → read_number most ds ≡ read_digits most 0 ds
some_digits most [] h = absurd (omega arith)
some_digits most (b ∷ ds) h = refl

-- the text of a number is read as it
pub read_number-decimal : (most n : ℕ) → n < 2 ^ 64 → n ≤ most → read_number most (decimal n) ≡ Some n
read_number-decimal most n small within =
    some_digits most (decimal n) (decimal_nonempty n small) ∙ read_digits-decimal most n small within

digits_are_number : (ds : List ℕ) → 0 < length ds → list_all is_digit ds ≡ true → is_number ds ≡ true
digits_are_number [] some h = absurd (omega arith)
digits_are_number (b ∷ ds) some h = elim (cases_Bool (is_digit b)) [ inl digit ↦ digit | inr other ↦ absurd (grind (arith, nat_tests)) ]

-- it begins with a digit
pub decimal_is_number : (n : ℕ) → n < 2 ^ 64 → is_number (decimal n) ≡ true
decimal_is_number n small = digits_are_number (decimal n) (decimal_nonempty n small) (digits_of_decimal n small)
