-- Which bytes stand in the texts of names, numbers, powers and monomials.
use Rattle.std.proofs.Common.{◌≡◌, ℕ, ◌==◌, ◌||◌, not, List, [], ◌∷◌, ◌++◌, length, Bool, true, false, refl, sym, ◌∙◌, ap, arith, inl, inr}
use Rattle.std.specs.List.{list_all, position_or_len}
use Rattle.std.proofs.lemmas.Bool.{eqb-true, and_parts, cases_Bool, false≢true}
use Rattle.std.proofs.lemmas.List.Folds.{list_all-append}
use Rattle.std.proofs.lemmas.Bool.Decides.{nat_tests}
use Rattle.monomials.specs.Polynomials.{Each}
use Rattle.plural_lexer.specs.Letters.{is_letter, is_digit, is_name_byte}
use Rattle.plural_text.specs.Names.{IsName}
use Rattle.plural_text.specs.Readings.{is_sign, is_caret, is_number}

-- a byte of a class is another than one outside it
pub other_byte : (test : ℕ → Bool) (c x : ℕ) → test x ≡ true → test c ≡ false → (x == c) ≡ false
other_byte test c x holds fails =
    elim (cases_Bool (x == c)) [
      | inl same ↦ absurd (false≢true (sym fails ∙ (ap test (sym (eqb-true x c same)) ∙ holds)))
      | inr other ↦ other
    ]

-- a test of each element, weakened
pub all_weaker : (test other : ℕ → Bool) (xs : List ℕ) → ((x : ℕ) → test x ≡ true → other x ≡ true)
    → list_all test xs ≡ true → list_all other xs ≡ true
all_weaker test other [] weaker h = refl
all_weaker test other (x ∷ xs) weaker h =
    let both = and_parts (test x) (list_all test xs) h in
    rw (weaker x both.0) (all_weaker test other xs weaker both.1)

-- two lists of which each element passes
pub all_append : (test : ℕ → Bool) (xs ys : List ℕ) → list_all test xs ≡ true → list_all test ys ≡ true → list_all test (xs ++ ys) ≡ true
all_append test xs ys h k = list_all-append test xs ys ∙ rw (h, k) refl

-- none passes before the end
pub none_found : {X : Type 0} (test : X → Bool) (xs : List X) → list_all (λ x. not (test x)) xs ≡ true → position_or_len test xs ≡ length xs
none_found test [] h = refl
none_found {X} test (x ∷ xs) h =
    let both = and_parts (not (test x)) (list_all (λ (z : X). not (test z)) xs) h in
    rw both.0 (omega (arith, none_found test xs both.1))

-- the first that passes stands behind those that don't
pub found_behind : {X : Type 0} (test : X → Bool) (xs : List X) (y : X) (ys : List X) → list_all (λ x. not (test x)) xs ≡ true
    → test y ≡ true → position_or_len test (xs ++ y ∷ ys) ≡ length xs
found_behind test [] y ys h passes = rw passes refl
found_behind {X} test (x ∷ xs) y ys h passes =
    let both = and_parts (not (test x)) (list_all (λ (z : X). not (test z)) xs) h in
    rw both.0 (omega (arith, found_behind test xs y ys both.1 passes))

-- a byte of a name, or `^`: what powers and numbers are made of
abbrev pub is_power_byte : ℕ → Bool
is_power_byte b = is_name_byte b || b == 94

-- also `*`: what products are made of
abbrev pub is_product_byte : ℕ → Bool
is_product_byte b = is_power_byte b || b == 42

-- ---- bytes of one class are no bytes of another

pub digit_in_name : (b : ℕ) → is_digit b ≡ true → is_name_byte b ≡ true
digit_in_name b h = rw h (elim (cases_Bool (is_letter b)) [ inl letter ↦ rw letter refl | inr other ↦ rw other refl ])

pub name_in_power : (b : ℕ) → is_name_byte b ≡ true → is_power_byte b ≡ true
name_in_power b h = rw h refl

pub power_in_product : (b : ℕ) → is_power_byte b ≡ true → is_product_byte b ≡ true
power_in_product b h = rw h refl

pub name_no_caret : (b : ℕ) → is_name_byte b ≡ true → not (is_caret b) ≡ true
name_no_caret b h = ap not (other_byte is_name_byte 94 b h refl)

pub power_no_star : (b : ℕ) → is_power_byte b ≡ true → not (b == 42) ≡ true
power_no_star b h = ap not (other_byte is_power_byte 42 b h refl)

pub product_no_sign : (b : ℕ) → is_product_byte b ≡ true → not (is_sign b) ≡ true
product_no_sign b h = rw (other_byte is_product_byte 43 b h refl, other_byte is_product_byte 45 b h refl) refl

letter_no_digit : (b : ℕ) → is_letter b ≡ true → is_digit b ≡ false
letter_no_digit b h = grind (arith, nat_tests)

-- ---- names

each_passes : (test : ℕ → Bool) (xs : List ℕ) → Each (λ x. test x ≡ true) xs → list_all test xs ≡ true
each_passes test [] h = refl
each_passes test (x ∷ xs) h = rw h.0 (each_passes test xs h.1)

pub letter_in_name : (b : ℕ) → is_letter b ≡ true → is_name_byte b ≡ true
letter_in_name b h = rw h refl

pub name_bytes : (name : List ℕ) → IsName name → list_all is_name_byte name ≡ true
name_bytes [] h = absurd h
name_bytes (b ∷ name) h = rw (letter_in_name b h.0) (each_passes is_name_byte name h.1)

-- what begins with a name begins with no digit
pub name_is_no_number : (name rest : List ℕ) → IsName name → is_number (name ++ rest) ≡ false
name_is_no_number [] rest h = absurd h
name_is_no_number (b ∷ name) rest h = letter_no_digit b h.0
