-- The texts of powers are read as their variables and exponents.
use Rattle.std.proofs.Common.{◌≡◌, ◌≢◌, ℕ, ◌<◌, ◌≤◌, nat_le, not, List, [], ◌∷◌, ◌++◌, length, take, drop, true, false, Some, refl, sym, ◌∙◌, ap, subst, arith, inl, inr, append_assoc}
use Rattle.std.specs.Prelude.{bytes_eq}
use Rattle.std.specs.List.{list_all, position_or_len}
use Rattle.std.specs.Fmt.{decimal}
use Rattle.std.proofs.lemmas.Bool.{cases_Bool, leb-true, lt-ltb}
use Rattle.std.proofs.lemmas.List.{take_at, drop_at, append-nil, take_all, drop_all, length-append}
use Rattle.std.proofs.lemmas.Slice.Eq.{bytes_eq-Decides}
use Rattle.std.proofs.lemmas.Bool.Decides.{nat_tests}
use Rattle.monomials.specs.Polynomials.{Each}
use Rattle.word_model.specs.Texts.{power_text}
use Rattle.plural_lexer.specs.Letters.{is_name_byte, is_digit}
use Rattle.plural_text.specs.Names.{IsName, AreDifferent}
use Rattle.plural_text.specs.Readings.{is_caret, is_number, read_number, read_name, read_power}
use Rattle.plural_text.proofs.Characters.{is_power_byte, all_weaker, all_append, none_found, found_behind, name_in_power, digit_in_name, name_no_caret, name_bytes, name_is_no_number}
use Rattle.plural_text.proofs.Numbers.{digits_of_decimal, read_number-decimal}

-- ---- names

-- what each of a list has, one in its middle has
each_middle : (P : List ℕ → Type 0) (front : List (List ℕ)) (name : List ℕ) (back : List (List ℕ)) → Each P (front ++ name ∷ back) → P name
each_middle P [] name back h = h.0
each_middle P (x ∷ front) name back h = each_middle P front name back h.1

-- no name before this one is this one
others_before : (front : List (List ℕ)) (name : List ℕ) (back : List (List ℕ)) → AreDifferent (front ++ name ∷ back)
    → list_all (λ other. not (bytes_eq other name)) front ≡ true
others_before [] name back h = refl
others_before (x ∷ front) name back h =
    let other : x ≢ name = each_middle (λ z. x ≢ z) front name back h.0 in
    elim (cases_Bool (bytes_eq x name)) [
      | inl same ↦ absurd (other ((bytes_eq-Decides x name).0 same))
      | inr differs ↦ rw differs (others_before front name back h.1)
    ]

-- a name is found at its place
pub read_name_at : (front : List (List ℕ)) (name : List ℕ) (back : List (List ℕ)) → AreDifferent (front ++ name ∷ back)
    → read_name (front ++ name ∷ back) name ≡ Some (length front)
read_name_at front name back h =
    let at : position_or_len (λ other. bytes_eq other name) (front ++ name ∷ back) ≡ length front =
    found_behind (λ other. bytes_eq other name) front name back (others_before front name back h) ((bytes_eq-Decides name name).1 refl) in
    let within : length front < length (front ++ name ∷ back) = simp length-append (omega arith) in
    rw (at, lt-ltb (length front) (length (front ++ name ∷ back)) within) refl

-- ---- powers

no_caret : (name : List ℕ) → IsName name → list_all (λ b. not (is_caret b)) name ≡ true
no_caret name h = all_weaker is_name_byte (λ b. not (is_caret b)) name name_no_caret (name_bytes name h)

-- a name alone
read_power_one : (names : List (List ℕ)) (name : List ℕ) (place : ℕ) → IsName name → read_name names name ≡ Some place
    → read_power names name ≡ Some (place, 1)
read_power_one names name place is found =
    let ends : position_or_len is_caret name ≡ length name = none_found is_caret name (no_caret name is) in
    let front : take (length name) name ≡ name = take_all (length name) name (omega arith) in
    let behind : drop (length name) name ≡ [] = drop_all (length name) name (omega arith) in
    rw (ends, front, behind, found) refl

-- a name, and `^` with an exponent
read_power_more : (names : List (List ℕ)) (name : List ℕ) (place e : ℕ) → IsName name → read_name names name ≡ Some place → e ≤ 4095
    → read_power names (name ++ (94 ∷ decimal e)) ≡ Some (place, e)
read_power_more names name place e is found within =
    let ends : position_or_len is_caret (name ++ (94 ∷ decimal e)) ≡ length name =
    found_behind is_caret name 94 (decimal e) (no_caret name is) refl in
    let front : take (length name) (name ++ (94 ∷ decimal e)) ≡ name = take_at name (94 ∷ decimal e) (length name) refl in
    let behind : drop (length name) (name ++ (94 ∷ decimal e)) ≡ 94 ∷ decimal e = drop_at name (94 ∷ decimal e) (length name) refl in
    let exponent : read_number 4095 (decimal e) ≡ Some e = read_number-decimal 4095 e (omega arith) within in
    rw (ends, front, behind, exponent, found) refl

-- the text of a power, by cases on the exponent
power_cases : (P : List ℕ → Type 0) (name : List ℕ) (e : ℕ) → (e ≤ 1 → P name) → (1 < e → P (name ++ (94 ∷ decimal e))) → P (power_text name e)
power_cases P name e one more =
    elim (cases_Bool (nat_le e 1)) [
      | inl low ↦ rw low (one (leb-true e 1 low))
      | inr high ↦ rw high (subst P (sym (append_assoc name (94 ∷ []) (decimal e))) (more (grind (arith, nat_tests))))
    ]

-- a power is read as its variable's place and its exponent
pub read_power_text : (names : List (List ℕ)) (name : List ℕ) (place e : ℕ) → IsName name → read_name names name ≡ Some place → 1 ≤ e → e ≤ 4095
    → read_power names (power_text name e) ≡ Some (place, e)
read_power_text names name place e is found some within =
    power_cases (λ text. read_power names text ≡ Some (place, e)) name e
    (λ low. let one : 1 ≡ e = omega arith in read_power_one names name place is found ∙ ap (λ x. Some (place, x)) one)
    (λ high. read_power_more names name place e is found within)

-- it begins with no digit
pub power_is_no_number : (name : List ℕ) (e : ℕ) → IsName name → is_number (power_text name e) ≡ false
power_is_no_number name e is =
    power_cases (λ text. is_number text ≡ false) name e
    (λ low. subst (λ text. is_number text ≡ false) (append-nil name) (name_is_no_number name [] is))
    (λ high. name_is_no_number name (94 ∷ decimal e) is)

pub digit_in_power : (b : ℕ) → is_digit b ≡ true → is_power_byte b ≡ true
digit_in_power b h = name_in_power b (digit_in_name b h)

pub power_bytes : (name : List ℕ) (e : ℕ) → IsName name → e ≤ 4095 → list_all is_power_byte (power_text name e) ≡ true
power_bytes name e is within =
    let letters : list_all is_power_byte name ≡ true = all_weaker is_name_byte is_power_byte name name_in_power (name_bytes name is) in
    let digits : list_all is_power_byte (decimal e) ≡ true =
    all_weaker is_digit is_power_byte (decimal e) digit_in_power (digits_of_decimal e (omega arith)) in
    power_cases (λ text. list_all is_power_byte text ≡ true) name e (λ low. letters)
    (λ high. all_append is_power_byte name (94 ∷ decimal e) letters (rw digits refl))

some_name : (name rest : List ℕ) → IsName name → 1 ≤ length (name ++ rest)
some_name [] rest is = absurd is
some_name (b ∷ name) rest is = omega arith

-- it is not empty
pub some_power : (name : List ℕ) (e : ℕ) → IsName name → 1 ≤ length (power_text name e)
some_power name e is =
    power_cases (λ text. 1 ≤ length text) name e
    (λ low. subst (λ text. 1 ≤ length text) (append-nil name) (some_name name [] is))
    (λ high. some_name name (94 ∷ decimal e) is)
