-- The sign in front of a later term.
use Rattle.std.proofs.Common.{◌≡◌, ℕ, zero, suc, ◌-◌, ◌/◌, ◌<◌, ◌≤◌, ◌^◌, true, false, nat_eq, nat_le, List, [], ◌∷◌, ◌++◌, length, get_or, refl, sym, ap, ◌∙◌, append-nil, append_assoc, arith, inl, inr, subst, ℤ, pos, negsuc}
use Rattle.std.specs.Prelude.{◌==◌, codes, ◌-ℤ◌, ◌&&◌}
use Rattle.std.specs.Fmt.{decimal, signed_decimal}
use Rattle.std.proofs.lemmas.Bool.{cases_Bool, and_parts, leb-true, leb-false, le-leb, lt-leb, eqb-true, eqb-false, ne_eqb}
use Rattle.std.proofs.lemmas.Fmt.{first_decimal, decimal_digit}
use Rattle.std.proofs.lemmas.Int.{ints}
use Rattle.monomials.specs.Monomials.{Monomial, degree}
use Rattle.monomials.specs.Polynomials.{Each}
use Rattle.word_model.specs.Texts.{number_text, power_text, power_texts, monomial_text, term_text, with_sign}
use Rattle.plural_text.specs.Names.{IsName, AreNames}
use Rattle.plural_text.proofs.Monomials.{more_powers, join-first}

-- the first byte of a text
abbrev pub first : List ℕ → ℕ
first text = get_or text 0 0

-- a text that begins with a minus stays
pub with_sign-minus : (text : List ℕ) → first text ≡ 45 → with_sign text ≡ text
with_sign-minus [] h = absurd (omega arith)
with_sign-minus (b ∷ text) h = rw h refl

-- one that begins with a letter or a digit gets a plus
pub with_sign-plus : (text : List ℕ) → 45 < first text → with_sign text ≡ 43 ∷ text
with_sign-plus [] h = refl
with_sign-plus (b ∷ text) h = let other : nat_eq b 45 ≡ false = ne_eqb b 45 (λ is. omega arith) in rw other refl

first-append : (text more : List ℕ) → 45 < first text → 45 < first (text ++ more)
first-append [] more h = absurd (omega arith)
first-append (b ∷ text) more h = h

-- ---- numbers

negative_first : (z : ℤ) (p c : ℕ) (more : List ℕ) → c < p → z ≡ pos c -ℤ pos p → first (signed_decimal z ++ more) ≡ 45
negative_first (pos n) p c more below is = absurd (omega (arith, ints))
negative_first (negsuc n) p c more below is = refl

minus_first : (p c : ℕ) (more : List ℕ) → c < p → nat_le c (p / 2) ≡ false → first (number_text p c ++ more) ≡ 45
minus_first p c more below upper = rw upper (negative_first (pos c -ℤ pos p) p c more below refl)

decimal_first : (n : ℕ) → n < 2 ^ 64 → 45 < first (decimal n)
decimal_first zero h = rw (decimal_digit 0 (omega arith)) (omega arith)
decimal_first (suc n) h = let digit : 48 < first (decimal (suc n)) = first_decimal (suc n) (omega arith) h in omega arith

digit_first : (p c : ℕ) → c < 2 ^ 64 → nat_le c (p / 2) ≡ true → 45 < first (number_text p c)
digit_first p c small lower = rw lower (decimal_first c small)

-- ---- monomials

name_first : (name : List ℕ) → IsName name → 45 < first name
name_first [] h = elim h [ ]
name_first (b ∷ name) h = elim (cases_Bool (nat_le 65 b && nat_le b 90)) [
  | inl upper ↦ let low : 65 ≤ b = leb-true 65 b (and_parts (nat_le 65 b) (nat_le b 90) upper).0 in omega arith
  | inr other ↦
      let lower : (nat_le 97 b && nat_le b 122) ≡ true = rw other at h.0 in
      let low : 97 ≤ b = leb-true 97 b (and_parts (nat_le 97 b) (nat_le b 122) lower).0 in
      omega arith
]

power_first : (name : List ℕ) (e : ℕ) → IsName name → 45 < first (power_text name e)
power_first name e h =
    elim (cases_Bool (nat_le e 1)) [
      | inl small ↦ rw small (name_first name h)
      | inr large ↦ rw large (first-append (name ++ codes "^") (decimal e) (first-append name (codes "^") (name_first name h)))
    ]

monomial_first : (names : List (List ℕ)) (m : Monomial) → Each IsName names → length m ≡ length names → 0 < degree m → 45 < first (monomial_text names m)
monomial_first [] [] each same some = absurd (omega arith)
monomial_first [] (e ∷ m) each same some = absurd (omega arith)
monomial_first (name ∷ names) [] each same some = absurd (omega arith)
monomial_first (name ∷ names) (zero ∷ m) each same some = monomial_first names m each.1 (omega arith) some
monomial_first (name ∷ names) (suc e ∷ m) each same some =
    let power : List ℕ = power_text name (suc e) in
    let rest : List (List ℕ) = power_texts names m in
    subst (λ text. 45 < first text) (sym (join-first power rest)) (first-append power (more_powers rest) (power_first name (suc e) each.0))

-- ---- terms

-- a term with a number from the upper half
negative_starts : (p c : ℕ) (names : List (List ℕ)) (m : Monomial) → 1 < p → c < p → nat_le c (p / 2) ≡ false → first (term_text p names (c, m)) ≡ 45
negative_starts p c names m above below upper =
    elim (cases_Bool (degree m == 0)) [
      | inl none ↦ rw none (subst (λ text. first text ≡ 45) (append-nil (number_text p c)) (minus_first p c [] below upper))
      | inr some ↦
          elim (cases_Bool (c == 1)) [
            | inl one ↦
                let is : c ≡ 1 = eqb-true c 1 one in
                let half : p / 2 < c = leb-false c (p / 2) upper in
                absurd (omega arith)
            | inr other ↦
                elim (cases_Bool (c == p - 1)) [
                  | inl last ↦ rw (some, other, last) refl
                  | inr inner ↦ rw (some, other, inner, append_assoc) (minus_first p c (codes "*" ++ monomial_text names m) below upper)
                ]
          ]
    ]

pub with_sign-negative : (p c : ℕ) (names : List (List ℕ)) (m : Monomial) → 1 < p → c < p → p / 2 < c
    → with_sign (term_text p names (c, m)) ≡ term_text p names (c, m)
with_sign-negative p c names m above below upper =
    with_sign-minus (term_text p names (c, m)) (negative_starts p c names m above below (lt-leb c (p / 2) upper))

-- one with a number from the lower half
positive_starts : (p c : ℕ) (names : List (List ℕ)) (m : Monomial) → 1 < p → p < 65536 → c < p → c ≤ p / 2
    → AreNames (length m) names → 45 < first (term_text p names (c, m))
positive_starts p c names m above small below half are =
    let lower : nat_le c (p / 2) ≡ true = le-leb c (p / 2) half in
    elim (cases_Bool (degree m == 0)) [
      | inl none ↦ rw none (digit_first p c (omega arith) lower)
      | inr some ↦
          let not_one : degree m ≡ 0 → ⊥ = eqb-false (degree m) 0 some in
          let mono : 45 < first (monomial_text names m) = monomial_first names m are.each (sym are.count) (omega arith) in
          elim (cases_Bool (c == 1)) [
            | inl one ↦ rw (some, one) mono
            | inr other ↦
                let not_1 : c ≡ 1 → ⊥ = eqb-false c 1 other in
                elim (cases_Bool (c == p - 1)) [
                  | inl last ↦ let is : c ≡ p - 1 = eqb-true c (p - 1) last in absurd (omega arith)
                  | inr inner ↦ rw (some, other, inner)
                      (first-append (number_text p c ++ codes "*") (monomial_text names m)
                      (first-append (number_text p c) (codes "*") (digit_first p c (omega arith) lower)))
                ]
          ]
    ]

pub with_sign-positive : (p c : ℕ) (names : List (List ℕ)) (m : Monomial) → 1 < p → p < 65536 → c < p → c ≤ p / 2
    → AreNames (length m) names → with_sign (term_text p names (c, m)) ≡ 43 ∷ term_text p names (c, m)
with_sign-positive p c names m above small below half are =
    with_sign-plus (term_text p names (c, m)) (positive_starts p c names m above small below half are)

-- what is appended to a text: a plus and the term
pub plus_written : (old mid new term signed : List ℕ) → mid ≡ old ++ 43 ∷ [] → new ≡ mid ++ term → signed ≡ 43 ∷ term → new ≡ old ++ signed
plus_written old mid new term signed plus next sign =
    next ∙ (ap (λ z. z ++ term) plus ∙ (append_assoc old (43 ∷ []) term ∙ ap (λ z. old ++ z) (sym sign)))

-- or the term alone
pub none_written : (old mid new term signed : List ℕ) → mid ≡ old → new ≡ mid ++ term → signed ≡ term → new ≡ old ++ signed
none_written old mid new term signed none next sign = next ∙ (ap (λ z. z ++ term) none ∙ ap (λ z. old ++ z) (sym sign))
