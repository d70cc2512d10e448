-- The texts of terms are read as them.
use Rattle.std.proofs.Common.{◌≡◌, ℕ, zero, suc, ◌-◌, ◌/◌, ◌%◌, ◌<◌, ◌≤◌, ◌^◌, ◌==◌, nat_le, not, List, [], ◌∷◌, ◌++◌, codes, length, drop, sum, true, false, Some, refl, sym, ◌∙◌, ap, subst, arith, inl, inr, append_assoc}
use Rattle.std.proofs.Math.Nat.{mod-eq_of_lt}
use Rattle.std.specs.List.{list_all, join_with_byte}
use Rattle.std.specs.Option.{option_map}
use Rattle.std.specs.Fmt.{decimal}
use Rattle.std.proofs.lemmas.Bool.{cases_Bool, eqb-true, lt-ltb, and_parts}
use Rattle.std.proofs.lemmas.Bool.Decides.{nat_tests}
use Rattle.std.proofs.lemmas.Fmt.{decimal_nonempty, decimal_digit}
use Rattle.std.proofs.lemmas.List.{append-nil, length-append, length-replicate}
use Rattle.std.proofs.lemmas.List.Sums.{sum_by-cons}
use Rattle.monomials.specs.Monomials.{Monomial, degree, one}
use Rattle.monomials.specs.Polynomials.{Each}
use Rattle.word_model.specs.Texts.{number_text, power_text, power_texts, monomial_text, term_text, with_sign}
use Rattle.monomials.proofs.Exponents.{sum-zeros}
use Rattle.plural_lexer.specs.Letters.{is_digit}
use Rattle.plural_text.specs.Names.{AreNames, IsName}
use Rattle.plural_text.specs.Readings.{is_sign, read_product, read_term, PolyTerm}
use Rattle.plural_text.proofs.Characters.{is_power_byte, is_product_byte, all_weaker, other_byte, product_no_sign}
use Rattle.plural_text.proofs.Numbers.{digits_of_decimal}
use Rattle.plural_text.proofs.Powers.{digit_in_power, some_power}
use Rattle.plural_text.proofs.Products.{product_bytes, power_texts_bytes, read_factors, read_number_factors}

-- a text that is read as a term, with no sign behind its first byte
pub record ReadsAs (p : ℕ) (names : List (List ℕ)) (text : List ℕ) (t : PolyTerm) : Type 0 where
  pub some : 1 ≤ length text
  pub unsigned : list_all (λ b. not (is_sign b)) (drop 1 text) ≡ true
  pub read : read_term p names text ≡ Some t

-- so is the text, also where it stands behind another term
abbrev pub ReadsAnywhere : ℕ → List (List ℕ) → List ℕ → PolyTerm → Type 0
ReadsAnywhere p names text t = ReadsAs p names text t × ReadsAs p names (with_sign text) t

-- a term of a polynomial in n variables
pub record IsTerm (p n : ℕ) (t : PolyTerm) : Type 0 where
  pub nonzero : 0 < t.0
  pub below : t.0 < p
  pub vars : length t.1 ≡ n
  pub small : degree t.1 ≤ 4095

-- where no factor occurs
power_texts_none : (names : List (List ℕ)) (m : Monomial) → sum m ≡ 0 → power_texts names m ≡ []
power_texts_none [] m none = refl
power_texts_none (name ∷ names) [] none = refl
power_texts_none (name ∷ names) (zero ∷ m) none = power_texts_none names m (omega (arith, sum_by-cons (λ x. x) 0 m))
power_texts_none (name ∷ names) (suc e ∷ m) none = absurd (omega (arith, sum_by-cons (λ x. x) (suc e) m))

-- where one occurs
power_texts_some : (names : List (List ℕ)) (m : Monomial) → Each IsName names → length m ≡ length names → 0 < sum m
    → (text : List ℕ) × (texts : List (List ℕ)) × (power_texts names m ≡ text ∷ texts) × (1 ≤ length text)
power_texts_some [] [] are size some = absurd (omega arith)
power_texts_some [] (e ∷ m) are size some = absurd (omega arith)
power_texts_some (name ∷ names) [] are size some = absurd (omega arith)
power_texts_some (name ∷ names) (zero ∷ m) are size some =
    power_texts_some names m are.1 (omega arith) (omega (arith, sum_by-cons (λ x. x) 0 m))
power_texts_some (name ∷ names) (suc e ∷ m) are size some = (power_text name (suc e), power_texts names m, refl, some_power name (suc e) are.0)

-- factors are not empty where the first is not
some_factors : (text : List ℕ) (texts : List (List ℕ)) → 1 ≤ length text → 1 ≤ length (join_with_byte 42 (text ∷ texts))
some_factors text [] some = some
some_factors text (next ∷ texts) some = omega (arith, length-append text (42 ∷ join_with_byte 42 (next ∷ texts)))

-- a number's text, by cases on its sign
number_cases : (P : List ℕ → Type 0) (p a : ℕ) → a < p → P (decimal a) → (0 < a → P (45 ∷ decimal (p - a))) → P (number_text p a)
number_cases P zero a below low high = absurd (omega arith)
number_cases P (suc q) a below low high =
    elim (cases_Bool (nat_le a (suc q / 2))) [
      | inl upper ↦ rw upper low
      | inr above ↦
          let some : 0 < a = grind (arith, nat_tests) in
          let value : suc (suc q - suc a) ≡ suc q - a = omega arith in
          rw (above, lt-ltb a (suc q) below, value) (high some)
    ]

module _ (p : ℕ) (names : List (List ℕ)) where
  -- a product with no sign
  plain_reads : (text : List ℕ) (t : PolyTerm) → 1 ≤ length text → list_all is_product_byte text ≡ true → read_product p names text ≡ Some t
      → ReadsAnywhere p names text t
  plain_reads [] t some bytes read = absurd (omega arith)
  plain_reads (b ∷ text) t some bytes read =
      let both = and_parts (is_product_byte b) (list_all is_product_byte text) bytes in
      let no_minus : (b == 45) ≡ false = other_byte is_product_byte 45 b both.0 refl in
      let no_plus : (b == 43) ≡ false = other_byte is_product_byte 43 b both.0 refl in
      let behind : list_all (λ b. not (is_sign b)) text ≡ true = all_weaker is_product_byte (λ b. not (is_sign b)) text product_no_sign both.1 in
      let whole : list_all (λ b. not (is_sign b)) (b ∷ text) ≡ true =
      all_weaker is_product_byte (λ b. not (is_sign b)) (b ∷ text) product_no_sign bytes in (
        record { some = some; unsigned = behind; read = rw (no_minus, no_plus) read },
        rw no_minus (record { some = omega arith; unsigned = whole; read = read }),
      )

  -- a product behind `-`
  minus_reads : (text : List ℕ) (c : ℕ) (m : Monomial) (t : PolyTerm) → list_all is_product_byte text ≡ true
      → read_product p names text ≡ Some (c, m) → ◌≡◌ {A = PolyTerm} ((p - c) % p, m) t → ReadsAnywhere p names (45 ∷ text) t
  minus_reads text c m t bytes read is =
      let behind : list_all (λ b. not (is_sign b)) text ≡ true = all_weaker is_product_byte (λ b. not (is_sign b)) text product_no_sign bytes in
      let reads : ReadsAs p names (45 ∷ text) t = record {
        some = omega arith;
        unsigned = behind;
        read = ap (option_map (λ (u : PolyTerm). ((p - u.0) % p, u.1))) read ∙ ap (λ (u : PolyTerm). Some u) is;
      } in (reads, reads)

  module _ (are : AreNames (length names) names) (fits : p < 2 ^ 64) where
    -- a number and the factors of a monomial behind it
    factors_bytes : (v : ℕ) (m : Monomial) → v < p → sum m ≤ 4095 → list_all is_product_byte (join_with_byte 42 (decimal v ∷ power_texts names m)) ≡ true
    factors_bytes v m below small =
        product_bytes (decimal v ∷ power_texts names m)
        (all_weaker is_digit is_power_byte (decimal v) digit_in_power (digits_of_decimal v (omega arith)), power_texts_bytes names m are.each small)

    -- A term with a number in front: the text behind the number joins with its digits as factors do.
    numbered_reads : (t : PolyTerm) (behind : List ℕ) → IsTerm p (length names) t
        → ((v : ℕ) → join_with_byte 42 (decimal v ∷ power_texts names t.1) ≡ decimal v ++ behind)
        → ReadsAnywhere p names (number_text p t.0 ++ behind) t
    numbered_reads t behind is joined =
        let a : ℕ = t.0 in
        let m : Monomial = t.1 in
        let below : a < p = is.below in
        let small : sum m ≤ 4095 = is.small in
        number_cases (λ text. ReadsAnywhere p names (text ++ behind) t) p a below
        (let some : 0 < length (decimal a) = decimal_nonempty a (omega arith) in
        plain_reads (decimal a ++ behind) t (omega (arith, length-append (decimal a) behind))
        (ap (list_all is_product_byte) (sym (joined a)) ∙ factors_bytes a m below small)
        (ap (read_product p names) (sym (joined a)) ∙ read_number_factors p names are a m below fits is.vars small))
        (λ some.
        let less : p - a < p = omega arith in
        let back : p - (p - a) ≡ a = omega arith in
        let value : (p - (p - a)) % p ≡ a = ap (λ n. n % p) back ∙ mod-eq_of_lt below in
        minus_reads (decimal (p - a) ++ behind) (p - a) m t
        (ap (list_all is_product_byte) (sym (joined (p - a))) ∙ factors_bytes (p - a) m less small)
        (ap (read_product p names) (sym (joined (p - a))) ∙ read_number_factors p names are (p - a) m less fits is.vars small)
        (ap (λ (n : ℕ). (n, m)) value))

    -- the text of 0
    pub zero_reads : 0 < p → ReadsAs p names (codes "0") (0, one (length names))
    zero_reads some =
        let total : sum (one (length names)) ≡ 0 = sum-zeros (length names) in
        let digits : decimal 0 ≡ codes "0" = decimal_digit 0 (omega arith) in
        let no_powers : power_texts names (one (length names)) ≡ [] = power_texts_none names (one (length names)) total in
        let joined : join_with_byte 42 (decimal 0 ∷ power_texts names (one (length names))) ≡ codes "0" = rw (no_powers, digits) refl in
        (plain_reads (codes "0") (0, one (length names)) (omega arith) refl
        (ap (read_product p names) (sym joined)
        ∙ read_number_factors p names are 0 (one (length names)) some fits (length-replicate {A = ℕ} (length names) 0) (omega arith))).0

    -- a term whose monomial is not 1
    monomial_reads : (t : PolyTerm) → IsTerm p (length names) t → 0 < sum t.1 → (degree t.1 == 0) ≡ false → ReadsAnywhere p names (term_text p names t) t
    monomial_reads t is some other =
        let a : ℕ = t.0 in
        let m : Monomial = t.1 in
        let below : a < p = is.below in
        let nonzero : 0 < a = is.nonzero in
        let powers = power_texts_some names m are.each is.vars some in
        let bytes : list_all is_product_byte (monomial_text names m) ≡ true =
        product_bytes (power_texts names m) (power_texts_bytes names m are.each is.small) in
        let factors : read_product p names (monomial_text names m) ≡ Some (1, m) =
        read_factors p names are m powers.0 powers.1 powers.2 is.vars is.small in
        elim (cases_Bool (a == 1)) [
          | inl unit ↦
              let value : 1 ≡ a = sym (eqb-true a 1 unit) in
              rw (other, unit) (plain_reads (monomial_text names m) t
              (subst (λ ws. 1 ≤ length (join_with_byte 42 ws)) (sym powers.2) (some_factors powers.0 powers.1 powers.3))
              bytes (factors ∙ ap (λ n. Some (n, m)) value))
          | inr no_unit ↦ elim (cases_Bool (a == p - 1)) [
            | inl minus ↦
                let is_minus : a ≡ p - 1 = eqb-true a (p - 1) minus in
                let value : (p - 1) % p ≡ a = mod-eq_of_lt (omega arith) ∙ sym is_minus in
                rw (other, no_unit, minus) (minus_reads (monomial_text names m) 1 m t bytes factors (ap (λ (n : ℕ). (n, m)) value))
            | inr no_minus ↦
                rw (other, no_unit, no_minus) (subst (λ text. ReadsAnywhere p names text t)
                (sym (append_assoc (number_text p a) (codes "*") (monomial_text names m)))
                (numbered_reads t (codes "*" ++ monomial_text names m) is (λ v. rw powers.2 refl)))
          ]
        ]

    -- the text of a term
    pub term_reads : (t : PolyTerm) → IsTerm p (length names) t → ReadsAnywhere p names (term_text p names t) t
    term_reads t is =
        elim (cases_Bool (degree t.1 == 0)) [
          | inl constant ↦
              let no_powers : power_texts names t.1 ≡ [] = power_texts_none names t.1 (eqb-true (degree t.1) 0 constant) in
              rw constant (subst (λ text. ReadsAnywhere p names text t) (append-nil (number_text p t.0))
              (numbered_reads t [] is (λ v. rw no_powers (sym (append-nil (decimal v))))))
          | inr other ↦ monomial_reads t is (grind (arith, nat_tests)) other
        ]
