-- The texts of products are read as their terms.
use Rattle.std.proofs.Common.{◌≡◌, ℕ, zero, suc, ◌+◌, ◌-◌, ◌*◌, ◌%◌, ◌<◌, ◌≤◌, ◌^◌, ◌==◌, not, List, [], ◌∷◌, ◌++◌, length, slice_index_or, replicate, sum, true, false, Option, Some, refl, sym, ◌∙◌, ap, subst, arith, inl, inr, append_assoc}
use Rattle.std.proofs.Math.Nat.{mod-eq_of_lt}
use Rattle.std.specs.Prelude.{option_and_then}
use Rattle.std.specs.List.{list_all, slice_split, join_with_byte, All}
use Rattle.std.specs.Option.{option_map}
use Rattle.std.specs.Fmt.{decimal}
use Rattle.std.proofs.lemmas.Bool.{cases_Bool, le-leb, false≢true}
use Rattle.std.proofs.lemmas.List.{length-append, length-replicate}
use Rattle.std.proofs.lemmas.List.Sums.{sum_by-append, sum_by-cons}
use Rattle.std.proofs.lemmas.List.Folds.{list_all_at}
use Rattle.std.proofs.lemmas.List.Splits.{slice_split_none, slice_split_at}
use Rattle.monomials.specs.Monomials.{Monomial, degree, plus, one}
use Rattle.monomials.specs.Polynomials.{Each}
use Rattle.monomials.proofs.Exponents.{sum-zeros}
use Rattle.word_model.specs.Texts.{power_text, power_texts}
use Rattle.plural_lexer.specs.Letters.{is_digit}
use Rattle.plural_text.specs.Names.{IsName, AreDifferent, AreNames}
use Rattle.plural_text.specs.Readings.{read_number, read_name, times_power, times_factor, times_factors, read_product, PolyTerm, power_of}
use Rattle.plural_text.proofs.Characters.{is_power_byte, is_product_byte, all_weaker, all_append, power_in_product, power_no_star}
use Rattle.plural_text.proofs.Numbers.{digits_of_decimal, read_number-decimal, decimal_is_number}
use Rattle.plural_text.proofs.Powers.{read_name_at, read_power_text, power_is_no_number, digit_in_power, power_bytes}
use Rattle.plural_text.proofs.Steps.{power_of-zeros}

-- ---- factors

-- a byte behind a list of them
stars_none : (text : List ℕ) → list_all is_power_byte text ≡ true → All (λ b. (b == 42) ≡ false) text
stars_none text h k d within =
    elim (cases_Bool (slice_index_or text k d == 42)) [
      | inl star ↦ absurd (false≢true (sym (list_all_at (λ b. not (b == 42)) text k d within (ap not star))
          ∙ all_weaker is_power_byte (λ b. not (b == 42)) text power_no_star h))
      | inr other ↦ other
    ]

-- factors that were joined by `*` are cut at `*`
pub factors_cut : (text : List ℕ) (texts : List (List ℕ)) → Each (λ w. list_all is_power_byte w ≡ true) (text ∷ texts)
    → slice_split (λ b. b == 42) (join_with_byte 42 (text ∷ texts)) ≡ text ∷ texts
factors_cut text [] h = slice_split_none (λ b. b == 42) text (stars_none text h.0)
factors_cut text (next ∷ texts) h =
    slice_split_at (λ b. b == 42) text 42 (join_with_byte 42 (next ∷ texts)) (stars_none text h.0) refl
    ∙ ap (λ ws. text ∷ ws) (factors_cut next texts h.1)

-- the bytes of such a product
pub product_bytes : (texts : List (List ℕ)) → Each (λ w. list_all is_power_byte w ≡ true) texts
    → list_all is_product_byte (join_with_byte 42 texts) ≡ true
product_bytes [] h = refl
product_bytes (text ∷ []) h = all_weaker is_power_byte is_product_byte text power_in_product h.0
product_bytes (text ∷ (next ∷ texts)) h =
    all_append is_product_byte text (42 ∷ join_with_byte 42 (next ∷ texts))
    (all_weaker is_power_byte is_product_byte text power_in_product h.0) (product_bytes (next ∷ texts) h.1)

-- the powers of a monomial
pub power_texts_bytes : (names : List (List ℕ)) (m : Monomial) → Each IsName names → sum m ≤ 4095
    → Each (λ w. list_all is_power_byte w ≡ true) (power_texts names m)
power_texts_bytes [] m are small = tt
power_texts_bytes (name ∷ names) [] are small = tt
power_texts_bytes (name ∷ names) (zero ∷ m) are small =
    power_texts_bytes names m are.1 (omega (arith, sum_by-cons (λ x. x) 0 m))
power_texts_bytes (name ∷ names) (suc e ∷ m) are small =
    let whole = sum_by-cons (λ x. x) (suc e) m in
    (power_bytes name (suc e) are.0 (omega arith), power_texts_bytes names m are.1 (omega arith))

-- ---- monomials

zeros_plus : (k : ℕ) → plus (replicate k 0) (replicate k 0) ≡ replicate k 0
zeros_plus zero = refl
zeros_plus (suc k) = ap (λ m. 0 ∷ m) (zeros_plus k)

-- a power at the first place that is still zero
plus_power : (front : Monomial) (e k : ℕ)
    → plus (front ++ replicate (suc k) 0) (replicate (length front) 0 ++ (e ∷ replicate k 0)) ≡ front ++ (e ∷ replicate k 0)
plus_power [] e k = let first : 0 + e ≡ e = omega arith in rw (first, zeros_plus k) refl
plus_power (x ∷ front) e k = let first : x + 0 ≡ x = omega arith in rw first (ap (λ m. x ∷ m) (plus_power front e k))

-- so is the product with it
times_power_next : (front : Monomial) (e k : ℕ) → sum front + e ≤ 4095
    → times_power (front ++ replicate (suc k) 0) (length front, e) ≡ Some (front ++ (e ∷ replicate k 0))
times_power_next front e k small =
    let total : degree (front ++ replicate (suc k) 0) ≡ sum front =
    sum_by-append (λ x. x) front (replicate (suc k) 0) ∙ omega (arith, sum-zeros (suc k)) in
    let size : length (front ++ replicate (suc k) 0) ≡ length front + suc k =
    length-append front (replicate (suc k) 0) ∙ ap (λ n. length front + n) (length-replicate {A = ℕ} (suc k) 0) in
    let behind : length front + suc k - length front - 1 ≡ k = omega arith in
    let power : power_of (length front + suc k) (length front, e) ≡ replicate (length front) 0 ++ (e ∷ replicate k 0) =
    power_of-zeros (length front + suc k) (length front) e ∙ ap (λ j. replicate (length front) 0 ++ (e ∷ replicate j 0)) behind in
    rw (total, le-leb (sum front + e) 4095 small, size)
    (ap (λ (m : Monomial). Some m) (ap (λ (w : Monomial). plus (front ++ replicate (suc k) 0) w) power ∙ plus_power front e k))

module _ (p : ℕ) (names : List (List ℕ)) where
  -- a power among the factors
  times_factor_power : (c : ℕ) (m : Monomial) (name : List ℕ) (place e : ℕ) (result : Option Monomial) → IsName name
      → read_name names name ≡ Some place → 1 ≤ e → e ≤ 4095 → times_power m (place, e) ≡ result
      → times_factor p names (c, m) (power_text name e) ≡ option_map (λ (r : Monomial). (c, r)) result
  times_factor_power c m name place e result is found some within times =
      rw (power_is_no_number name e is, read_power_text names name place e is found some within, times) refl

  -- The powers of a monomial, behind those that gave the front of it.
  times_powers : (c : ℕ) (front back : List (List ℕ)) (done m : Monomial) → names ≡ front ++ back → AreDifferent names → Each IsName back
      → length done ≡ length front → length m ≡ length back → sum done + sum m ≤ 4095
      → times_factors p names (c, done ++ replicate (length m) 0) (power_texts back m) ≡ Some (c, done ++ m)
  times_powers c front [] done [] are different is size rest small = refl
  times_powers c front [] done (e ∷ m) are different is size rest small = absurd (omega arith)
  times_powers c front (name ∷ back) done [] are different is size rest small = absurd (omega arith)
  times_powers c front (name ∷ back) done (zero ∷ m) are different is size rest small =
      let step = times_powers c (front ++ name ∷ []) back (done ++ 0 ∷ []) m (are ∙ sym (append_assoc front (name ∷ []) back)) different is.1
      (omega (arith, length-append done (0 ∷ []), length-append front (name ∷ []))) (omega arith)
      (omega (arith, sum_by-append (λ x. x) done (0 ∷ []), sum_by-cons (λ x. x) 0 m)) in
      ap (λ (z : Monomial). times_factors p names (c, z) (power_texts back m)) (sym (append_assoc done (0 ∷ []) (replicate (length m) 0)))
      ∙ (step ∙ ap (λ (z : Monomial). Some (c, z)) (append_assoc done (0 ∷ []) m))
  times_powers c front (name ∷ back) done (suc e ∷ m) are different is size rest small =
      let whole = sum_by-cons (λ x. x) (suc e) m in
      let found : read_name names name ≡ Some (length done) =
      subst (λ ns. AreDifferent ns → read_name ns name ≡ Some (length front)) (sym are) (read_name_at front name back) different
      ∙ ap (λ n. Some n) (sym size) in
      let first = times_factor_power c (done ++ replicate (suc (length m)) 0) name (length done) (suc e)
      (Some (done ++ (suc e ∷ replicate (length m) 0))) is.0 found (omega arith) (omega arith)
      (times_power_next done (suc e) (length m) (omega arith)) in
      let step = times_powers c (front ++ name ∷ []) back (done ++ suc e ∷ []) m (are ∙ sym (append_assoc front (name ∷ []) back)) different is.1
      (omega (arith, length-append done (suc e ∷ []), length-append front (name ∷ []))) (omega arith)
      (omega (arith, sum_by-append (λ x. x) done (suc e ∷ []))) in
      ap (option_and_then (λ (u : PolyTerm). times_factors p names u (power_texts back m))) first
      ∙ (ap (λ (z : Monomial). times_factors p names (c, z) (power_texts back m)) (sym (append_assoc done (suc e ∷ []) (replicate (length m) 0)))
      ∙ (step ∙ ap (λ (z : Monomial). Some (c, z)) (append_assoc done (suc e ∷ []) m)))

  module _ (are : AreNames (length names) names) where
    -- the powers of a monomial, from 1 on
    times_monomial : (c : ℕ) (m : Monomial) → length m ≡ length names → sum m ≤ 4095
        → times_factors p names (c, one (length names)) (power_texts names m) ≡ Some (c, m)
    times_monomial c m size small =
        subst (λ n. times_factors p names (c, replicate n 0) (power_texts names m) ≡ Some (c, m)) size
        (times_powers c [] names [] m refl are.different are.each refl size (omega arith))

    -- the factors of a monomial
    pub read_factors : (m : Monomial) (text : List ℕ) (texts : List (List ℕ)) → power_texts names m ≡ text ∷ texts → length m ≡ length names → sum m ≤ 4095
        → read_product p names (join_with_byte 42 (power_texts names m)) ≡ Some (1, m)
    read_factors m text texts is size small =
        let cut = factors_cut text texts (subst (λ ws. Each (λ w. list_all is_power_byte w ≡ true) ws) is (power_texts_bytes names m are.each small)) in
        ap (λ (ws : List (List ℕ)). times_factors p names (1, one (length names)) (slice_split (λ b. b == 42) (join_with_byte 42 ws))) is
        ∙ (ap (times_factors p names (1, one (length names))) (cut ∙ sym is) ∙ times_monomial 1 m size small)

    -- a number and the factors of a monomial
    pub read_number_factors : (v : ℕ) (m : Monomial) → v < p → p < 2 ^ 64 → length m ≡ length names → sum m ≤ 4095
        → read_product p names (join_with_byte 42 (decimal v ∷ power_texts names m)) ≡ Some (v, m)
    read_number_factors v m below fits size small =
        let bytes : list_all is_power_byte (decimal v) ≡ true =
        all_weaker is_digit is_power_byte (decimal v) digit_in_power (digits_of_decimal v (omega arith)) in
        let cut = factors_cut (decimal v) (power_texts names m) (bytes, power_texts_bytes names m are.each small) in
        let number : read_number (p - 1) (decimal v) ≡ Some v = read_number-decimal (p - 1) v (omega arith) (omega arith) in
        let value : (1 * v) % p ≡ v = ap (λ n. n % p) (omega arith) ∙ mod-eq_of_lt below in
        ap (times_factors p names (1, one (length names))) cut
        ∙ rw (decimal_is_number v (omega arith), number, value) (times_monomial v m size small)
