-- One digit of a number to a base, as code finds the binomials of it.
use Rattle.std.proofs.Common.{◌≡◌, ◌≢◌, ℕ, zero, suc, ◌*◌, ◌/◌, ◌%◌, ◌^◌, ◌<◌, ◌≤◌, ◌⊎◌, inl, inr, List, [], ◌∷◌, length, min, get_or, refl, sym, ap, ◌∙◌, subst, arith, mod-lt, mod-eq_of_lt}
use Rattle.std.proofs.Math.Nat.{div-mul-le_self, mod-le, mod_self, one-le-pow, pow-zero, pow-suc, mul-div_left, div-div-eq-div-mul, div-eq_of_lt}
use Rattle.std.proofs.lemmas.Nat.{le-div}
use Rattle.monomials.proofs.Modulo.{same_rest}
use Rattle.word_model.specs.Conditions.{IsField}
use Rattle.closed_forms.specs.Binomials.{q_number, gaussian}
use Rattle.closed_forms.specs.Inside.Tables.{table, IsFree, IsBase}
use Rattle.closed_forms.proofs.Pascal.{gaussian-above}
use Rattle.closed_forms.proofs.Residues.{same_times}
use Rattle.closed_forms.proofs.Tables.{length-table, at_table, past_table}
use Rattle.closed_forms.proofs.Lucas.{split}

-- quotients keep the order
pub quotient_within : (k t m : ℕ) → 1 ≤ m → k ≤ t → k / m ≤ t / m
quotient_within k t m pos h = le-div (k / m) t m (omega arith) (omega (arith, div-mul-le_self k m))

-- the q-numbers of a digit are not zero
pub digit_free : (p q m n : ℕ) → IsBase p q m n → IsFree p q (suc (n % m))
digit_free p q m n base = λ t low high. base.free t low (omega (arith, high, mod-lt n base.positive))

-- the number that is read from a digit's row, which ends at the lesser of n % m and top
pub number_of_digit : (p q m n top k x : ℕ) (xs : List ℕ) → 0 < p → xs ≡ table p (gaussian q (n % m)) (suc (min (n % m) top)) → k ≤ top → x ≡ get_or xs (k % m) 0
    → x ≡ gaussian q (n % m) (k % m) % p
number_of_digit p q m n top k x xs pos whole h is =
    is ∙ ap (λ l. get_or l (k % m) 0) whole ∙ by (inside (n % m) top (k % m) (omega (arith, mod-le k m)))
  where
    inside : (r top s : ℕ) → s ≤ top → (s < suc (min r top)) ⊎ ((r < s) × (suc (min r top) ≤ s))
    inside r top s h = grind arith

    by : (k % m < suc (min (n % m) top)) ⊎ ((n % m < k % m) × (suc (min (n % m) top) ≤ k % m))
        → get_or (table p (gaussian q (n % m)) (suc (min (n % m) top))) (k % m) 0 ≡ gaussian q (n % m) (k % m) % p
    by (inl l) = at_table p (gaussian q (n % m)) (suc (min (n % m) top)) (k % m) l
    by (inr past) =
        past_table p (gaussian q (n % m)) (suc (min (n % m) top)) (k % m) past.1
        ∙ sym (ap (λ r. r % p) (gaussian-above q (n % m) (k % m) past.0) ∙ mod-eq_of_lt pos)

-- the product of the two entries
pub entry_of_digits : (p q m n k x y : ℕ) → IsField p → IsBase p q m n → k ≤ n → x ≡ gaussian 1 (n / m) (k / m) % p → y ≡ gaussian q (n % m) (k % m) % p
    → (x * y) % p ≡ gaussian q n k % p
entry_of_digits p q m n k x y field base h ex ey =
    rw (ex, ey) (same_times p _ _ _ _ (same_rest p (gaussian 1 (n / m) (k / m))) (same_rest p (gaussian q (n % m) (k % m))) ∙ sym (split p q m n k field base h))

-- ---- plain binomials, by digits to the base p

-- a power of p
pub record IsPower (p scale : ℕ) : Type 0 where
  pub exponent : ℕ
  pub is : scale ≡ p ^ exponent

pub power_more : (p scale : ℕ) → IsPower p scale → IsPower p (scale * p)
power_more p scale h = record { exponent = suc h.exponent; is = ap (λ x. x * p) h.is ∙ sym (pow-suc p h.exponent) }

-- a power is not zero
pub power_positive : (p scale : ℕ) → 1 < p → IsPower p scale → 1 ≤ scale
power_positive p scale above_one h = subst (λ x. 1 ≤ x) (sym h.is) (one-le-pow h.exponent p (omega arith))

-- a power above 1 is p times one
pub power_less : (p scale : ℕ) → 1 < p → 1 < scale → IsPower p scale → IsPower p (scale / p) × (scale / p * p ≡ scale)
power_less p scale above_one more h = by h.exponent h.is
  where
    by : (e : ℕ) → scale ≡ p ^ e → IsPower p (scale / p) × (scale / p * p ≡ scale)
    by zero is = absurd (omega (arith, is, pow-zero p))
    by (suc e) is =
        let step : scale ≡ p ^ e * p = is ∙ pow-suc p e in
        let quotient : scale / p ≡ p ^ e = ap (λ x. x / p) step ∙ mul-div_left (p ^ e) (omega arith) in
        (record { exponent = e; is = quotient }, ap (λ x. x * p) quotient ∙ sym step)

-- a quotient by a power is a quotient by the next lower one, divided by p
pub power_quotient : (p scale n : ℕ) → scale / p * p ≡ scale → n / (scale / p) / p ≡ n / scale
power_quotient p scale n e = div-div-eq-div-mul n (scale / p) p ∙ ap (λ x. n / x) e

-- p is the base of plain binomials
pub plain_base : (p n : ℕ) → 1 < p → IsBase p 1 p n
plain_base p n above_one = record {
  positive = omega arith;
  free = λ t low high zero_there. absurd (omega (arith, low, sym (mod-eq_of_lt high) ∙ ap (λ x. x % p) (sym (plain t)) ∙ zero_there));
  zero_there = inr (ap (λ x. x % p) (plain p) ∙ mod_self p);
}
  where
    plain : (t : ℕ) → q_number 1 t ≡ t
    plain zero = refl
    plain (suc t) = omega (arith, plain t)

-- the row of 0
pub row_of_none : (p n top scale : ℕ) (xs : List ℕ) → 1 < p → n < scale → top ≤ n → xs ≡ 1 ∷ [] → xs ≡ table p (gaussian 1 (n / scale)) (suc (top / scale))
row_of_none p n top scale xs above_one past within is =
    let a : n / scale ≡ 0 = div-eq_of_lt past in
    let b : top / scale ≡ 0 = div-eq_of_lt (omega arith) in
    rw (a, b, is) (ap (λ x. x ∷ []) (sym (mod-eq_of_lt above_one)))

-- the least number whose entry in a table of q-numbers is zero is a base
pub found_base : (p q n m : ℕ) (xs : List ℕ) → xs ≡ table p (q_number q) (suc n) → 1 ≤ m → m ≤ length xs → ((t : ℕ) → 1 ≤ t → t < m → get_or xs t 0 ≢ 0)
    → (m < length xs → get_or xs m 0 ≡ 0) → IsBase p q m n
found_base p q n m xs whole low high least zero_there = record {
  positive = low;
  free = λ t l h z. least t l h (at t (omega (arith, h, len)) ∙ z);
  zero_there = by (inside m (suc n) (omega (arith, len)));
}
  where
    len : length xs ≡ suc n
    len = ap length whole ∙ length-table p (q_number q) (suc n)

    at : (t : ℕ) → t < suc n → get_or xs t 0 ≡ q_number q t % p
    at t h = ap (λ l. get_or l t 0) whole ∙ at_table p (q_number q) (suc n) t h

    inside : (m n : ℕ) → m ≤ n → (m < n) ⊎ (n ≡ m)
    inside m n h = grind arith

    by : (m < suc n) ⊎ (suc n ≡ m) → (n < m) ⊎ (q_number q m % p ≡ 0)
    by (inl l) = inr (sym (at m l) ∙ zero_there (omega (arith, len)))
    by (inr e) = inl (omega arith)
