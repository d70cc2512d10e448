-- Tables of numbers modulo p.
use Rattle.std.proofs.Common.{◌≡◌, ℕ, zero, suc, ◌+◌, ◌-◌, ◌%◌, ◌<◌, ◌≤◌, ◌⊎◌, inl, inr, List, [], ◌∷◌, ◌++◌, length, get_or, refl, sym, ap, ◌∙◌, arith, length-append}
use Rattle.std.proofs.lemmas.List.{get_or_append_left, get_or-append_right, get_or_past}
use Rattle.monomials.proofs.Modulo.{Same}
use Rattle.closed_forms.specs.Inside.Tables.{table}

pub length-table : (p : ℕ) (c : ℕ → ℕ) (n : ℕ) → length (table p c n) ≡ n
length-table p c zero = refl
length-table p c (suc n) = length-append (table p c n) ((c n % p) ∷ []) ∙ omega (arith, length-table p c n)

-- the number at k, as it was made
pub at_table_or : (p : ℕ) (c : ℕ → ℕ) (n k d : ℕ) → k < n → get_or (table p c n) k d ≡ c k % p
at_table_or p c zero k d h = absurd (omega arith)
at_table_or p c (suc n) k d h = by (before_or_last k n h) (at_table_or p c n k d)
  where
    before_or_last : (k n : ℕ) → k < suc n → (k < n) ⊎ (k ≡ n)
    before_or_last k n h = grind arith

    by : (k < n) ⊎ (k ≡ n) → (k < n → get_or (table p c n) k d ≡ c k % p) → get_or (table p c n ++ (c n % p) ∷ []) k d ≡ c k % p
    by (inl l) before = get_or_append_left (table p c n) ((c n % p) ∷ []) d k (omega (arith, length-table p c n)) ∙ before l
    by (inr e) before =
        get_or-append_right (table p c n) ((c n % p) ∷ []) n k d (length-table p c n) (omega arith)
        ∙ rw e (let none : n - n ≡ 0 = omega arith in rw none refl)

pub at_table : (p : ℕ) (c : ℕ → ℕ) (n k : ℕ) → k < n → get_or (table p c n) k 0 ≡ c k % p
at_table p c n k h = at_table_or p c n k 0 h

-- past the end there is zero
pub past_table : (p : ℕ) (c : ℕ → ℕ) (n k : ℕ) → n ≤ k → get_or (table p c n) k 0 ≡ 0
past_table p c n k h = get_or_past (table p c n) k 0 (omega (arith, length-table p c n))

-- a number that was read from a table
pub from_table : (p : ℕ) (c : ℕ → ℕ) (n k x : ℕ) (xs : List ℕ) → xs ≡ table p c n → k < n → x ≡ get_or xs k x → x ≡ c k % p
from_table p c n k x xs whole h is = is ∙ ap (λ l. get_or l k x) whole ∙ at_table_or p c n k x h

-- one number more
pub table_more : (p : ℕ) (c : ℕ → ℕ) (n x : ℕ) (xs ys : List ℕ) → xs ≡ table p c n → x ≡ c n % p → ys ≡ xs ++ x ∷ [] → ys ≡ table p c (n + 1)
table_more p c n x xs ys whole last more =
    let e : n + 1 ≡ suc n = omega arith in
    rw e (more ∙ (λ i. whole i ++ last i ∷ []))

-- a table by its own length
pub by_length : (p : ℕ) (c : ℕ → ℕ) (n : ℕ) (xs : List ℕ) → xs ≡ table p c n → (length xs ≡ n) × (xs ≡ table p c (length xs))
by_length p c n xs whole =
    let len : length xs ≡ n = ap length whole ∙ length-table p c n in
    (len, whole ∙ ap (table p c) (sym len))

-- tables of numbers that are the same modulo p
pub table_alike : (p : ℕ) (c d : ℕ → ℕ) (n : ℕ) → ((k : ℕ) → k < n → Same p (c k) (d k)) → table p c n ≡ table p d n
table_alike p c d zero e = refl
table_alike p c d (suc n) e = λ i. table_alike p c d n (λ k l. e k (omega arith)) i ++ (e n (omega arith) i ∷ [])
