-- The leftmost descent of a word.
use Rattle.std.proofs.Common.{◌≡◌, ℕ, zero, suc, ◌<◌, ◌≤◌, ◌⊎◌, inl, inr, true, false, [], ◌∷◌, ◌++◌, replicate, nat_lt, Option, Some, None, refl, sym, ap, ◌∙◌, subst, arith, le_refl, le_trans}
use Rattle.std.proofs.lemmas.Bool.Decides.{nat_tests}
use Rattle.monomials.specs.Monomials.{Monomial}
use Rattle.monomials.specs.Polynomials.{Each}
use Rattle.monomials.proofs.Keys.{Each-append, Each-weaker}
use Rattle.word_model.specs.Words.{Word, word_from, sorted_word, Descent, behind_letter, leftmost_descent}

-- the word that has this descent
abbrev pub word_of : Descent → Word
word_of s = s.before ++ s.high ∷ s.low ∷ s.after

-- a descent, by its parts
abbrev pub descent : Word → ℕ → ℕ → Word → Descent
descent before high low after = record { before = before; high = high; low = low; after = after }

-- two letters in descending order at the front are the leftmost descent
pub descent_here : (x y : ℕ) (w : Word) → y < x → leftmost_descent (x ∷ y ∷ w) ≡ Some (descent [] x y w)
descent_here x y w h =
    let t : nat_lt y x ≡ true = grind (arith, nat_tests) in
    ap (λ b. elim b as (λ b. Option Descent) [ true ↦ Some (descent [] x y w) | false ↦ behind_letter x (leftmost_descent (y ∷ w)) ]) t

-- two letters in rising order at the front are passed over
pub descent_behind : (x y : ℕ) (w : Word) → x ≤ y → leftmost_descent (x ∷ y ∷ w) ≡ behind_letter x (leftmost_descent (y ∷ w))
descent_behind x y w h =
    let t : nat_lt y x ≡ false = grind (arith, nat_tests) in
    ap (λ b. elim b as (λ b. Option Descent) [ true ↦ Some (descent [] x y w) | false ↦ behind_letter x (leftmost_descent (y ∷ w)) ]) t

pub lt_or_le : (x y : ℕ) → (y < x) ⊎ (x ≤ y)
lt_or_le x y = grind arith

-- the descent that is found stands in the word
pub found_descent : (w : Word) (s : Descent) → leftmost_descent w ≡ Some s → (w ≡ word_of s) × (s.low < s.high)
found_descent [] s e = cc
found_descent (x ∷ []) s e = cc
found_descent (x ∷ (y ∷ w)) s e = by (found_descent (y ∷ w)) (lt_or_le x y)
  where
    behind : ((s' : Descent) → leftmost_descent (y ∷ w) ≡ Some s' → (y ∷ w ≡ word_of s') × (s'.low < s'.high))
        → (r : Option Descent) → leftmost_descent (y ∷ w) ≡ r → behind_letter x r ≡ Some s → (x ∷ y ∷ w ≡ word_of s) × (s.low < s.high)
    behind ih None er h = cc
    behind ih (Some s') er h =
        let is : record s' { before = x ∷ s'.before } ≡ s = cc in
        subst (λ (s : Descent). (x ∷ y ∷ w ≡ word_of s) × (s.low < s.high)) is (ap (λ v. x ∷ v) (ih s' er).0, (ih s' er).1)

    by : ((s' : Descent) → leftmost_descent (y ∷ w) ≡ Some s' → (y ∷ w ≡ word_of s') × (s'.low < s'.high)) → (y < x) ⊎ (x ≤ y) → (x ∷ y ∷ w ≡ word_of s) × (s.low < s.high)
    by ih (inl lt) =
        let is : Some (descent [] x y w) ≡ Some s = sym (descent_here x y w lt) ∙ e in
        let same : descent [] x y w ≡ s = cc in
        subst (λ (s : Descent). (x ∷ y ∷ w ≡ word_of s) × (s.low < s.high)) same (refl, lt)
    by ih (inr le) = behind ih (leftmost_descent (y ∷ w)) refl (sym (descent_behind x y w le) ∙ e)

-- a letter in front of a word without descents, none of whose letters is below it
in_front : (x : ℕ) (w : Word) → Each (λ y. x ≤ y) w → leftmost_descent w ≡ None → leftmost_descent (x ∷ w) ≡ None
in_front x [] h e = refl
in_front x (y ∷ w) h e = descent_behind x y w h.0 ∙ ap (behind_letter x) e

-- no letter of a sorted word is below the first of its variables
pub letters_from : (i : ℕ) (m : Monomial) → Each (λ y. i ≤ y) (word_from i m)
letters_from i [] = tt
letters_from i (x ∷ m) =
    Each-append _ (replicate x i) (word_from (suc i) m) (all_i x) (Each-weaker _ _ (λ y h. omega arith) (word_from (suc i) m) (letters_from (suc i) m))
  where
    all_i : (e : ℕ) → Each (λ y. i ≤ y) (replicate e i)
    all_i zero = tt
    all_i (suc e) = (le_refl i, all_i e)

sorted_from : (i : ℕ) (m : Monomial) → leftmost_descent (word_from i m) ≡ None
sorted_from i [] = refl
sorted_from i (x ∷ m) = go x (sorted_from (suc i) m)
  where
    go : (e : ℕ) → leftmost_descent (word_from (suc i) m) ≡ None → leftmost_descent (replicate e i ++ word_from (suc i) m) ≡ None
    go zero h = h
    go (suc e) h = in_front i (replicate e i ++ word_from (suc i) m) (letters_from i (e ∷ m)) (go e h)

-- the sorted word of a monomial has no descent
pub leftmost_descent-sorted_word : (m : Monomial) → leftmost_descent (sorted_word m) ≡ None
leftmost_descent-sorted_word m = sorted_from 1 m

-- a word without descents rises
pub rising : (x : ℕ) (w : Word) → leftmost_descent (x ∷ w) ≡ None → Each (λ y. x ≤ y) w × (leftmost_descent w ≡ None)
rising x [] e = (tt, refl)
rising x (y ∷ w) e = by (rising y w) (lt_or_le x y)
  where
    none : (r : Option Descent) → behind_letter x r ≡ None → r ≡ None
    none None e = refl
    none (Some s) e = cc

    by : (leftmost_descent (y ∷ w) ≡ None → Each (λ z. y ≤ z) w × (leftmost_descent w ≡ None)) → (y < x) ⊎ (x ≤ y)
        → Each (λ z. x ≤ z) (y ∷ w) × (leftmost_descent (y ∷ w) ≡ None)
    by ih (inl lt) = absurd (let no : Some (descent [] x y w) ≡ None = sym (descent_here x y w lt) ∙ e in cc)
    by ih (inr le) =
        let r : leftmost_descent (y ∷ w) ≡ None = none (leftmost_descent (y ∷ w)) (sym (descent_behind x y w le) ∙ e) in
        ((le, Each-weaker _ _ (λ z h. le_trans le h) w (ih r).0), r)
