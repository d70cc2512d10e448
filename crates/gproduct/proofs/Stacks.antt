-- Factors on a stack, and products whose factors stand one behind another.
use Rattle.std.proofs.Common.{◌≡◌, ℕ, ◌+◌, ◌-◌, ◌≤◌, List, [], ◌∷◌, ◌++◌, length, take, drop, sym, ap, ◌∙◌, arith, append_assoc, append-nil, length-append, length-drop}
use Rattle.std.proofs.lemmas.List.{take-append-le, drop-append-le, take_all, take-append-drop, length-take-le}
use Rattle.monomials.specs.Monomials.{Monomial, degree, one}
use Rattle.monomials.proofs.Exponents.{get_or-zeros}
use Rattle.monomials.proofs.Keys.{Each-append}
use Rattle.word_model.specs.Words.{Word, IsWord, sorted_word}
use Rattle.word_model.proofs.Letters.{IsWord-sorted_word, length-word_from}
use Rattle.gproduct.specs.declared.pending.Open.{Open}
use Rattle.gproduct.specs.Inside.Factors.{stacked_word, HaveVars, products_in, factor_count}
use Rattle.gproduct.proofs.SortedWords.{word_from-nothing}

-- the word of two stacks, one on the other
pub stacked_word-append : (xs ys : List Monomial) → stacked_word (xs ++ ys) ≡ stacked_word ys ++ stacked_word xs
stacked_word-append [] ys = sym (append-nil (stacked_word ys))
stacked_word-append (x ∷ xs) ys = ap (λ w. w ++ sorted_word x) (stacked_word-append xs ys) ∙ append_assoc (stacked_word ys) (stacked_word xs) (sorted_word x)

-- the word of factors is one in the variables
pub IsWord-stacked_word : (n : ℕ) (ms : List Monomial) → HaveVars n ms → IsWord n (stacked_word ms)
IsWord-stacked_word n [] h = tt
IsWord-stacked_word n (m ∷ ms) h = Each-append _ (stacked_word ms) (sorted_word m) (IsWord-stacked_word n ms h.1) (IsWord-sorted_word n m h.0)

-- the word of 1 has no letter
pub sorted_word-one : (n : ℕ) → sorted_word (one n) ≡ []
sorted_word-one n = word_from-nothing 1 (one n) (get_or-zeros n)

-- the degrees of the first two factors are within the word's length
pub degrees-le : (l : ℕ) (x y : Monomial) (w whole : Word) → whole ≡ sorted_word x ++ (sorted_word y ++ w) → length whole ≤ l → degree x + degree y ≤ l
degrees-le l x y w whole is h =
    omega (arith, ap length is, length-append (sorted_word x) (sorted_word y ++ w), length-append (sorted_word y) w, length-word_from 1 x, length-word_from 1 y)

-- ---- products one behind another

factor_count-append : (ts us : List Open) → factor_count (ts ++ us) ≡ factor_count ts + factor_count us
factor_count-append [] us = omega arith
factor_count-append (t ∷ ts) us = omega (arith, factor_count-append ts us)

-- one product more
pub factor_count-push : (ts : List Open) (t : Open) → factor_count (ts ++ t ∷ []) ≡ factor_count ts + t.factors
factor_count-push ts t = omega (arith, factor_count-append ts (t ∷ []))

pub products_in-push : (ts : List Open) (ms : List Monomial) (t : Open) (fs : List Monomial) → factor_count ts ≡ length ms → t.factors ≡ length fs
    → products_in (ts ++ t ∷ []) (ms ++ fs) ≡ products_in ts ms ++ (t.coef, fs) ∷ []
products_in-push [] [] t fs counted is = ap (λ x. (t.coef, x) ∷ []) (take_all t.factors fs (omega arith))
products_in-push [] (m ∷ ms) t fs counted is = absurd (omega arith)
products_in-push (u ∷ ts) ms t fs counted is =
    let within : u.factors ≤ length ms = omega arith in
    λ i. (u.coef, take-append-le u.factors ms fs within i)
    ∷ (ap (products_in (ts ++ t ∷ [])) (drop-append-le u.factors ms fs within)
    ∙ products_in-push ts (drop u.factors ms) t fs (omega (arith, length-drop u.factors ms)) is) i

-- one product less
pub products_in-pop : (ts : List Open) (ms : List Monomial) (t : Open) (s : ℕ) → factor_count (ts ++ t ∷ []) ≡ length ms → s ≡ length ms - t.factors
    → products_in (ts ++ t ∷ []) ms ≡ products_in ts (take s ms) ++ (t.coef, drop s ms) ∷ []
products_in-pop ts ms t s counted is =
    let split : factor_count ts + t.factors ≡ length ms = sym (factor_count-push ts t) ∙ counted in
    ap (products_in (ts ++ t ∷ [])) (sym (take-append-drop s ms))
    ∙ products_in-push ts (take s ms) t (drop s ms)
    (let len : length (take s ms) ≡ s = length-take-le s ms (omega arith) in omega arith)
    (omega (arith, length-drop s ms))
