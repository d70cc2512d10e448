-- Words and their monomials.
use Rattle.std.proofs.Common.{◌≡◌, ◌≢◌, ℕ, zero, suc, ◌+◌, ◌<◌, ◌≤◌, cond, Bool, true, false, ◌-◌, List, [], ◌∷◌, ◌++◌, length, map, replicate, nat_eq, refl, ap, ◌∙◌, arith, length-append, le_trans}
use Rattle.std.proofs.lemmas.Bool.Decides.{nat_tests}
use Rattle.std.proofs.Math.ListN.{length-replicate}
use Rattle.std.proofs.lemmas.List.Sums.{sum_by-cons}
use Rattle.monomials.specs.Monomials.{Monomial, degree, plus, variable}
use Rattle.monomials.specs.Polynomials.{Each}
use Rattle.monomials.proofs.Keys.{Each-append}
use Rattle.word_model.specs.Words.{Word, IsWord, count_of, counts_from, monomial_of, word_from, sorted_word}

-- what holds of each image holds of each element of the mapped list
pub Each-map : {X Y : Type 0} (P : Y → Type 0) (h : X → Y) (xs : List X) → Each (λ x. P (h x)) xs → Each P (map h xs)
Each-map P h [] e = tt
Each-map P h (x ∷ xs) e = (e.0, Each-map P h xs e.1)

-- what follows from P and Q of each element
pub Each-both : {X : Type 0} (P Q R : X → Type 0) → ((x : X) → P x → Q x → R x) → (xs : List X) → Each P xs → Each Q xs → Each R xs
Each-both P Q R f [] h k = tt
Each-both P Q R f (x ∷ xs) h k = (f x h.0 k.0, Each-both P Q R f xs h.1 k.1)

-- ---- counts

pub count_of-append : (v : ℕ) (u w : Word) → count_of v (u ++ w) ≡ count_of v u + count_of v w
count_of-append v [] w = omega arith
count_of-append v (x ∷ u) w = omega (arith, count_of-append v u w)

-- the monomial of two words, one after the other, is the product of theirs
pub counts_from-append : (i n : ℕ) (u w : Word) → counts_from i n (u ++ w) ≡ plus (counts_from i n u) (counts_from i n w)
counts_from-append i zero u w = refl
counts_from-append i (suc n) u w = λ k. count_of-append i u w k ∷ counts_from-append (suc i) n u w k

pub length-counts_from : (i n : ℕ) (w : Word) → length (counts_from i n w) ≡ n
length-counts_from i zero w = refl
length-counts_from i (suc n) w = ap suc (length-counts_from (suc i) n w)

-- a word's monomial does not depend on the order of two letters that stand side by side
pub counts_from-swap : (i n : ℕ) (u : Word) (x y : ℕ) (w : Word) → counts_from i n (u ++ x ∷ y ∷ w) ≡ counts_from i n (u ++ y ∷ x ∷ w)
counts_from-swap i zero u x y w = refl
counts_from-swap i (suc n) u x y w = λ k. count_swap k ∷ counts_from-swap (suc i) n u x y w k
  where
    count_swap : count_of i (u ++ x ∷ y ∷ w) ≡ count_of i (u ++ y ∷ x ∷ w)
    count_swap = omega (arith, count_of-append i u (x ∷ y ∷ w), count_of-append i u (y ∷ x ∷ w))

count_of-le : (v : ℕ) (w : Word) → count_of v w ≤ length w
count_of-le v [] = omega arith
count_of-le v (x ∷ w) =
    elim (nat_eq v x) as (λ b. cond b 1 0 + count_of v w ≤ suc (length w)) [ true ↦ omega (arith, count_of-le v w) | false ↦ omega (arith, count_of-le v w) ]

-- no exponent of a word's monomial is above a bound on its length
pub counts_at_most : (l i n : ℕ) (w : Word) → length w ≤ l → Each (λ e. e ≤ l) (counts_from i n w)
counts_at_most l i zero w h = tt
counts_at_most l i (suc n) w h = (le_trans (count_of-le i w) h, counts_at_most l (suc i) n w h)

-- ---- the sorted word of a monomial

same_test : (v : ℕ) → nat_eq v v ≡ true
same_test v = grind (arith, nat_tests)

pub other_test : (v x : ℕ) → v ≢ x → nat_eq v x ≡ false
other_test v x h = grind (arith, nat_tests)

pub count_of-same : (v : ℕ) (w : Word) → count_of v (v ∷ w) ≡ suc (count_of v w)
count_of-same v w = ap {B = ℕ} (λ b. cond b 1 0 + count_of v w) (same_test v) ∙ omega arith

pub count_of-other : (v x : ℕ) (w : Word) → v ≢ x → count_of v (x ∷ w) ≡ count_of v w
count_of-other v x w h = ap {B = ℕ} (λ b. cond b 1 0 + count_of v w) (other_test v x h) ∙ omega arith

-- the sorted word of 1 has no letter
pub word_from-zeros : (i n : ℕ) → word_from i (replicate n 0) ≡ []
word_from-zeros i zero = refl
word_from-zeros i (suc n) = word_from-zeros (suc i) n

-- a power has as many letters as its exponent says
pub count_of-replicate : (v e : ℕ) → count_of v (replicate e v) ≡ e
count_of-replicate v zero = refl
count_of-replicate v (suc e) = count_of-same v (replicate e v) ∙ ap suc (count_of-replicate v e)

-- a letter below all of a sorted word is not in it
count_of-word_from : (v i : ℕ) (m : Monomial) → v < i → count_of v (word_from i m) ≡ 0
count_of-word_from v i [] h = refl
count_of-word_from v i (e ∷ m) h =
    count_of-append v (replicate e i) (word_from (suc i) m) ∙ omega (arith, none_there e, count_of-word_from v (suc i) m (omega arith))
  where
    none_there : (e : ℕ) → count_of v (replicate e i) ≡ 0
    none_there zero = refl
    none_there (suc e) = count_of-other v i (replicate e i) (omega arith) ∙ none_there e

-- a letter below all variables that are counted changes no count
pub counts_from-lower : (i n j : ℕ) (w : Word) → j < i → counts_from i n (j ∷ w) ≡ counts_from i n w
counts_from-lower i zero j w h = refl
counts_from-lower i (suc n) j w h = λ k. count_of-other i j w (omega arith) k ∷ counts_from-lower (suc i) n j w (omega arith) k

pub counts_from-lowers : (i n e j : ℕ) (w : Word) → j < i → counts_from i n (replicate e j ++ w) ≡ counts_from i n w
counts_from-lowers i n zero j w h = refl
counts_from-lowers i n (suc e) j w h = counts_from-lower i n j (replicate e j ++ w) h ∙ counts_from-lowers i n e j w h

-- the sorted word of a monomial has that monomial
pub counts_from-word_from : (i n : ℕ) (m : Monomial) → length m ≡ n → counts_from i n (word_from i m) ≡ m
counts_from-word_from i zero [] e = refl
counts_from-word_from i zero (x ∷ m) e = absurd (omega arith)
counts_from-word_from i (suc n) [] e = absurd (omega arith)
counts_from-word_from i (suc n) (x ∷ m) e =
    let first : count_of i (replicate x i ++ word_from (suc i) m) ≡ x =
    count_of-append i (replicate x i) (word_from (suc i) m) ∙ omega (arith, count_of-replicate i x, count_of-word_from i (suc i) m (omega arith)) in
    let rest : counts_from (suc i) n (replicate x i ++ word_from (suc i) m) ≡ m =
    counts_from-lowers (suc i) n x i (word_from (suc i) m) (omega arith) ∙ counts_from-word_from (suc i) n m (omega arith) in
    λ k. first k ∷ rest k

pub monomial_of-sorted_word : (n : ℕ) (m : Monomial) → length m ≡ n → monomial_of n (sorted_word m) ≡ m
monomial_of-sorted_word n m e = counts_from-word_from 1 n m e

-- the degree is the sum of the first exponent and of the degree of the rest
pub degree-cons : (e : ℕ) (m : Monomial) → degree (e ∷ m) ≡ e + degree m
degree-cons e m = sum_by-cons (λ x. x) e m

pub length-word_from : (i : ℕ) (m : Monomial) → length (word_from i m) ≡ degree m
length-word_from i [] = refl
length-word_from i (x ∷ m) =
    length-append (replicate x i) (word_from (suc i) m) ∙ omega (arith, length-replicate x i, length-word_from (suc i) m, degree-cons x m)

pub IsWord-sorted_word : (n : ℕ) (m : Monomial) → length m ≡ n → IsWord n (sorted_word m)
IsWord-sorted_word n m e = go 1 m (omega arith) (omega arith)
  where
    all_one : (e i : ℕ) → 1 ≤ i → i ≤ n → IsWord n (replicate e i)
    all_one zero i h k = tt
    all_one (suc e) i h k = ((h, k), all_one e i h k)

    go : (i : ℕ) (m : Monomial) → 1 ≤ i → i + length m ≤ suc n → IsWord n (word_from i m)
    go i [] h k = tt
    go i (x ∷ m) h k = Each-append _ (replicate x i) (word_from (suc i) m) (all_one x i h (omega arith)) (go (suc i) m (omega arith) (omega arith))

-- ---- the degree of a word's monomial

-- one letter more makes the degree one more
degree-letter : (i n x : ℕ) (w : Word) → i ≤ x → x < i + n → degree (counts_from i n (x ∷ w)) ≡ suc (degree (counts_from i n w))
degree-letter i zero x w low high = absurd (omega arith)
degree-letter i (suc n) x w low high = by (nat_eq i x) refl (degree-letter (suc i) n x w)
  where
    parts : (w : Word) → degree (counts_from i (suc n) w) ≡ count_of i w + degree (counts_from (suc i) n w)
    parts w = degree-cons (count_of i w) (counts_from (suc i) n w)

    by : (b : Bool) → nat_eq i x ≡ b → (suc i ≤ x → x < suc i + n → degree (counts_from (suc i) n (x ∷ w)) ≡ suc (degree (counts_from (suc i) n w)))
        → degree (counts_from i (suc n) (x ∷ w)) ≡ suc (degree (counts_from i (suc n) w))
    by true t ih =
        let is : i ≡ x = grind (arith, nat_tests, t) in
        let first : count_of i (x ∷ w) ≡ suc (count_of i w) = ap {B = ℕ} (λ b. cond b 1 0 + count_of i w) t ∙ omega arith in
        let rest : degree (counts_from (suc i) n (x ∷ w)) ≡ degree (counts_from (suc i) n w) = ap degree (counts_from-lower (suc i) n x w (omega arith)) in
        omega (arith, first, rest, parts (x ∷ w), parts w)
    by false t ih =
        let above : suc i ≤ x = grind (arith, nat_tests, t, low) in
        let first : count_of i (x ∷ w) ≡ count_of i w = ap {B = ℕ} (λ b. cond b 1 0 + count_of i w) t ∙ omega arith in
        omega (arith, first, ih above (omega arith), parts (x ∷ w), parts w)

degree-empty : (i n : ℕ) → degree (counts_from i n []) ≡ 0
degree-empty i zero = refl
degree-empty i (suc n) = omega (arith, degree-cons 0 (counts_from (suc i) n []), degree-empty (suc i) n)

-- the degree of a word's monomial is the word's length
pub degree-monomial_of : (n : ℕ) (w : Word) → IsWord n w → degree (monomial_of n w) ≡ length w
degree-monomial_of n [] h = degree-empty 1 n
degree-monomial_of n (x ∷ w) h = degree-letter 1 n x w h.0.0 (omega (arith, h.0.1)) ∙ ap suc (degree-monomial_of n w h.1)

-- ---- variables

-- the sorted word of a variable is its letter
pub sorted_word-variable : (n v : ℕ) → 1 ≤ v → sorted_word (variable n v) ≡ v ∷ []
sorted_word-variable n v h =
    let last : (v - 1) + 1 ≡ v = omega arith in
    go (v - 1) 1 (n - v) ∙ ap (λ x. x ∷ []) last
  where
    nothing : (i e : ℕ) → word_from i (replicate e 0) ≡ []
    nothing i zero = refl
    nothing i (suc e) = nothing (suc i) e

    go : (u i e : ℕ) → word_from i (replicate u 0 ++ (1 ∷ replicate e 0)) ≡ (u + i) ∷ []
    go zero i e = ap (λ w. i ∷ w) (nothing (suc i) e) ∙ ap (λ x. x ∷ []) (omega arith)
    go (suc u) i e = go u (suc i) e ∙ ap (λ x. x ∷ []) (omega arith)
