-- Monomials in n variables with exponents up to l: how many of them are below a given one.
use Rattle.std.proofs.Common.{◌≡◌, ℕ, zero, suc, ◌+◌, ◌*◌, ◌^◌, ◌<◌, ◌≤◌, ◌⊎◌, inl, inr, Bool, true, false, cond, List, [], ◌∷◌, ◌++◌, length, refl, sym, ap, ◌∙◌, subst, arith, length-append, pow-suc, ℤ}
use Rattle.std.proofs.Common.{Ordering, Less, Equal, Greater, is_lt}
use Rattle.std.proofs.Math.Nat.{pow-zero}
use Rattle.monomials.specs.Monomials.{Monomial}
use Rattle.monomials.specs.Orders.{order_cmp}
use Rattle.monomials.specs.Polynomials.{Each}
use Rattle.monomials.proofs.OrderLaws.{order_cmp_total, order_cmp_tied}
use Rattle.monomials.proofs.Canonical.{ties_itself}

-- each monomial with e in front
abbrev pub with_first : ℕ → List Monomial → List Monomial
with_first e [] = []
with_first e (m ∷ ms) = (e ∷ m) ∷ with_first e ms

-- each monomial with each number up to e in front
abbrev pub with_firsts : ℕ → List Monomial → List Monomial
with_firsts zero ms = with_first 0 ms
with_firsts (suc e) ms = with_first (suc e) ms ++ with_firsts e ms

-- the monomials in n variables with exponents up to l
abbrev pub monomials_up_to : ℕ → ℕ → List Monomial
monomials_up_to zero l = [] ∷ []
monomials_up_to (suc n) l = with_firsts l (monomials_up_to n l)

-- m is one of the list
abbrev pub IsIn : Monomial → List Monomial → Type 0
IsIn m [] = ⊥
IsIn m (x ∷ xs) = (m ≡ x) ⊎ IsIn m xs

IsIn-first : (m : Monomial) (xs ys : List Monomial) → IsIn m xs → IsIn m (xs ++ ys)
IsIn-first m [] ys h = absurd h
IsIn-first m (x ∷ xs) ys (inl e) = inl e
IsIn-first m (x ∷ xs) ys (inr h) = inr (IsIn-first m xs ys h)

IsIn-second : (m : Monomial) (xs ys : List Monomial) → IsIn m ys → IsIn m (xs ++ ys)
IsIn-second m [] ys h = h
IsIn-second m (x ∷ xs) ys h = inr (IsIn-second m xs ys h)

IsIn-with_first : (e : ℕ) (m : Monomial) (ms : List Monomial) → IsIn m ms → IsIn (e ∷ m) (with_first e ms)
IsIn-with_first e m [] h = absurd h
IsIn-with_first e m (x ∷ ms) (inl h) = inl (ap (λ v. e ∷ v) h)
IsIn-with_first e m (x ∷ ms) (inr h) = inr (IsIn-with_first e m ms h)

last_or_less : (e l : ℕ) → e ≤ suc l → (e ≡ suc l) ⊎ (e ≤ l)
last_or_less e l h = grind arith

IsIn-with_firsts : (l e : ℕ) (m : Monomial) (ms : List Monomial) → e ≤ l → IsIn m ms → IsIn (e ∷ m) (with_firsts l ms)
IsIn-with_firsts zero e m ms h k =
    let z : e ≡ 0 = omega arith in
    subst (λ e. IsIn (e ∷ m) (with_first 0 ms)) (sym z) (IsIn-with_first 0 m ms k)
IsIn-with_firsts (suc l) e m ms h k = by (last_or_less e l h) (IsIn-with_firsts l e m ms)
  where
    by : (e ≡ suc l) ⊎ (e ≤ l) → (e ≤ l → IsIn m ms → IsIn (e ∷ m) (with_firsts l ms)) → IsIn (e ∷ m) (with_first (suc l) ms ++ with_firsts l ms)
    by (inl z) ih =
        IsIn-first (e ∷ m) (with_first (suc l) ms) (with_firsts l ms) (subst (λ e. IsIn (e ∷ m) (with_first (suc l) ms)) (sym z) (IsIn-with_first (suc l) m ms k))
    by (inr z) ih = IsIn-second (e ∷ m) (with_first (suc l) ms) (with_firsts l ms) (ih z k)

-- the list has each of them
pub IsIn-monomials_up_to : (n l : ℕ) (m : Monomial) → length m ≡ n → Each (λ e. e ≤ l) m → IsIn m (monomials_up_to n l)
IsIn-monomials_up_to zero l [] e h = inl refl
IsIn-monomials_up_to zero l (x ∷ m) e h = absurd (omega arith)
IsIn-monomials_up_to (suc n) l [] e h = absurd (omega arith)
IsIn-monomials_up_to (suc n) l (x ∷ m) e h = IsIn-with_firsts l x m (monomials_up_to n l) h.0 (IsIn-monomials_up_to n l m (omega arith) h.1)

length-with_first : (e : ℕ) (ms : List Monomial) → length (with_first e ms) ≡ length ms
length-with_first e [] = refl
length-with_first e (m ∷ ms) = ap suc (length-with_first e ms)

length-with_firsts : (l : ℕ) (ms : List Monomial) → length (with_firsts l ms) ≡ suc l * length ms
length-with_firsts zero ms = length-with_first 0 ms ∙ omega arith
length-with_firsts (suc l) ms =
    length-append (with_first (suc l) ms) (with_firsts l ms) ∙ omega (arith, length-with_first (suc l) ms, length-with_firsts l ms)

pub length-monomials_up_to : (n l : ℕ) → length (monomials_up_to n l) ≡ (l + 1) ^ n
length-monomials_up_to zero l = sym (pow-zero (l + 1))
length-monomials_up_to (suc n) l =
    let e : suc l * length (monomials_up_to n l) ≡ length (monomials_up_to n l) * (l + 1) = omega arith in
    length-with_firsts l (monomials_up_to n l) ∙ e ∙ ap (λ k. k * (l + 1)) (length-monomials_up_to n l) ∙ sym (pow-suc (l + 1) n)

-- ---- how many pass a test

-- how many of a list pass a test
abbrev pub how_many : (Monomial → Bool) → List Monomial → ℕ
how_many test [] = 0
how_many test (m ∷ ms) = cond (test m) 1 0 + how_many test ms

pub how_many_at_most : (test : Monomial → Bool) (ms : List Monomial) → how_many test ms ≤ length ms
how_many_at_most test [] = omega arith
how_many_at_most test (m ∷ ms) =
    elim (test m) as (λ b. cond b 1 0 + how_many test ms ≤ suc (length ms)) [ true ↦ omega (arith, how_many_at_most test ms) | false ↦ omega (arith, how_many_at_most test ms) ]

one_at_most : (a b : Bool) → (a ≡ true → b ≡ true) → cond a 1 0 ≤ cond b 1 0
one_at_most true true f = omega arith
one_at_most false true f = omega arith
one_at_most false false f = omega arith
one_at_most true false f = absurd (let e : false ≡ true = f refl in cc)

how_many_more : (a b : Monomial → Bool) → ((x : Monomial) → a x ≡ true → b x ≡ true) → (ms : List Monomial) → how_many a ms ≤ how_many b ms
how_many_more a b f [] = omega arith
how_many_more a b f (m ∷ ms) = omega (arith, one_at_most (a m) (b m) (f m), how_many_more a b f ms)

-- one that passes the weaker test alone makes a difference
how_many_above : (a b : Monomial → Bool) → ((x : Monomial) → a x ≡ true → b x ≡ true) → (y : Monomial) → a y ≡ false → b y ≡ true
    → (ms : List Monomial) → IsIn y ms → how_many a ms < how_many b ms
how_many_above a b f y ay by [] h = absurd h
how_many_above a b f y ay by (m ∷ ms) (inl e) =
    let no : ◌≡◌ {A = ℕ} (cond (a m) 1 0) 0 = ap (λ x. cond (a x) 1 0) (sym e) ∙ ap (λ v. cond v 1 0) ay in
    let one : ◌≡◌ {A = ℕ} (cond (b m) 1 0) 1 = ap (λ x. cond (b x) 1 0) (sym e) ∙ ap (λ v. cond v 1 0) by in
    omega (arith, how_many_more a b f ms)
how_many_above a b f y ay by (m ∷ ms) (inr h) = omega (arith, one_at_most (a m) (b m) (f m), how_many_above a b f y ay by ms h)

-- ---- ranks

-- how many monomials in n variables with exponents up to l are below m
abbrev pub rank : List (List ℤ) → ℕ → ℕ → Monomial → ℕ
rank rows n l m = how_many (λ x. is_lt (order_cmp rows x m)) (monomials_up_to n l)

-- the test for Less tells it
pub less_is : (o : Ordering) → is_lt o ≡ true → o ≡ Less
less_is Less e = refl
less_is Equal e = cc
less_is Greater e = cc

-- a smaller monomial has a smaller rank
pub rank_falls : (rows : List (List ℤ)) (n l : ℕ) (x y : Monomial) → order_cmp rows x y ≡ Less → IsIn x (monomials_up_to n l) → rank rows n l x < rank rows n l y
rank_falls rows n l x y e h =
    how_many_above (λ z. is_lt (order_cmp rows z x)) (λ z. is_lt (order_cmp rows z y))
    (λ z k. ap is_lt ((order_cmp_total rows).trans z x y (less_is (order_cmp rows z x) k) e))
    x (ap is_lt (ties_itself (order_cmp rows) (order_cmp_total rows) (order_cmp_tied rows) 0 x)) (ap is_lt e) (monomials_up_to n l) h

pub rank_at_most : (rows : List (List ℤ)) (n l : ℕ) (x : Monomial) → rank rows n l x ≤ (l + 1) ^ n
rank_at_most rows n l x = subst (λ k. rank rows n l x ≤ k) (length-monomials_up_to n l) (how_many_at_most (λ z. is_lt (order_cmp rows z x)) (monomials_up_to n l))
