-- Sums of several polynomials, and their leading terms.
use Rattle.std.proofs.Common.{◌≡◌, ◌≢◌, ℕ, zero, suc, ◌+◌, ◌*◌, ◌%◌, ◌<◌, ◌≤◌, Bool, true, false, cond, List, [], ◌∷◌, ◌++◌, length, map, take, drop, get_or, set, Option, Some, None, ◌⊎◌, inl, inr, refl, sym, ap, ◌∙◌, subst, arith}
use Rattle.std.proofs.Common.{Ordering, Less, Equal, Greater}
use Rattle.std.proofs.Math.Nat.{mod-lt}
use Rattle.std.proofs.lemmas.List.{length-set, get_or-set_other}
use Rattle.std.specs.Cmp.{IsTotalOrder}
use Rattle.monomials.specs.Monomials.{Monomial}
use Rattle.monomials.specs.Orders.{RowOrder, order_cmp}
use Rattle.monomials.specs.Polynomials.{Polynomial, Each, IsAbove, IsPolynomial, cons_nonzero, poly_add}
use Rattle.monomials.proofs.Keys.{Each-append}
use Rattle.monomials.proofs.Modulo.{Same, same_refl, same_add, same_cancel, same_mul_right, same_rest}
use Rattle.monomials.proofs.Weights.{weigh, weigh-cons_nonzero, weigh-poly_add}
use Rattle.monomials.proofs.Canonical.{turn_back, ties_itself, same_poly, IsCanonical-cons_nonzero}
use Rattle.monomials.proofs.Merge.{IsAbove-poly_add}
use Rattle.monomials.proofs.OrderLaws.{order_cmp_total, order_cmp_tied}
use Rattle.monomials.proofs.Operations.{IsPolynomial-poly_add}
use Rattle.gpoly.specs.Terms.{IsTermList}
use Rattle.gpoly.specs.Sums.{poly_sum, AreSorted}
use Rattle.gpoly.proofs.Lists.{Each-get_or}
use Rattle.gpoly.specs.Inside.Leads.{greater_lead, greatest_lead, number_at, numbers_from, without}

-- the weight of all of them
abbrev pub weigh_all : (Monomial → ℕ) → List Polynomial → ℕ
weigh_all φ [] = 0
weigh_all φ (f ∷ fs) = weigh φ f + weigh_all φ fs

-- how many terms they have
abbrev pub terms_in : List Polynomial → ℕ
terms_in [] = 0
terms_in (f ∷ fs) = length f + terms_in fs

-- the numbers of equal options are equal
some_tells : (a b : Monomial) → Some a ≡ Some b → a ≡ b
some_tells a b e = cc

-- what each has, of each in the list with one element replaced
pub Each-set : {X : Type 0} (P : X → Type 0) (xs : List X) (i : ℕ) (x : X) → Each P xs → P x → Each P (set xs i x)
Each-set P [] i x h p = tt
Each-set P (y ∷ xs) zero x h p = (p, h.1)
Each-set P (y ∷ xs) (suc i) x h p = (h.0, Each-set P xs i x h.1 p)

-- the terms from an index on
pub IsTermList-drop : (n : ℕ) (f : Polynomial) → IsTermList f → IsTermList (drop n f)
IsTermList-drop zero f h = h
IsTermList-drop (suc n) [] h = h
IsTermList-drop (suc n) (t ∷ f) h = IsTermList-drop n f (record { nonzero = h.nonzero.1; small = h.small.1; apart = h.apart.1 })

-- one more that is zero
pub sum_more : (cmp : Monomial → Monomial → Ordering) (p : ℕ) (fs : List Polynomial) → poly_sum cmp p (fs ++ [] ∷ []) ≡ poly_sum cmp p fs
sum_more cmp p [] = refl
sum_more cmp p (f ∷ fs) = ap (poly_add cmp p f) (sum_more cmp p fs)

pub AreSorted-more : (p : ℕ) (order : RowOrder) (fs : List Polynomial) → AreSorted p order fs → AreSorted p order (fs ++ [] ∷ [])
AreSorted-more p order fs h = Each-append (IsPolynomial p order) fs ([] ∷ []) h (record { canonical = tt; vars = tt }, tt)

-- each from an index on
pub Each-drop : {X : Type 0} (P : X → Type 0) (n : ℕ) (xs : List X) → Each P xs → Each P (drop n xs)
Each-drop P zero xs h = h
Each-drop P (suc n) [] h = h
Each-drop P (suc n) (x ∷ xs) h = Each-drop P n xs h.1

-- a map that has reached the index k: the element there, and one more step
pub at_next : {X : Type 0} (w : X → X) (xs : List X) (k : ℕ) (d : X) → k < length xs → get_or (map w (take k xs) ++ drop k xs) k d ≡ get_or xs k d
at_next w [] k d l = absurd (omega arith)
at_next w (x ∷ xs) zero d l = refl
at_next w (x ∷ xs) (suc k) d l = at_next w xs k d (omega arith)

pub set_next : {X : Type 0} (w : X → X) (xs : List X) (k : ℕ) (d : X) → k < length xs
    → set (map w (take k xs) ++ drop k xs) k (w (get_or xs k d)) ≡ map w (take (k + 1) xs) ++ drop (k + 1) xs
set_next w [] k d l = absurd (omega arith)
set_next w (x ∷ xs) zero d l = refl
set_next w (x ∷ xs) (suc k) d l =
    let e : suc (k + 1) ≡ suc k + 1 = omega arith in
    ap (λ ys. w x ∷ ys) (set_next w xs k d (omega arith)) ∙ ap (λ n. map w (take n (x ∷ xs)) ++ drop n (x ∷ xs)) e

module _ (p : ℕ) (order : RowOrder) (pos : 0 < p) where
  abbrev cmp : Monomial → Monomial → Ordering
  cmp = order_cmp order.rows

  abbrev total : IsTotalOrder cmp
  total = order_cmp_total order.rows

  abbrev tied : (x y : Monomial) → cmp x y ≡ Equal → x ≡ y
  tied = order_cmp_tied order.rows

  -- the sum of sorted polynomials is sorted
  pub IsPolynomial-poly_sum : (fs : List Polynomial) → AreSorted p order fs → IsPolynomial p order (poly_sum cmp p fs)
  IsPolynomial-poly_sum [] h = record { canonical = tt; vars = tt }
  IsPolynomial-poly_sum (f ∷ fs) h = IsPolynomial-poly_add p order pos f (poly_sum cmp p fs) h.0 (IsPolynomial-poly_sum fs h.1)

  -- its weight
  pub weigh-poly_sum : (φ : Monomial → ℕ) (fs : List Polynomial) → Same p (weigh φ (poly_sum cmp p fs)) (weigh_all φ fs)
  weigh-poly_sum φ [] = refl
  weigh-poly_sum φ (f ∷ fs) =
      weigh-poly_add cmp tied p φ f (poly_sum cmp p fs) ∙ same_add p (weigh φ f) _ _ _ refl (weigh-poly_sum φ fs)

  -- sums that weigh alike are equal
  pub same_sum : (fs gs : List Polynomial) → AreSorted p order fs → AreSorted p order gs
      → ((φ : Monomial → ℕ) → Same p (weigh_all φ fs) (weigh_all φ gs)) → poly_sum cmp p fs ≡ poly_sum cmp p gs
  same_sum fs gs hf hg e =
      same_poly cmp total tied p _ _ (IsPolynomial-poly_sum fs hf).canonical (IsPolynomial-poly_sum gs hg).canonical
      (λ φ. weigh-poly_sum φ fs ∙ e φ ∙ sym (weigh-poly_sum φ gs))

  -- a monomial above each is above the sum
  pub IsAbove-poly_sum : (m : Monomial) (fs : List Polynomial) → AreSorted p order fs → Each (IsAbove cmp m) fs → IsAbove cmp m (poly_sum cmp p fs)
  IsAbove-poly_sum m [] h a = tt
  IsAbove-poly_sum m (f ∷ fs) h a =
      IsAbove-poly_add cmp total tied p pos m f (poly_sum cmp p fs) a.0 (IsAbove-poly_sum m fs h.1 a.1) h.0.canonical (IsPolynomial-poly_sum fs h.1).canonical

  -- ---- the leading terms with the monomial m

  -- m is not below the leading monomial of f
  abbrev pub IsAtLeast : Monomial → Polynomial → Type 0
  IsAtLeast m [] = Unit {0}
  IsAtLeast m (t ∷ f) = (cmp m t.1 ≡ Less) → ⊥

  -- f without its leading term where that has the monomial m
  pub IsPolynomial-without : (m : Monomial) (f : Polynomial) → IsPolynomial p order f → IsPolynomial p order (without cmp m f)
  IsPolynomial-without m [] h = h
  IsPolynomial-without m (t ∷ f) h = by (cmp m t.1)
    where
      by : (o : Ordering) → IsPolynomial p order (cond (elim o as (λ o. Bool) [ Less ↦ false | Equal ↦ true | Greater ↦ false ]) f (t ∷ f))
      by Less = h
      by Equal = record { canonical = h.canonical.3; vars = h.vars.1 }
      by Greater = h

  without-above : (m : Monomial) (f : Polynomial) → IsPolynomial p order f → IsAtLeast m f → IsAbove cmp m (without cmp m f)
  without-above m [] h a = tt
  without-above m (t ∷ f) h a = by (cmp m t.1) refl
    where
      by : (o : Ordering) → cmp m t.1 ≡ o → IsAbove cmp m (cond (elim o as (λ o. Bool) [ Less ↦ false | Equal ↦ true | Greater ↦ false ]) f (t ∷ f))
      by Less e = absurd (a e)
      by Equal e = subst (λ x. IsAbove cmp x f) (sym (tied m t.1 e)) h.canonical.2
      by Greater e = e

  weigh-without : (φ : Monomial → ℕ) (m : Monomial) (f : Polynomial) → weigh φ f ≡ number_at cmp m f * φ m + weigh φ (without cmp m f)
  weigh-without φ m [] = omega arith
  weigh-without φ m (t ∷ f) = by (cmp m t.1) refl
    where
      by : (o : Ordering) → cmp m t.1 ≡ o
          → t.0 * φ t.1 + weigh φ f
          ≡ cond (elim o as (λ o. Bool) [ Less ↦ false | Equal ↦ true | Greater ↦ false ]) t.0 0 * φ m
          + weigh φ (cond (elim o as (λ o. Bool) [ Less ↦ false | Equal ↦ true | Greater ↦ false ]) f (t ∷ f))
      by Less e = omega arith
      by Equal e = ap (λ x. t.0 * φ x + weigh φ f) (sym (tied m t.1 e))
      by Greater e = omega arith

  -- the numbers there, added up as natural numbers
  abbrev numbers_at : Monomial → List Polynomial → ℕ
  numbers_at m [] = 0
  numbers_at m (f ∷ fs) = number_at cmp m f + numbers_at m fs

  numbers-same : (m : Monomial) (n : ℕ) (fs : List Polynomial) → Same p (numbers_from cmp p m n fs) (n + numbers_at m fs)
  numbers-same m n [] = same_refl p _ _ (omega arith)
  numbers-same m n (f ∷ fs) =
      let e : (n + number_at cmp m f) + numbers_at m fs ≡ n + (number_at cmp m f + numbers_at m fs) = omega arith in
      numbers-same m ((n + number_at cmp m f) % p) fs
      ∙ same_add p _ _ _ _ (same_rest p (n + number_at cmp m f)) refl
      ∙ same_refl p _ _ e

  pub numbers-below : (m : Monomial) (n : ℕ) (fs : List Polynomial) → n < p → numbers_from cmp p m n fs < p
  numbers-below m n [] l = l
  numbers-below m n (f ∷ fs) l = numbers-below m ((n + number_at cmp m f) % p) fs (mod-lt (n + number_at cmp m f) pos)

  weigh_all-without : (φ : Monomial → ℕ) (m : Monomial) (fs : List Polynomial)
      → weigh_all φ fs ≡ numbers_at m fs * φ m + weigh_all φ (map (without cmp m) fs)
  weigh_all-without φ m [] = omega arith
  weigh_all-without φ m (f ∷ fs) = omega (arith, weigh-without φ m f, weigh_all-without φ m fs)

  pub AreSorted-without : (m : Monomial) (fs : List Polynomial) → AreSorted p order fs → AreSorted p order (map (without cmp m) fs)
  AreSorted-without m [] h = tt
  AreSorted-without m (f ∷ fs) h = (IsPolynomial-without m f h.0, AreSorted-without m fs h.1)

  pub all-above : (m : Monomial) (fs : List Polynomial) → AreSorted p order fs → Each (IsAtLeast m) fs → Each (IsAbove cmp m) (map (without cmp m) fs)
  all-above m [] h a = tt
  all-above m (f ∷ fs) h a = (without-above m f h.0 a.0, all-above m fs h.1 a.1)

  -- the sum begins with the term at m, which the leading terms there add up to, unless that is zero
  pub sum_at : (m : Monomial) (fs : List Polynomial) → AreSorted p order fs → Each (IsAtLeast m) fs
      → poly_sum cmp p fs ≡ cons_nonzero (numbers_from cmp p m 0 fs) m (poly_sum cmp p (map (without cmp m) fs))
  sum_at m fs h a =
      let rest : Polynomial = poly_sum cmp p (map (without cmp m) fs) in
      let rest_is : IsPolynomial p order rest = IsPolynomial-poly_sum (map (without cmp m) fs) (AreSorted-without m fs h) in
      let c : ℕ = numbers_from cmp p m 0 fs in
      same_poly cmp total tied p _ _ (IsPolynomial-poly_sum fs h).canonical
      (IsCanonical-cons_nonzero cmp total tied p c m rest (numbers-below m 0 fs pos) rest_is.canonical
      (IsAbove-poly_sum m (map (without cmp m) fs) (AreSorted-without m fs h) (all-above m fs h a)))
      (λ φ.
      weigh-poly_sum φ fs
      ∙ same_refl p _ _ (weigh_all-without φ m fs)
      ∙ sym (same_refl p _ _ (weigh-cons_nonzero φ c m rest)
      ∙ same_add p _ _ _ _ (same_mul_right p (φ m) _ _ (numbers-same m 0 fs ∙ same_refl p (0 + numbers_at m fs) (numbers_at m fs) (omega arith))) (weigh-poly_sum φ (map (without cmp m) fs))))

  -- ---- the greatest leading monomial

  -- m is not below the monomial, if there is one
  abbrev NotBelow : Monomial → Option Monomial → Type 0
  NotBelow m None = Unit {0}
  NotBelow m (Some b) = (cmp m b ≡ Less) → ⊥

  not_below_itself : (m : Monomial) → (cmp m m ≡ Less) → ⊥
  not_below_itself m e = let no : Less ≡ Equal = sym e ∙ ties_itself cmp total tied p m in cc

  -- what is not below the greater of two is below neither
  not_below_both : (m : Monomial) (best : Option Monomial) (f : Polynomial) → NotBelow m (greater_lead cmp best f) → NotBelow m best × IsAtLeast m f
  not_below_both m None [] n = (tt, tt)
  not_below_both m None (t ∷ f) n = (tt, n)
  not_below_both m (Some b) [] n = (n, tt)
  not_below_both m (Some b) (t ∷ f) n = by (cmp b t.1) refl n
    where
      by : (o : Ordering) → cmp b t.1 ≡ o → NotBelow m (elim o as (λ o. Option Monomial) [ Less ↦ Some t.1 | Equal ↦ Some b | Greater ↦ Some b ])
          → ((cmp m b ≡ Less) → ⊥) × ((cmp m t.1 ≡ Less) → ⊥)
      by Less e n = ((λ less. n (total.trans m b t.1 less e)), n)
      by Equal e n = (n, (λ less. n (ap (cmp m) (tied b t.1 e) ∙ less)))
      by Greater e n = (n, (λ less. n (total.trans m t.1 b less (turn_back cmp total tied p b t.1 e))))

  not_below_each : (m : Monomial) (best : Option Monomial) (fs : List Polynomial) → greatest_lead cmp best fs ≡ Some m
      → NotBelow m best × Each (IsAtLeast m) fs
  not_below_each m best [] e = (subst (NotBelow m) (sym e) (not_below_itself m), tt)
  not_below_each m best (f ∷ fs) e =
      let later = not_below_each m (greater_lead cmp best f) fs e in
      let here = not_below_both m best f later.0 in
      (here.0, (here.1, later.1))

  -- the greatest leading monomial is below none of them
  pub greatest-at_least : (m : Monomial) (fs : List Polynomial) → greatest_lead cmp None fs ≡ Some m → Each (IsAtLeast m) fs
  greatest-at_least m fs e = (not_below_each m None fs e).1

  greatest-some : (b : Monomial) (fs : List Polynomial) → greatest_lead cmp (Some b) fs ≡ None → ⊥
  greatest-some b [] e = cc
  greatest-some b ([] ∷ fs) e = greatest-some b fs e
  greatest-some b ((t ∷ f) ∷ fs) e = by (cmp b t.1) e (greatest-some t.1 fs) (greatest-some b fs)
    where
      by : (o : Ordering) → greatest_lead cmp (elim o as (λ o. Option Monomial) [ Less ↦ Some t.1 | Equal ↦ Some b | Greater ↦ Some b ]) fs ≡ None
          → (greatest_lead cmp (Some t.1) fs ≡ None → ⊥) → (greatest_lead cmp (Some b) fs ≡ None → ⊥) → ⊥
      by Less e there here = there e
      by Equal e there here = here e
      by Greater e there here = here e

  -- where there is none, the sum is zero
  pub greatest-none : (fs : List Polynomial) → greatest_lead cmp None fs ≡ None → poly_sum cmp p fs ≡ []
  greatest-none [] e = refl
  greatest-none ([] ∷ fs) e = greatest-none fs e
  greatest-none ((t ∷ f) ∷ fs) e = absurd (greatest-some t.1 fs e)

  -- ---- fewer terms

  fewer_or_same : (m : Monomial) (f : Polynomial) → length (without cmp m f) ≤ length f
  fewer_or_same m [] = omega arith
  fewer_or_same m (t ∷ f) = by (cmp m t.1)
    where
      by : (o : Ordering) → length (cond (elim o as (λ o. Bool) [ Less ↦ false | Equal ↦ true | Greater ↦ false ]) f (t ∷ f)) ≤ suc (length f)
      by Less = omega arith
      by Equal = omega arith
      by Greater = omega arith

  fewer_or_same_all : (m : Monomial) (fs : List Polynomial) → terms_in (map (without cmp m) fs) ≤ terms_in fs
  fewer_or_same_all m [] = omega arith
  fewer_or_same_all m (f ∷ fs) = omega (arith, fewer_or_same m f, fewer_or_same_all m fs)

  -- the first term goes
  fewer_here : (m : Monomial) (t : ℕ × Monomial) (f : Polynomial) → t.1 ≡ m → length (without cmp m (t ∷ f)) < length (t ∷ f)
  fewer_here m t f e =
      let tie : cmp m t.1 ≡ Equal = ap (cmp m) e ∙ ties_itself cmp total tied p m in
      let gone : length (without cmp m (t ∷ f)) ≡ length f =
      ap (λ o. length (cond (elim o as (λ o. Bool) [ Less ↦ false | Equal ↦ true | Greater ↦ false ]) f (t ∷ f))) tie in
      omega (arith, gone)

  -- the greater of two is the first, or the second loses its leading term
  fewer_or_first : (m : Monomial) (best : Option Monomial) (f : Polynomial) → greater_lead cmp best f ≡ Some m
      → (best ≡ Some m) ⊎ (length (without cmp m f) < length f)
  fewer_or_first m None [] e = inl e
  fewer_or_first m None (t ∷ f) e = inr (fewer_here m t f (some_tells t.1 m e))
  fewer_or_first m (Some b) [] e = inl e
  fewer_or_first m (Some b) (t ∷ f) e = by (cmp b t.1) e
    where
      by : (o : Ordering) → elim o as (λ o. Option Monomial) [ Less ↦ Some t.1 | Equal ↦ Some b | Greater ↦ Some b ] ≡ Some m
          → (Some b ≡ Some m) ⊎ (length (without cmp m (t ∷ f)) < length (t ∷ f))
      by Less e = inr (fewer_here m t f (some_tells t.1 m e))
      by Equal e = inl e
      by Greater e = inl e

  fewer_or_best : (m : Monomial) (best : Option Monomial) (fs : List Polynomial) → greatest_lead cmp best fs ≡ Some m
      → (best ≡ Some m) ⊎ (terms_in (map (without cmp m) fs) < terms_in fs)
  fewer_or_best m best [] e = inl e
  fewer_or_best m best (f ∷ fs) e = by (fewer_or_best m (greater_lead cmp best f) fs e)
    where
      by : (greater_lead cmp best f ≡ Some m) ⊎ (terms_in (map (without cmp m) fs) < terms_in fs)
          → (best ≡ Some m) ⊎ (terms_in (map (without cmp m) (f ∷ fs)) < terms_in (f ∷ fs))
      by (inr less) = inr (omega (arith, fewer_or_same m f))
      by (inl same) = here (fewer_or_first m best f same)
        where
          here : (best ≡ Some m) ⊎ (length (without cmp m f) < length f) → (best ≡ Some m) ⊎ (terms_in (map (without cmp m) (f ∷ fs)) < terms_in (f ∷ fs))
          here (inl e) = inl e
          here (inr less) = inr (omega (arith, fewer_or_same_all m fs))

  -- the buckets that lead with the greatest monomial lose a term
  pub fewer_terms : (m : Monomial) (fs : List Polynomial) → greatest_lead cmp None fs ≡ Some m → terms_in (map (without cmp m) fs) < terms_in fs
  fewer_terms m fs e = by (fewer_or_best m None fs e)
    where
      by : (None ≡ Some m) ⊎ (terms_in (map (without cmp m) fs) < terms_in fs) → terms_in (map (without cmp m) fs) < terms_in fs
      by (inl e) = cc
      by (inr less) = less

  -- ---- what is added

  -- where an element is replaced
  weigh_all-set : (φ : Monomial → ℕ) (fs : List Polynomial) (k : ℕ) (g d : Polynomial) → k < length fs
      → weigh_all φ (set fs k g) + weigh φ (get_or fs k d) ≡ weigh_all φ fs + weigh φ g
  weigh_all-set φ [] k g d l = absurd (omega arith)
  weigh_all-set φ (f ∷ fs) zero g d l = omega arith
  weigh_all-set φ (f ∷ fs) (suc k) g d l = omega (arith, weigh_all-set φ fs k g d (omega arith))

  -- f is added to the element k
  pub sum_added : (fs : List Polynomial) (k : ℕ) (f d : Polynomial) → AreSorted p order fs → IsPolynomial p order f → k < length fs
      → (AreSorted p order (set fs k (poly_add cmp p (get_or fs k d) f)))
      × (poly_sum cmp p (set fs k (poly_add cmp p (get_or fs k d) f)) ≡ poly_add cmp p (poly_sum cmp p fs) f)
  sum_added fs k f d h f_is l =
      let old : Polynomial = get_or fs k d in
      let old_is : IsPolynomial p order old = Each-get_or (IsPolynomial p order) fs k d l h in
      let new : Polynomial = poly_add cmp p old f in
      let sorted : AreSorted p order (set fs k new) = Each-set (IsPolynomial p order) fs k new h (IsPolynomial-poly_add p order pos old f old_is f_is) in
      let both : IsPolynomial p order (poly_add cmp p (poly_sum cmp p fs) f) = IsPolynomial-poly_add p order pos (poly_sum cmp p fs) f (IsPolynomial-poly_sum fs h) f_is in (
        sorted,
        same_poly cmp total tied p _ _ (IsPolynomial-poly_sum (set fs k new) sorted).canonical both.canonical
            (λ φ.
            let a : ℕ = weigh_all φ (set fs k new) in
            let exact : weigh φ old + a ≡ weigh_all φ fs + weigh φ new = omega (arith, weigh_all-set φ fs k new d l) in
            let e : weigh_all φ fs + (weigh φ old + weigh φ f) ≡ weigh φ old + (weigh_all φ fs + weigh φ f) = omega arith in
            weigh-poly_sum φ (set fs k new)
            ∙ same_cancel p (weigh φ old) _ _ pos
            (same_refl p _ _ exact ∙ same_add p (weigh_all φ fs) _ _ _ refl (weigh-poly_add cmp tied p φ old f) ∙ same_refl p _ _ e)
            ∙ sym (weigh-poly_add cmp tied p φ (poly_sum cmp p fs) f ∙ same_add p _ _ (weigh φ f) _ (weigh-poly_sum φ fs) refl)),
      )

  -- the element k is added to the element j, and is zero then
  pub sum_raised : (fs : List Polynomial) (k j : ℕ) (d e : Polynomial) → AreSorted p order fs → k < length fs → j < length fs → k ≢ j
      → (AreSorted p order (set (set fs j (poly_add cmp p (get_or fs k d) (get_or fs j e))) k []))
      × (poly_sum cmp p (set (set fs j (poly_add cmp p (get_or fs k d) (get_or fs j e))) k []) ≡ poly_sum cmp p fs)
  sum_raised fs k j d e h l l' differ =
      let low : Polynomial = get_or fs k d in
      let high : Polynomial = get_or fs j e in
      let new : Polynomial = poly_add cmp p low high in
      let new_is : IsPolynomial p order new =
      IsPolynomial-poly_add p order pos low high (Each-get_or (IsPolynomial p order) fs k d l h) (Each-get_or (IsPolynomial p order) fs j e l' h) in
      let half : AreSorted p order (set fs j new) = Each-set (IsPolynomial p order) fs j new h new_is in
      let sorted : AreSorted p order (set (set fs j new) k []) = Each-set (IsPolynomial p order) (set fs j new) k [] half (record { canonical = tt; vars = tt }) in
      let still : get_or (set fs j new) k d ≡ low = get_or-set_other fs j k new d differ in
      let inside : k < length (set fs j new) = omega (arith, length-set fs j new) in (
        sorted,
        same_sum (set (set fs j new) k []) fs sorted h
            (λ φ.
            let a : ℕ = weigh_all φ (set (set fs j new) k []) in
            let w : weigh φ (get_or (set fs j new) k d) ≡ weigh φ low = ap (weigh φ) still in
            let exact : (weigh φ low + weigh φ high) + a ≡ weigh_all φ fs + weigh φ new =
            omega (arith, w, weigh_all-set φ (set fs j new) k [] d inside, weigh_all-set φ fs j new e l') in
            let back : weigh_all φ fs + (weigh φ low + weigh φ high) ≡ (weigh φ low + weigh φ high) + weigh_all φ fs = omega arith in
            same_cancel p (weigh φ low + weigh φ high) _ _ pos
            (same_refl p _ _ exact ∙ same_add p (weigh_all φ fs) _ _ _ refl (weigh-poly_add cmp tied p φ low high) ∙ same_refl p _ _ back)),
      )
