-- Terms in rising order, and their sums.
use Rattle.std.proofs.Common.{◌≡◌, ◌≢◌, ℕ, suc, ◌+◌, ◌%◌, ◌<◌, ◌≤◌, if◌then◌else◌, Bool, true, false, List, [], ◌∷◌, ◌++◌, length, reverse, get_or, take, drop, refl, sym, ap, ◌∙◌, subst, arith, ℤ, mod-eq_of_lt, eq-eqb}
use Rattle.std.proofs.Common.{Ordering, Less, Equal, Greater, nat_cmp, is_lt}
use Rattle.std.proofs.lemmas.Bool.{ne_eqb}
use Rattle.std.specs.Ordering.{ordering_then}
use Rattle.std.specs.Cmp.{IsTotalOrder, IsStrictWeakOrder, then_total, on_total, nat_cmp_total, nat_cmp_is}
use Rattle.std.specs.List.Sorted.{IsPermutation, IsSortedBy}
use Rattle.std.proofs.lemmas.List.{map-append, reverse-append, length-map, get_or-map, take_more, take-append-drop}
use Rattle.std.proofs.lemmas.List.Sorted.{ranks_by, sorted_far, IsPermutation-trans, IsPermutation-map, IsPermutation-reverse}
use Rattle.monomials.specs.Monomials.{Monomial}
use Rattle.monomials.specs.Orders.{RowOrder, order_cmp}
use Rattle.monomials.specs.Polynomials.{Polynomial, Each, IsAbove, HasNumbers, HasVars, cons_nonzero, insert_term, from_terms}
use Rattle.monomials.proofs.Canonical.{ties_itself, from_terms-IsPermutation}
use Rattle.monomials.proofs.Merge.{insert_term-above, insert_term-equal}
use Rattle.monomials.proofs.Keys.{Each-append, Each-first, Each-second, EachKey-from_terms}
use Rattle.monomials.proofs.OrderLaws.{order_cmp_total, order_cmp_tied}
use Rattle.gpoly.specs.declared.Term.{Term}
use Rattle.gpoly.specs.Terms.{pair_of, pairs_of}
use Rattle.gpoly.specs.Inside.Sorting.{own, rank_cmp, IsNotBelow, IsFalling}
use Rattle.gpoly.proofs.Lists.{Each-reverse, Each-reversed, Each-from_get_or, map-reverse, reverse-cons}
use Rattle.gpoly.proofs.TermLists.{reverse-cons_nonzero, vars_at}

-- a monomial of the order's number of variables counts as itself
own-same : (n : ℕ) (m : Monomial) → length m ≡ n → own n m ≡ m
own-same n m e = ap (λ b. if b then m else []) (eq-eqb (length m) n e)

own-other : (n : ℕ) (m : Monomial) → length m ≢ n → own n m ≡ []
own-other n m e = ap (λ b. if b then m else []) (ne_eqb (length m) n e)

equal_lengths : (a b : Monomial) → Equal ≡ nat_cmp (length a) (length b) → length a ≡ length b
equal_lengths a b e = grind (arith, nat_cmp_is, e)

-- monomials of the order's number of variables rank as the order says
pub rank_cmp-own : (order : RowOrder) (a b : Monomial) → Equal ≡ nat_cmp (length a) (length b) → length a ≡ order.vars
    → rank_cmp order a b ≡ order_cmp order.rows a b
rank_cmp-own order a b e h =
    let hb : length b ≡ order.vars = sym (equal_lengths a b e) ∙ h in
    (λ i. ordering_then (sym e i) (order_cmp order.rows (own order.vars a) (own order.vars b)))
    ∙ (λ i. order_cmp order.rows (own-same order.vars a h i) (own-same order.vars b hb i))

-- others rank by their lengths
pub rank_cmp-other : (order : RowOrder) (a b : Monomial) (o : Ordering) → o ≡ nat_cmp (length a) (length b) → (o ≡ Equal → length a ≢ order.vars)
    → rank_cmp order a b ≡ o
rank_cmp-other order a b Less e h = λ i. ordering_then (sym e i) (order_cmp order.rows (own order.vars a) (own order.vars b))
rank_cmp-other order a b Greater e h = λ i. ordering_then (sym e i) (order_cmp order.rows (own order.vars a) (own order.vars b))
rank_cmp-other order a b Equal e h =
    let hb : length b ≢ order.vars = λ same. h refl (equal_lengths a b e ∙ same) in
    (λ i. ordering_then (sym e i) (order_cmp order.rows (own order.vars a) (own order.vars b)))
    ∙ (λ i. order_cmp order.rows (own-other order.vars a (h refl) i) (own-other order.vars b hb i))
    ∙ ties_itself (order_cmp order.rows) (order_cmp_total order.rows) (order_cmp_tied order.rows) 0 []

module _ (rows : List (List ℤ)) (p : ℕ) where
  -- a key that is not below the first, and another, is above it
  pub above_first : (k : Monomial) (t : ℕ × Monomial) → order_cmp rows k t.1 ≢ Less → t.1 ≢ k → order_cmp rows k t.1 ≡ Greater
  above_first k t not_less other = by (order_cmp rows k t.1) not_less (λ e. other (sym (order_cmp_tied rows k t.1 e)))
    where
      by : (o : Ordering) → o ≢ Less → o ≢ Equal → o ≡ Greater
      by Less a b = absurd (a refl)
      by Equal a b = absurd (b refl)
      by Greater a b = refl

  -- the sum where the last term has the new one's monomial
  pub sum_equal : (old init : List Term) (last t : Term) (c : ℕ) → old ≡ init ++ last ∷ [] → last.mono ≡ t.mono → c ≡ (last.coef + t.coef) % p
      → reverse (pairs_of init ++ cons_nonzero c t.mono []) ≡ insert_term (order_cmp rows) p t.coef t.mono (reverse (pairs_of old))
  sum_equal old init last t c split same e =
      let total : c ≡ (t.coef + last.coef) % p = e ∙ ap (λ x. x % p) (omega arith) in
      let old_is : reverse (pairs_of old) ≡ pair_of last ∷ reverse (pairs_of init) =
      ap (λ x. reverse (pairs_of x)) split ∙ ap reverse (map-append pair_of init (last ∷ [])) ∙ reverse-append (pairs_of init) (pair_of last ∷ []) in
      let tie : order_cmp rows t.mono last.mono ≡ Equal =
      ap (order_cmp rows t.mono) same ∙ ties_itself (order_cmp rows) (order_cmp_total rows) (order_cmp_tied rows) p t.mono in
      reverse-cons_nonzero (pairs_of init) c t.mono
      ∙ ap (λ x. cons_nonzero x t.mono (reverse (pairs_of init))) total
      ∙ sym (insert_term-equal (order_cmp rows) p t.coef t.mono (pair_of last) (reverse (pairs_of init)) tie)
      ∙ ap (insert_term (order_cmp rows) p t.coef t.mono) (sym old_is)

  -- the sum where the new term's monomial is above all
  pub sum_above : (old : List Term) (t : Term) → t.coef < p → IsAbove (order_cmp rows) t.mono (reverse (pairs_of old))
      → reverse (pairs_of old ++ cons_nonzero t.coef t.mono []) ≡ insert_term (order_cmp rows) p t.coef t.mono (reverse (pairs_of old))
  sum_above old t less a =
      reverse-cons_nonzero (pairs_of old) t.coef t.mono
      ∙ ap (λ x. cons_nonzero x t.mono (reverse (pairs_of old))) (sym (mod-eq_of_lt less))
      ∙ sym (insert_term-above (order_cmp rows) p t.coef t.mono (reverse (pairs_of old)) a)

  -- so it is where the last term has another monomial
  pub above_last : (old init : List Term) (last t : Term) → old ≡ init ++ last ∷ [] → last.mono ≢ t.mono
      → IsNotBelow (order_cmp rows) t.mono (pairs_of old) → IsAbove (order_cmp rows) t.mono (reverse (pairs_of old))
  above_last old init last t split other below =
      let old_is : pairs_of old ≡ pairs_of init ++ pair_of last ∷ [] = ap pairs_of split ∙ map-append pair_of init (last ∷ []) in
      let reversed : reverse (pairs_of old) ≡ pair_of last ∷ reverse (pairs_of init) =
      ap reverse old_is ∙ reverse-append (pairs_of init) (pair_of last ∷ []) in
      let at_last : IsNotBelow (order_cmp rows) t.mono (pair_of last ∷ []) =
      Each-second (λ u. order_cmp rows t.mono u.1 ≢ Less) (pairs_of init) (pair_of last ∷ []) (subst (IsNotBelow (order_cmp rows) t.mono) old_is below) in
      subst (IsAbove (order_cmp rows) t.mono) (sym reversed) (above_first t.mono (pair_of last) at_last.0 other)

-- the numbers of the terms before the last one, and its own
pub numbers_split : (p : ℕ) (old init : List Term) (last : Term) → old ≡ init ++ last ∷ [] → HasNumbers p (pairs_of old)
    → HasNumbers p (pairs_of init) × (last.coef < p)
numbers_split p old init last split h =
    let parts : HasNumbers p (pairs_of init ++ pair_of last ∷ []) =
    subst (HasNumbers p) (ap pairs_of split ∙ map-append pair_of init (last ∷ [])) h in
    (Each-first (λ t. t.0 < p) (pairs_of init) (pair_of last ∷ []) parts, (Each-second (λ t. t.0 < p) (pairs_of init) (pair_of last ∷ []) parts).0)

-- ---- a list in falling order

-- behind the term t of a falling list no key is above it
pub falling_at : (cmp : Monomial → Monomial → Ordering) (f : Polynomial) (t : ℕ × Monomial) (g : Polynomial) → IsFalling cmp (f ++ t ∷ g)
    → IsNotBelow cmp t.1 g
falling_at cmp [] t g h = h.0
falling_at cmp (u ∷ f) t g h = falling_at cmp f t g h.1

-- a key that is above none comes last
IsFalling-push : (cmp : Monomial → Monomial → Ordering) (f : Polynomial) (t : ℕ × Monomial) → IsFalling cmp f → Each (λ u. cmp u.1 t.1 ≢ Less) f
    → IsFalling cmp (f ++ t ∷ [])
IsFalling-push cmp [] t h last = (tt, tt)
IsFalling-push cmp (u ∷ f) t h last =
    (Each-append (λ v. cmp u.1 v.1 ≢ Less) f (t ∷ []) h.0 (last.0, tt), IsFalling-push cmp f t h.1 last.1)

-- no term is below an earlier one, so the reversed list falls
pub falling_reversed : (cmp : Monomial → Monomial → Ordering) (ts : List Term)
    → ((i j : ℕ) (d : Term) → i ≤ j → j < length ts → cmp (get_or ts j d).mono (get_or ts i d).mono ≢ Less)
    → IsFalling cmp (reverse (pairs_of ts))
falling_reversed cmp [] h = tt
falling_reversed cmp (t ∷ ts) h =
    subst (IsFalling cmp) (sym (reverse-cons (pair_of t) (pairs_of ts)))
    (IsFalling-push cmp (reverse (pairs_of ts)) (pair_of t)
    (falling_reversed cmp ts (λ i j d le l. h (suc i) (suc j) d (omega arith) (omega arith)))
    (Each-reverse (λ u. cmp u.1 t.mono ≢ Less) (pairs_of ts)
    (Each-from_get_or (λ u. cmp u.1 t.mono ≢ Less) (pairs_of ts)
    (λ k d l.
    let within : k < length ts = omega (arith, length-map ts pair_of) in
    subst (λ u. cmp u.1 t.mono ≢ Less) (sym (get_or-map pair_of ts k t d within)) (h 0 (suc k) t (omega arith) (omega arith))))))

-- ---- the sort

-- the extended order is total
pub rank_cmp_total : (order : RowOrder) → IsTotalOrder (rank_cmp order)
rank_cmp_total order = then_total (on_total (λ m. length m) nat_cmp_total) (on_total (own order.vars) (order_cmp_total order.rows))

-- the test that the sort goes by
abbrev pub is_before : RowOrder → Term → Term → Bool
is_before order t u = is_lt (rank_cmp order t.mono u.mono)

-- the test is one that a sort can go by
pub is_before_order : (order : RowOrder) → IsStrictWeakOrder (is_before order)
is_before_order order = ranks_by (rank_cmp_total order) (λ t. t.mono)

-- sorted terms of the order's number of variables, in reverse
pub falling_sorted : (order : RowOrder) (ts : List Term) → IsSortedBy (is_before order) ts → HasVars order.vars (pairs_of ts)
    → IsFalling (order_cmp order.rows) (reverse (pairs_of ts))
falling_sorted order ts up vars =
    falling_reversed (order_cmp order.rows) ts
    (λ i j d le l e.
    let a : Monomial = (get_or ts j d).mono in
    let b : Monomial = (get_or ts i d).mono in
    let va : length a ≡ order.vars = vars_at order.vars ts j d l vars in
    let vb : length b ≡ order.vars = vars_at order.vars ts i d (omega arith) vars in
    let less : rank_cmp order a b ≡ Less = rank_cmp-own order a b (nat_cmp_is (length a) (length b) Equal (va ∙ sym vb)) va ∙ e in
    let is : true ≡ false = sym (ap is_lt less) ∙ sorted_far (is_before order) (is_before_order order) ts up i j d le l in
    cc)

-- ---- the sums of a front of the terms

-- one more term in front of the reversed list
pub front_more : (ts : List Term) (i : ℕ) (t : Term) → i < length ts → t ≡ get_or ts i t
    → reverse (pairs_of (take (i + 1) ts)) ≡ pair_of t ∷ reverse (pairs_of (take i ts))
front_more ts i t l is =
    ap (λ us. reverse (pairs_of us)) (take_more ts i t l)
    ∙ ap reverse (map-append pair_of (take i ts) (get_or ts i t ∷ []))
    ∙ reverse-append (pairs_of (take i ts)) (pair_of (get_or ts i t) ∷ [])
    ∙ ap (λ u. pair_of u ∷ reverse (pairs_of (take i ts))) (sym is)

-- the next term is not below the sums so far
pub not_below_sums : (rows : List (List ℤ)) (p : ℕ) (ts sums : List Term) (i : ℕ) (t : Term) → i < length ts → t ≡ get_or ts i t
    → IsFalling (order_cmp rows) (reverse (pairs_of ts))
    → reverse (pairs_of sums) ≡ from_terms (order_cmp rows) p (reverse (pairs_of (take i ts)))
    → IsNotBelow (order_cmp rows) t.mono (pairs_of sums)
not_below_sums rows p ts sums i t l is falls sum =
    let rest : List Term = drop (i + 1) ts in
    let whole : reverse (pairs_of ts) ≡ reverse (pairs_of rest) ++ pair_of t ∷ reverse (pairs_of (take i ts)) =
    ap (λ us. reverse (pairs_of us)) (sym (take-append-drop (i + 1) ts))
    ∙ ap reverse (map-append pair_of (take (i + 1) ts) rest)
    ∙ reverse-append (pairs_of (take (i + 1) ts)) (pairs_of rest)
    ∙ ap (λ f. reverse (pairs_of rest) ++ f) (front_more ts i t l is) in
    let front : IsNotBelow (order_cmp rows) t.mono (reverse (pairs_of (take i ts))) =
    falling_at (order_cmp rows) (reverse (pairs_of rest)) (pair_of t) (reverse (pairs_of (take i ts))) (subst (IsFalling (order_cmp rows)) whole falls) in
    Each-reversed (λ u. order_cmp rows t.mono u.1 ≢ Less) (pairs_of sums)
    (subst (IsNotBelow (order_cmp rows) t.mono) (sym sum)
    (EachKey-from_terms (order_cmp rows) p (λ m. order_cmp rows t.mono m ≢ Less) (reverse (pairs_of (take i ts))) front))

-- what a sort leaves: the same terms, and in reverse order the same sum
pub sum_of_sorted : (order : RowOrder) (p : ℕ) (terms rising sums : List Term) → 0 < p → IsPermutation terms rising
    → reverse (pairs_of sums) ≡ from_terms (order_cmp order.rows) p (reverse (pairs_of rising))
    → pairs_of (reverse sums) ≡ from_terms (order_cmp order.rows) p (pairs_of terms)
sum_of_sorted order p terms rising sums pos moved sum =
    map-reverse pair_of sums
    ∙ sum
    ∙ from_terms-IsPermutation (order_cmp order.rows) (order_cmp_total order.rows) (order_cmp_tied order.rows) p pos (pairs_of terms) (reverse (pairs_of rising))
    (IsPermutation-trans (pairs_of terms) (pairs_of rising) (reverse (pairs_of rising)) (IsPermutation-map pair_of terms rising moved) (IsPermutation-reverse (pairs_of rising)))
