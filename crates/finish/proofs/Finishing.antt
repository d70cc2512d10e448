-- The finished list: what is kept, what the elements and finals are, and that they are made from the last one on.
use Rattle.std.proofs.Common.{◌≡◌, ◌≢◌, ℕ, zero, suc, ◌+◌, ◌-◌, ◌<◌, ◌≤◌, ◌⊎◌, inl, inr, Bool, true, false, not, is_none, List, [], ◌∷◌, ◌++◌, length, drop, None, Some, slice_index_or, if◌then◌else◌, refl, sym, ap, ◌∙◌, subst, arith, le_of_eq, length-append}
use Rattle.std.proofs.Common.{is_lt}
use Rattle.std.specs.List.{insert}
use lib.ListN.{get_or-append}
use Rattle.std.proofs.lemmas.List.{get_or_push, drop_all}
use Rattle.std.proofs.Math.Seq.{drop-cons}
use Rattle.std.specs.declared.cmp.Ordering.{Ordering}
use Rattle.monomials.specs.Monomials.{Monomial}
use Rattle.monomials.specs.Orders.{RowOrder, order_cmp}
use Rattle.monomials.specs.Leading.{leading_monomial}
use Rattle.monomials.specs.Polynomials.{Polynomial, Each}
use Rattle.word_model.specs.Words.{Algebra}
use Rattle.word_model.specs.Reduction.{element, Reduced, reduce_tail}
use Rattle.word_model.specs.Finished.{Final, displaces, is_kept, kept_from, kept, insert_final, with_final, finals_from, FinishedList, list_of, option_list, finished}
use Rattle.word_model.specs.Machine.{IsElement}
use Rattle.word_model.proofs.LeastNumbers.{least_number-is, least_number-absent}
use Rattle.finish.specs.Finishing.{IsNonzeroIn, select, add_polynomial, add_final}

-- ---- what is kept

-- an element that another displaces is not kept
pub displaced : (G : List Polynomial) (i j : ℕ) → 1 ≤ j → j ≤ length G → displaces G i j ≡ true → ((x : ℕ) → 1 ≤ x → x < j → displaces G i x ≡ false) → not (is_kept G i) ≡ true
displaced G i j low high meets before =
    ap (λ o. not (is_none o)) (least_number-is (displaces G i) 1 (length G) j (record { low = low; high = omega arith; meets = meets; before = before }))

-- one that none displaces is
pub not_displaced : (G : List Polynomial) (i : ℕ) → ((x : ℕ) → 1 ≤ x → x ≤ length G → displaces G i x ≡ false) → not (is_kept G i) ≡ false
not_displaced G i none = ap (λ o. not (is_none o)) (least_number-absent (displaces G i) 1 (length G) (λ x low high. none x low (omega arith)))

-- whether each of the first k elements is kept
abbrev pub kept_flags : List Polynomial → ℕ → List Bool
kept_flags G zero = []
kept_flags G (suc k) = kept_flags G k ++ is_kept G (suc k) ∷ []

length-kept_flags : (G : List Polynomial) (k : ℕ) → length (kept_flags G k) ≡ k
length-kept_flags G zero = refl
length-kept_flags G (suc k) = length-append (kept_flags G k) (is_kept G (suc k) ∷ []) ∙ omega (arith, length-kept_flags G k)

kept_flags-at : (G : List Polynomial) (n k : ℕ) → k < n → slice_index_or (kept_flags G n) k false ≡ is_kept G (suc k)
kept_flags-at G zero k below = absurd (omega arith)
kept_flags-at G (suc n) k below = by (kept_flags-at G n k) (last_or_before n k below)
  where
    last_or_before : (n k : ℕ) → k < suc n → (k ≡ n) ⊎ (k < n)
    last_or_before n k h = grind arith

    by : (k < n → slice_index_or (kept_flags G n) k false ≡ is_kept G (suc k)) → (k ≡ n) ⊎ (k < n) → slice_index_or (kept_flags G n ++ is_kept G (suc n) ∷ []) k false ≡ is_kept G (suc k)
    by ih (inl here) =
        get_or_push (kept_flags G n) (is_kept G (suc n)) false k (length-kept_flags G n ∙ sym here) ∙ ap (λ x. is_kept G (suc x)) (sym here)
    by ih (inr before) =
        get_or-append (kept_flags G n) (is_kept G (suc n) ∷ []) false k (omega (arith, length-kept_flags G n)) ∙ ih before

-- flags that say what is kept select it
select-kept_from : (G : List Polynomial) (i : ℕ) (H : List Polynomial) (flags : List Bool)
    → ((k : ℕ) → k < length H → slice_index_or flags k false ≡ is_kept G (i + k)) → select [] flags H ≡ kept_from G i H
select-kept_from G i [] flags at = refl
select-kept_from G i (g ∷ H) [] at =
    let none : false ≡ is_kept G i = at 0 (omega arith) ∙ ap (is_kept G) (plus_none i) in
    let rest : select [] [] H ≡ kept_from G (suc i) H = select-kept_from G (suc i) H [] (λ k below. at (suc k) (omega arith) ∙ ap (is_kept G) (next i k)) in
    ap (λ b. (if b then g else []) ∷ select [] [] H) none ∙ ap (λ r. (if is_kept G i then g else []) ∷ r) rest
  where
    plus_none : (i : ℕ) → i + 0 ≡ i
    plus_none i = omega arith

    next : (i k : ℕ) → i + suc k ≡ suc i + k
    next i k = omega arith
select-kept_from G i (g ∷ H) (b ∷ flags) at =
    let here : b ≡ is_kept G i = at 0 (omega arith) ∙ ap (is_kept G) (plus_none i) in
    let rest : select [] flags H ≡ kept_from G (suc i) H = select-kept_from G (suc i) H flags (λ k below. at (suc k) (omega arith) ∙ ap (is_kept G) (next i k)) in
    ap (λ b. (if b then g else []) ∷ select [] flags H) here ∙ ap (λ r. (if is_kept G i then g else []) ∷ r) rest
  where
    plus_none : (i : ℕ) → i + 0 ≡ i
    plus_none i = omega arith

    next : (i k : ℕ) → i + suc k ≡ suc i + k
    next i k = omega arith

pub select-kept : (G : List Polynomial) (z : Polynomial) (flags : List Bool) → z ≡ [] → flags ≡ kept_flags G (length G) → select z flags G ≡ kept G
unfolding kept
select-kept G z flags zero_is flags_are =
    ap (λ z. select z flags G) zero_is ∙ ap (λ flags. select [] flags G) flags_are
    ∙ select-kept_from G 1 G (kept_flags G (length G)) (λ k below. kept_flags-at G (length G) k below ∙ ap (is_kept G) (one_more k))
  where
    one_more : (k : ℕ) → suc k ≡ 1 + k
    one_more k = omega arith

pub length-select : (z : Polynomial) (flags : List Bool) (G : List Polynomial) → length (select z flags G) ≡ length G
length-select z flags [] = refl
length-select z [] (g ∷ G) = ap suc (length-select z [] G)
length-select z (b ∷ flags) (g ∷ G) = ap suc (length-select z flags G)

-- what stands at a place
pub select-at : (z : Polynomial) (flags : List Bool) (G : List Polynomial) (k : ℕ) → k < length G
    → slice_index_or (select z flags G) k [] ≡ (if slice_index_or flags k false then slice_index_or G k [] else z)
select-at z flags [] k below = absurd (omega arith)
select-at z [] (g ∷ G) zero below = refl
select-at z [] (g ∷ G) (suc k) below = select-at z [] G k (omega arith)
select-at z (b ∷ flags) (g ∷ G) zero below = refl
select-at z (b ∷ flags) (g ∷ G) (suc k) below = select-at z flags G k (omega arith)

-- the element at a place whose flag is set, and zero at another
pub selected : (z : Polynomial) (flags fs : List Bool) (G : List Polynomial) (k : ℕ) (b : Bool) (g : Polynomial) → fs ≡ flags → k < length G
    → b ≡ slice_index_or fs k false → b ≡ true → g ≡ slice_index_or G k [] → g ≡ slice_index_or (select z flags G) k []
selected z flags fs G k b g same below flag set is =
    let on : slice_index_or flags k false ≡ true = sym (flag ∙ ap (λ fs. slice_index_or fs k false) same) ∙ set in
    is ∙ sym (select-at z flags G k below ∙ ap (λ b. if b then slice_index_or G k [] else z) on)

pub not_selected : (z : Polynomial) (flags fs : List Bool) (G : List Polynomial) (k : ℕ) (b : Bool) → fs ≡ flags → k < length G
    → b ≡ slice_index_or fs k false → b ≡ false → z ≡ slice_index_or (select z flags G) k []
not_selected z flags fs G k b same below flag unset =
    let off : slice_index_or flags k false ≡ false = sym (flag ∙ ap (λ fs. slice_index_or fs k false) same) ∙ unset in
    sym (select-at z flags G k below ∙ ap (λ b. if b then slice_index_or G k [] else z) off)

-- the finished list by the finals
pub finished-is : (A : Algebra) (G K : List Polynomial) (finals : List Final) (f : FinishedList) → K ≡ kept G → finals_from A K 1 K ≡ Some finals → f ≡ list_of finals
    → finished A G ≡ Some f
unfolding finished
finished-is A G K finals f K_is is f_is =
    ap (λ K. option_list (finals_from A K 1 K)) (sym K_is) ∙ ap option_list is ∙ ap Some (sym f_is)

pub finished-none : (A : Algebra) (G K : List Polynomial) → K ≡ kept G → finals_from A K 1 K ≡ None → finished A G ≡ None
unfolding finished
finished-none A G K K_is none = ap (λ K. option_list (finals_from A K 1 K)) (sym K_is) ∙ ap option_list none

module _ (A : Algebra) where
  -- elements have as many variables as the algebra, and are not zero
  pub nonzero_in : (G : List Polynomial) → Each (IsElement A) G → Each (IsNonzeroIn A.order.vars) G
  nonzero_in [] h = tt
  nonzero_in (g ∷ G) h = ((h.0.0.vars, h.0.1), nonzero_in G h.1)

  -- ---- finals

  -- an item that is less than no earlier one goes before the first that it is less than
  abbrev pub is_before : Polynomial → Final → Bool
  is_before f y = is_lt (order_cmp A.order.rows (leading_monomial f) (leading_monomial y.polynomial))

  -- the test, by what the program computes of it
  pub is_before-is : (f : Polynomial) (y z : Final) (order : RowOrder) (m n : Monomial) (o : Ordering) (b : Bool) → y ≡ z → order ≡ A.order
      → m ≡ leading_monomial f → n ≡ leading_monomial y.polynomial → o ≡ order_cmp order.rows m n → b ≡ is_lt o → is_before f z ≡ b
  is_before-is f y z order m n o b y_is order_is m_is n_is o_is b_is =
      let chosen : o ≡ order_cmp A.order.rows (leading_monomial f) (leading_monomial y.polynomial) =
      o_is ∙ ap (λ (x : RowOrder). order_cmp x.rows m n) order_is ∙ ap (λ m. order_cmp A.order.rows m n) m_is ∙ ap (λ n. order_cmp A.order.rows (leading_monomial f) n) n_is in
      sym (b_is ∙ ap is_lt chosen ∙ ap (is_before f) y_is)

  pub insert_final-at : (x : Final) (finals : List Final) (d : Final) (k : ℕ) → k ≤ length finals
      → ((j : ℕ) → j < k → is_before x.polynomial (slice_index_or finals j d) ≡ false)
      → (k < length finals → is_before x.polynomial (slice_index_or finals k d) ≡ true) → insert_final A x finals ≡ insert finals k x
  insert_final-at x [] d zero low before here = refl
  insert_final-at x [] d (suc k) low before here = absurd (omega arith)
  insert_final-at x (y ∷ ys) d zero low before here =
      ap (λ b. if b then x ∷ y ∷ ys else y ∷ insert_final A x ys) (here (omega arith))
  insert_final-at x (y ∷ ys) d (suc k) low before here =
      ap (λ b. if b then x ∷ y ∷ ys else y ∷ insert_final A x ys) (before 0 (omega arith))
      ∙ ap (λ r. y ∷ r) (insert_final-at x ys d k (omega arith) (λ j below. before (suc j) (omega arith)) (λ below. here (omega arith)))

  module _ (K : List Polynomial) where
    add_polynomial-none : (i : ℕ) (g : Polynomial) → add_polynomial A K i g None ≡ None
    add_polynomial-none i [] = refl
    add_polynomial-none i (t ∷ h) = refl

    finals_from-cons : (i : ℕ) (g : Polynomial) (H : List Polynomial) → finals_from A K i (g ∷ H) ≡ add_polynomial A K i g (finals_from A K (suc i) H)
    finals_from-cons i [] H = refl
    finals_from-cons i (t ∷ h) H = refl

    -- the finals from a number on are those behind it, with one more
    finals_from-at : (k : ℕ) → k < length K → finals_from A K (suc k) (drop k K) ≡ add_final A K (suc k) (finals_from A K (suc (suc k)) (drop (suc k) K))
    finals_from-at k below =
        ap (finals_from A K (suc k)) (drop-cons K k [] below) ∙ finals_from-cons (suc k) (slice_index_or K k []) (drop (suc k) K)
        ∙ ap (λ x. add_polynomial A K (suc k) (slice_index_or K x []) (finals_from A K (suc (suc k)) (drop (suc k) K))) (one_less k)
      where
        one_less : (k : ℕ) → k ≡ suc k - 1
        one_less k = omega arith

    -- the finals that a loop from the last element on has
    abbrev pub has_finals : ℕ → List Final → Type 0
    has_finals k finals = finals_from A K (suc k) (drop k K) ≡ Some finals

    pub has_finals-none : (k : ℕ) → k ≡ length K → has_finals k []
    has_finals-none k e = ap (finals_from A K (suc k)) (drop_all k K (le_of_eq (sym e)))

    pub has_finals-all : (k : ℕ) (finals : List Final) → k ≡ 0 → has_finals k finals → finals_from A K 1 K ≡ Some finals
    has_finals-all k finals e has = subst (λ k. has_finals k finals) e has

    pub has_finals-next : (k i j : ℕ) (before after : List Final) → 1 ≤ k → k ≤ length K → i ≡ k → j ≡ k - 1 → has_finals k before
        → add_final A K i (Some before) ≡ Some after → has_finals j after
    has_finals-next k i j before after low high i_is j_is has e =
        let i_here : i ≡ suc j = omega arith in
        let k_here : k ≡ suc j = omega arith in
        let has' : finals_from A K (suc (suc j)) (drop (suc j) K) ≡ Some before = subst (λ k. has_finals k before) k_here has in
        finals_from-at j (omega arith) ∙ ap (add_final A K (suc j)) has' ∙ subst (λ i. add_final A K i (Some before) ≡ Some after) i_here e

    -- where one has none, there are none
    none_before : (k : ℕ) → k ≤ length K → finals_from A K (suc k) (drop k K) ≡ None → finals_from A K 1 K ≡ None
    none_before zero high e = e
    none_before (suc k) high e =
        none_before k (omega arith) (finals_from-at k (omega arith) ∙ ap (add_final A K (suc k)) e ∙ add_polynomial-none (suc k) (element K (suc k)))

    pub has_finals-over : (k i : ℕ) (before : List Final) → 1 ≤ k → k ≤ length K → i ≡ k → has_finals k before
        → add_final A K i (Some before) ≡ None → finals_from A K 1 K ≡ None
    has_finals-over k i before low high i_is has e =
        let less : k ≡ suc (k - 1) = omega arith in
        let i_here : i ≡ suc (k - 1) = omega arith in
        let has' : finals_from A K (suc (suc (k - 1))) (drop (suc (k - 1)) K) ≡ Some before = subst (λ k. has_finals k before) less has in
        none_before (k - 1) (omega arith)
        (finals_from-at (k - 1) (omega arith) ∙ ap (add_final A K (suc (k - 1))) has' ∙ subst (λ i. add_final A K i (Some before) ≡ None) i_here e)

    -- ---- one element

    pub add_final-zero : (i : ℕ) (g : Polynomial) (finals : List Final) → g ≡ element K i → g ≡ [] → add_final A K i (Some finals) ≡ Some finals
    add_final-zero i g finals g_is none = ap (λ g. add_polynomial A K i g (Some finals)) (sym g_is ∙ none)

    pub add_final-over : (i : ℕ) (g : Polynomial) (r : Reduced) (finals : List Final) → g ≡ element K i → g ≢ [] → r ≡ reduce_tail A K g → r.over ≡ true
        → add_final A K i (Some finals) ≡ None
    add_final-over i g r finals g_is nonzero r_is over = ap (λ g. add_polynomial A K i g (Some finals)) (sym g_is) ∙ by g nonzero r_is
      where
        by : (g : Polynomial) → g ≢ [] → r ≡ reduce_tail A K g → add_polynomial A K i g (Some finals) ≡ None
        by [] nonzero r_is = absurd (nonzero refl)
        by (t ∷ h) nonzero r_is = ap (λ (r : Reduced). with_final A i r (Some finals)) (sym r_is) ∙ ap (λ b. if b then None else Some (insert_final A (record { polynomial = r.rest; origin = i; tail = r.trace }) finals)) over

    pub add_final-is : (i : ℕ) (g : Polynomial) (r : Reduced) (finals : List Final) → g ≡ element K i → g ≢ [] → r ≡ reduce_tail A K g → r.over ≡ false
        → add_final A K i (Some finals) ≡ Some (insert_final A (record { polynomial = r.rest; origin = i; tail = r.trace }) finals)
    add_final-is i g r finals g_is nonzero r_is over = ap (λ g. add_polynomial A K i g (Some finals)) (sym g_is) ∙ by g nonzero r_is
      where
        by : (g : Polynomial) → g ≢ [] → r ≡ reduce_tail A K g → add_polynomial A K i g (Some finals) ≡ Some (insert_final A (record { polynomial = r.rest; origin = i; tail = r.trace }) finals)
        by [] nonzero r_is = absurd (nonzero refl)
        by (t ∷ h) nonzero r_is = ap (λ (r : Reduced). with_final A i r (Some finals)) (sym r_is) ∙ ap (λ b. if b then None else Some (insert_final A (record { polynomial = r.rest; origin = i; tail = r.trace }) finals)) over
