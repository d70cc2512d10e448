-- Candidates for the least of a heap.
use Rattle.std.proofs.Common.{◌≡◌, ◌≢◌, ℕ, zero, suc, ◌+◌, ◌*◌, ◌/◌, ◌<◌, ◌≤◌, ◌⊎◌, inl, inr, Bool, true, false, ◌||◌, List, [], ◌∷◌, ◌++◌, length, get_or, take, drop, reverse, insert, if◌then◌else◌, true≢false, refl, sym, ap, ◌∙◌, subst, arith, take_all, append_assoc, append-nil}
use Rattle.std.proofs.Common.{Less, is_lt}
use Rattle.std.proofs.lemmas.Bool.{or_right}
use Rattle.std.proofs.lemmas.List.{map-append, take-map, drop-map, reverse-append}
use Rattle.gpoly.proofs.Lists.{Each-get_or}
use Rattle.monomials.specs.Orders.{RowOrder}
use Rattle.monomials.specs.Polynomials.{Each}
use Rattle.monomials.proofs.Keys.{Each-weaker, Each-append}
use Rattle.word_model.specs.Jobs.{same_job, is_queued}
use Rattle.word_model.specs.declared.records.Job.{Job}
use Rattle.word_model.proofs.JobLists.{same_job-is, same_job-itself}
use Rattle.pair_strategy.specs.Queues.{keyed_cmp, jobs_in, with_item, IsRising, IsSet}
use Rattle.pair_strategy.specs.Kept.{in_order}
use Rattle.pair_strategy.specs.Inside.Heaps.{IsAtMost, IsTree}
use Rattle.pair_strategy.specs.Inside.Fronts.{items_of, Has, IsEntered, IsOpened, IsFront, All, But}
use Rattle.pair_strategy.specs.declared.front.Candidate.{Candidate}
use Rattle.pair_strategy.specs.declared.keys.Keyed.{Keyed}
use Rattle.pair_strategy.proofs.Changes.{apart-at}
use Rattle.pair_strategy.proofs.Heaps.{at_most-trans, at_most-itself, at_most-less}
use Rattle.pair_strategy.proofs.InOrder.{Each-in_order, Each-from_order, set-in_order, rising-in_order, less-than}
use Rattle.pair_strategy.proofs.Ordered.{keyed_total, one_way}
use Rattle.pair_strategy.proofs.Placing.{Each-with_item, rising-with_item}
use Rattle.pair_strategy.proofs.Places.{which, cases, below_or}

-- ---- what a list has

has-first : (xs ys : List Keyed) (k : Keyed) → Has xs k → Has (xs ++ ys) k
has-first [] ys k h = absurd h
has-first (x ∷ xs) ys k (inl e) = inl e
has-first (x ∷ xs) ys k (inr h) = inr (has-first xs ys k h)

has-second : (xs ys : List Keyed) (k : Keyed) → Has ys k → Has (xs ++ ys) k
has-second [] ys k h = h
has-second (x ∷ xs) ys k h = inr (has-second xs ys k h)

has-either : (xs ys : List Keyed) (k : Keyed) → Has (xs ++ ys) k → Has xs k ⊎ Has ys k
has-either [] ys k h = inr h
has-either (x ∷ xs) ys k (inl e) = inl (inl e)
has-either (x ∷ xs) ys k (inr h) = cases (λ a. inl (inr a)) (λ b. inr b) (has-either xs ys k h)

has-each : (P : Keyed → Type 0) (xs : List Keyed) (k : Keyed) → Each P xs → Has xs k → P k
has-each P [] k h a = absurd a
has-each P (x ∷ xs) k h (inl e) = subst P (sym e) h.0
has-each P (x ∷ xs) k h (inr a) = has-each P xs k h.1 a

each-has : (xs : List Keyed) → Each (Has xs) xs
each-has [] = tt
each-has (x ∷ xs) = (inl refl, Each-weaker (Has xs) (Has (x ∷ xs)) (λ k h. inr h) xs (each-has xs))

-- an item is that of a place
has-place : (v : List Keyed) (k : Keyed) → Has v k → (p : ℕ) × (p < length v) × ((d : Keyed) → get_or v p d ≡ k)
has-place [] k h = absurd h
has-place (x ∷ v) k (inl e) = (0, omega arith, λ d. sym e)
has-place (x ∷ v) k (inr h) = later (has-place v k h)
  where
    later : ((p : ℕ) × (p < length v) × ((d : Keyed) → get_or v p d ≡ k)) → (p : ℕ) × (p < length (x ∷ v)) × ((d : Keyed) → get_or (x ∷ v) p d ≡ k)
    later at = (suc at.0, omega (arith, at.1), at.2)

-- one candidate more
pub items-insert : (front : List Candidate) (i : ℕ) (c : Candidate) → items_of (insert front i c) ≡ insert (items_of front) i c.item
items-insert front i c =
    map-append (λ (k : Candidate). k.item) (take i front) (c ∷ drop i front)
    ∙ ap (λ list. list ++ c.item ∷ items_of (drop i front)) (sym (take-map (λ (k : Candidate). k.item) i front))
    ∙ ap (λ list. take i (items_of front) ++ c.item ∷ list) (sym (drop-map (λ (k : Candidate). k.item) i front))

-- the last candidate is the first in the order of keys
pub last-first : (front rest : List Candidate) (c : Candidate) → front ≡ rest ++ c ∷ [] → reverse (items_of front) ≡ c.item ∷ reverse (items_of rest)
last-first front rest c is =
    ap (λ list. reverse (items_of list)) is
    ∙ ap reverse (map-append (λ (k : Candidate). k.item) rest (c ∷ []))
    ∙ reverse-append (items_of rest) (c.item ∷ [])

pub none-left : (front : List Candidate) → length front ≡ 0 → front ≡ []
none-left [] none = refl
none-left (c ∷ front) none = absurd (omega (arith, none))

-- the job of an item is queued
has-queued : (xs : List Keyed) (k : Keyed) → Has xs k → is_queued (jobs_in xs) k.job ≡ true
has-queued [] k h = absurd h
has-queued (y ∷ xs) k (inl e) = ap (λ t. t || is_queued (jobs_in xs) k.job) (ap (λ (y : Keyed). same_job k.job y.job) (sym e) ∙ same_job-itself k.job)
has-queued (y ∷ xs) k (inr h) = or_right (same_job k.job y.job) (is_queued (jobs_in xs) k.job) (has-queued xs k h)

module _ (o : RowOrder) where
  has-with_item : (a : Keyed) (xs : List Keyed) (k : Keyed) → Has (with_item o a xs) k → (k ≡ a) ⊎ Has xs k
  has-with_item a [] k h = h
  has-with_item a (b ∷ xs) k h = by (is_lt (keyed_cmp o a b)) h (has-with_item a xs k)
    where
      by : (t : Bool) → Has (if t then a ∷ b ∷ xs else b ∷ with_item o a xs) k → (Has (with_item o a xs) k → (k ≡ a) ⊎ Has xs k) → (k ≡ a) ⊎ Has (b ∷ xs) k
      by true h ih = h
      by false (inl e) ih = inr (inl e)
      by false (inr h) ih = cases (λ (e : k ≡ a). inl e) (λ (b : Has xs k). inr (inr b)) (ih h)

  with_item-has : (a : Keyed) (xs : List Keyed) (k : Keyed) → (k ≡ a) ⊎ Has xs k → Has (with_item o a xs) k
  with_item-has a [] k h = h
  with_item-has a (b ∷ xs) k h = by (is_lt (keyed_cmp o a b)) h (with_item-has a xs k)
    where
      by : (t : Bool) → (k ≡ a) ⊎ Has (b ∷ xs) k → ((k ≡ a) ⊎ Has xs k → Has (with_item o a xs) k) → Has (if t then a ∷ b ∷ xs else b ∷ with_item o a xs) k
      by true h ih = h
      by false (inl e) ih = inr (ih (inl e))
      by false (inr (inl e)) ih = inl e
      by false (inr (inr h)) ih = inr (ih (inr h))

  never-less : (a : Keyed) → keyed_cmp o a a ≡ Less → ⊥
  never-less a e = one_way (keyed_total o) a a e e

  -- of a rising list the first part is below the rest
  rising-parts : (gone : List Keyed) (x : Keyed) (rest : List Keyed) → IsRising o (gone ++ x ∷ rest)
      → Each (λ y. keyed_cmp o y x ≡ Less) gone × Each (λ y. keyed_cmp o x y ≡ Less) rest
  rising-parts [] x rest rise = (tt, rise.0)
  rising-parts (g ∷ gone) x rest rise =
      let later = rising-parts gone x rest rise.1 in
      ((has-each (λ y. keyed_cmp o g y ≡ Less) (gone ++ x ∷ rest) x rise.0 (has-second gone (x ∷ rest) x (inl refl)), later.0), later.1)

  -- two items of a set that have one job are the same
  same-item : (xs : List Keyed) (a b : Keyed) → IsSet (jobs_in xs) → Has xs a → Has xs b → same_job a.job b.job ≡ true → a ≡ b
  same-item [] a b set h g e = absurd h
  same-item (x ∷ xs) a b set (inl h) (inl g) e = h ∙ sym g
  same-item (x ∷ xs) a b set (inl h) (inr g) e =
      absurd (true≢false (sym (has-queued xs b g) ∙ ap (is_queued (jobs_in xs)) (sym (same_job-is a.job b.job e) ∙ ap (λ (k : Keyed). k.job) h) ∙ set.0))
  same-item (x ∷ xs) a b set (inr h) (inl g) e =
      absurd (true≢false (sym (has-queued xs a h) ∙ ap (is_queued (jobs_in xs)) (same_job-is a.job b.job e ∙ ap (λ (k : Keyed). k.job) g) ∙ set.0))
  same-item (x ∷ xs) a b set (inr h) (inr g) e = same-item xs a b set.1 h g e

  -- a job that none of these items has is not queued among them
  absent-each : (xs : List Keyed) (job : Job) → Each (λ y. same_job job y.job ≡ false) xs → is_queued (jobs_in xs) job ≡ false
  absent-each [] job h = refl
  absent-each (x ∷ xs) job h = ap (λ t. t || is_queued (jobs_in xs) job) h.0 ∙ absent-each xs job h.1

  module _ (v gone wait : List Keyed) (tree : IsTree o v (length v)) (set : IsSet (jobs_in v)) (is : in_order o v ≡ gone ++ wait) where
    rising : IsRising o (gone ++ wait)
    rising = subst (IsRising o) is (rising-in_order o v set)

    all_set : IsSet (jobs_in (gone ++ wait))
    all_set = subst (λ list. IsSet (jobs_in list)) is (set-in_order o v set)

    -- each item of the heap is gone or waits
    either : (p : ℕ) (d : Keyed) → p < length v → Has (gone ++ wait) (get_or v p d)
    either p d low =
        subst (λ list. Has list (get_or v p d)) is
        (Each-get_or (Has (in_order o v)) v p d low (Each-from_order o (Has (in_order o v)) v (each-has (in_order o v))))

    in_heap : (k : Keyed) → Has wait k → Has v k
    in_heap k h =
        has-each (Has v) (in_order o v) k (Each-in_order o (Has v) v (each-has v)) (subst (λ list. Has list k) (sym is) (has-second gone wait k h))

    -- an item in the list at two places
    apart : (p k : ℕ) (d : Keyed) → p < k → k < length v → get_or v p d ≡ get_or v k d → ⊥
    apart p k d less low e =
        true≢false (sym (same_job-itself (get_or v p d).job) ∙ ap (λ (y : Keyed). same_job (get_or v p d).job y.job) e ∙ apart-at v p k d set less low)

    one-place : (p k : ℕ) (d : Keyed) → p < length v → k < length v → get_or v p d ≡ get_or v k d → p ≡ k
    one-place p k d low high e =
        cases (λ (same : p ≡ k). same)
        (λ (ne : p ≢ k). cases (λ (less : p < k). absurd (apart p k d less high e)) (λ (le : k ≤ p). absurd (apart k p d (omega arith) low (sym e))) (below_or p k))
        (which p k)

    module _ (front : List Keyed) (f : IsFront o v gone wait front All) where
      -- each item is gone, or a candidate is at most it
      reach : (fuel p : ℕ) (d : Keyed) → p ≤ fuel → p < length v → Has gone (get_or v p d) ⊎ ((y : Keyed) × Has front y × IsAtMost o y (get_or v p d))
      reach fuel zero d fits low = cases (λ a. inl a) (λ b. inr (get_or v 0 d, b, at_most-itself o (get_or v 0 d))) (f.top d low)
      reach zero (suc p) d fits low = absurd (omega arith)
      reach (suc fuel) (suc p) d fits low =
          cases
          (λ (a : Has gone (get_or v (p / 2) d)).
          cases (λ b. inl b) (λ b. inr (get_or v (suc p) d, b, at_most-itself o (get_or v (suc p) d)))
          (f.closed (p / 2) (suc p) d (omega arith) (omega arith) low tt a))
          (λ (b : (y : Keyed) × Has front y × IsAtMost o y (get_or v (p / 2) d)).
          inr
          (b.0, b.1, at_most-trans o b.0 (get_or v (p / 2) d) (get_or v (suc p) d) b.2 (tree (p / 2) (suc p) d (omega arith) (omega arith) low)))
          (reach fuel (p / 2) d (omega arith) (omega arith))

      -- where there is no candidate, none waits
      pub none-wait : front ≡ [] → wait ≡ []
      none-wait empty = by wait refl
        where
          by : (w : List Keyed) → w ≡ wait → wait ≡ []
          by [] e = sym e
          by (r ∷ rest) e = absurd (no (has-place v r (in_heap r here)))
            where
              here : Has wait r
              here = subst (λ list. Has list r) e (inl refl)

              no : ((p : ℕ) × (p < length v) × ((d : Keyed) → get_or v p d ≡ r)) → ⊥
              no at =
                  cases
                  (λ (a : Has gone (get_or v at.0 r)).
                  never-less r
                  (has-each (λ y. keyed_cmp o y r ≡ Less) gone r (rising-parts gone r rest (subst (λ w. IsRising o (gone ++ w)) (sym e) rising)).0
                  (subst (Has gone) (at.2 r) a)))
                  (λ (b : (y : Keyed) × Has front y × IsAtMost o y (get_or v at.0 r)). subst (λ list. Has list b.0) empty b.1)
                  (reach at.0 at.0 r (omega arith) at.1)

      module _ (x : Keyed) (rest : List Keyed) (first : front ≡ x ∷ rest) where
        x-waits : Has wait x
        x-waits = (subst (Each (Has wait)) first f.waiting).0

        rest-rising : IsRising o (x ∷ rest)
        rest-rising = subst (IsRising o) first f.rising

        -- the first candidate is the first that waits
        pub first-waits : (later : List Keyed) × (wait ≡ x ∷ later)
        first-waits = by wait refl x-waits
          where
            by : (w : List Keyed) → w ≡ wait → Has w x → (later : List Keyed) × (wait ≡ x ∷ later)
            by [] e h = absurd h
            by (r ∷ later) e (inl same) = (later, sym e ∙ ap (λ y. y ∷ later) (sym same))
            by (r ∷ later) e (inr h) = absurd (no (has-place v r (in_heap r (subst (λ list. Has list r) e (inl refl)))))
              where
                parts : Each (λ y. keyed_cmp o y r ≡ Less) gone × Each (λ y. keyed_cmp o r y ≡ Less) later
                parts = rising-parts gone r later (subst (λ w. IsRising o (gone ++ w)) (sym e) rising)

                less : keyed_cmp o r x ≡ Less
                less = has-each (λ y. keyed_cmp o r y ≡ Less) later x parts.1 h

                -- x is at most each candidate
                least : (y : Keyed) → Has (x ∷ rest) y → IsAtMost o y r → ⊥
                least y (inl same) most =
                    true≢false (sym (ap is_lt (ap (keyed_cmp o r) same ∙ less)) ∙ most)
                least y (inr there) most =
                    let above : keyed_cmp o x y ≡ Less = has-each (λ y. keyed_cmp o x y ≡ Less) rest y rest-rising.0 there in
                    true≢false (sym (ap is_lt ((keyed_total o).trans r x y less above)) ∙ most)

                no : ((p : ℕ) × (p < length v) × ((d : Keyed) → get_or v p d ≡ r)) → ⊥
                no at =
                    cases
                    (λ (a : Has gone (get_or v at.0 r)).
                    never-less r (has-each (λ y. keyed_cmp o y r ≡ Less) gone r parts.0 (subst (Has gone) (at.2 r) a)))
                    (λ (b : (y : Keyed) × Has front y × IsAtMost o y (get_or v at.0 r)).
                    least b.0 (subst (λ list. Has list b.0) first b.1) (subst (IsAtMost o b.0) (at.2 r) b.2))
                    (reach at.0 at.0 r (omega arith) at.1)

        -- it leaves, and what lies below it did not come in yet
        pub taken-front : (p : ℕ) → p < length v → ((d : Keyed) → get_or v p d ≡ x) → (later : List Keyed) → wait ≡ x ∷ later
            → IsFront o v (gone ++ x ∷ []) later rest (But p (p * 2 + 1))
        taken-front p low at later e = record {
          rising = rest-rising.1;
          waiting = still rest rest-rising.0 (subst (λ w. Each (Has w) rest) e (subst (Each (Has wait)) first f.waiting).1);
          top = λ d some. cases (λ a. inl (has-first gone (x ∷ []) (get_or v 0 d) a)) (λ b. put (get_or v 0 d) (subst (λ list. Has list (get_or v 0 d)) first b)) (f.top d some);
          closed = λ q k d under over short came h.
              cases
              (λ (a : Has gone (get_or v q d)).
              cases (λ b. inl (has-first gone (x ∷ []) (get_or v k d) b))
              (λ b. put (get_or v k d) (subst (λ list. Has list (get_or v k d)) first b)) (f.closed q k d under over short tt a))
              (λ (b : Has (x ∷ []) (get_or v q d)). absurd (not_yet q k d under over short came b)) (has-either gone (x ∷ []) (get_or v q d) h);
          fresh = λ q k d under over short h.
              let was = f.fresh q k d under over short (subst (λ list. Has list (get_or v k d)) (sym first) (inr h)) in
              (has-first gone (x ∷ []) (get_or v q d) was.0, inl (λ same. stays q d same was.0));
        }
          where
            below : Each (λ y. keyed_cmp o y x ≡ Less) gone
            below = (rising-parts gone x later (subst (λ w. IsRising o (gone ++ w)) e rising)).0

            still : (ys : List Keyed) → Each (λ y. keyed_cmp o x y ≡ Less) ys → Each (Has (x ∷ later)) ys → Each (Has later) ys
            still [] less h = tt
            still (y ∷ ys) less h = (one h.0, still ys less.1 h.1)
              where
                one : Has (x ∷ later) y → Has later y
                one (inl same) = absurd (never-less x (ap (keyed_cmp o x) (sym same) ∙ less.0))
                one (inr there) = there

            put : (k : Keyed) → Has (x ∷ rest) k → Has (gone ++ x ∷ []) k ⊎ Has rest k
            put k (inl same) = inl (has-second gone (x ∷ []) k (inl same))
            put k (inr h) = inr h

            not_yet : (q k : ℕ) (d : Keyed) → q * 2 + 1 ≤ k → k ≤ q * 2 + 2 → k < length v → But p (p * 2 + 1) q k → Has (x ∷ []) (get_or v q d) → ⊥
            not_yet q k d under over short (inl ne) (inl same) = ne (one-place q p d (omega arith) low (same ∙ sym (at d)))
            not_yet q k d under over short (inr less) (inl same) =
                let here : q ≡ p = one-place q p d (omega arith) low (same ∙ sym (at d)) in
                absurd (omega (arith, here))
            not_yet q k d under over short came (inr never) = absurd never

            stays : (q : ℕ) (d : Keyed) → q ≡ p → Has gone (get_or v q d) → ⊥
            stays q d same h =
                let is_x : get_or v q d ≡ x = ap (λ n. get_or v n d) same ∙ at d in
                never-less x (has-each (λ y. keyed_cmp o y x ≡ Less) gone x below (subst (Has gone) is_x h))

    -- the item at m, below one that is gone and that none of those that are gone is greater than, comes in
    pub entered-front : (front more : List Keyed) (x : Keyed) (p m : ℕ) → p < length v → ((d : Keyed) → get_or v p d ≡ x) → p * 2 + 1 ≤ m → m ≤ p * 2 + 2
        → Has gone x → Each (λ y. IsAtMost o y x) gone → IsEntered o v m front more
        → IsFront o v gone wait front (But p m) → IsFront o v gone wait more (But p (m + 1))
    entered-front front more x p m low at under over x_gone most entered f =
        cases (λ (short : m < length v). comes short (entered.0 short))
        (λ (long : length v ≤ m).
        subst (λ list. IsFront o v gone wait list (But p (m + 1))) (sym (entered.1 long))
        (record {
          rising = f.rising;
          waiting = f.waiting;
          top = f.top;
          closed = λ q k d a b short came h. f.closed q k d a b short (cases (λ ne. inl ne) (λ less. inr (omega arith)) came) h;
          fresh = λ q k d a b short h.
              let was = f.fresh q k d a b short h in
              (was.0, cases (λ ne. inl ne) (λ less. inr (omega arith)) was.1);
        }))
        (below_or m (length v))
      where
        comes : m < length v → ((z : Keyed) × ((d : Keyed) → get_or v m d ≡ z) × (more ≡ with_item o z front)) → IsFront o v gone wait more (But p (m + 1))
        comes short (z, there, is_more) =
            subst (λ list. IsFront o v gone wait list (But p (m + 1))) (sym is_more)
            (record {
              rising = rising-with_item o z front f.rising (absent-each front z.job (Each-weaker (Has front) (λ y. same_job z.job y.job ≡ false) other front (each-has front)));
              waiting = Each-with_item (Has wait) o z front z-waits f.waiting;
              top = λ d some. cases (λ a. inl a) (λ b. inr (with_item-has z front (get_or v 0 d) (inr b))) (f.top d some);
              closed = λ q k d a b high came h.
                  cases (λ (ne : q ≢ p). kept (get_or v k d) (f.closed q k d a b high (inl ne) h))
                  (λ (less : k < m + 1).
                  cases (λ (same : k ≡ m). inr (with_item-has z front (get_or v k d) (inl (ap (λ n. get_or v n d) same ∙ there d))))
                  (λ (ne : k ≢ m). kept (get_or v k d) (f.closed q k d a b high (inr (omega arith)) h)) (which k m)) came;
              fresh = λ q k d a b high h.
                  cases
                  (λ (same : get_or v k d ≡ z).
                  let here : k ≡ m = one-place k m d high short (same ∙ sym (there d)) in
                  let up : q ≡ p = omega (arith, here) in
                  (subst (Has gone) (sym (ap (λ n. get_or v n d) up ∙ at d)) x_gone, inr (omega (arith, here))))
                  (λ (h : Has front (get_or v k d)).
                  let was = f.fresh q k d a b high h in
                  (was.0, cases (λ ne. inl ne) (λ less. inr (omega arith)) was.1))
                  (has-with_item z front (get_or v k d) h);
            })
          where
            kept : (k : Keyed) → Has gone k ⊎ Has front k → Has gone k ⊎ Has (with_item o z front) k
            kept k h = cases (λ a. inl a) (λ b. inr (with_item-has z front k (inr b))) h

            over_x : IsAtMost o x z
            over_x = subst (λ y. IsAtMost o y z) (at z) (subst (λ y. IsAtMost o (get_or v p z) y) (there z) (tree p m z under over short))

            apart_jobs : same_job x.job z.job ≡ false
            apart_jobs =
                ap (λ (y : Keyed). same_job y.job z.job) (sym (at z))
                ∙ ap (λ (y : Keyed). same_job (get_or v p z).job y.job) (sym (there z))
                ∙ apart-at v p m z set (omega arith) short

            z-waits : Has wait z
            z-waits =
                cases
                (λ (a : Has gone z).
                absurd (true≢false (sym (ap is_lt (less-than o x z apart_jobs over_x)) ∙ has-each (λ y. IsAtMost o y x) gone z most a)))
                (λ (b : Has wait z). b)
                (has-either gone wait z (subst (Has (gone ++ wait)) (there z) (either m z short)))

            other : (y : Keyed) → Has front y → same_job z.job y.job ≡ false
            other y h = by (same_job z.job y.job) refl
              where
                by : (t : Bool) → same_job z.job y.job ≡ t → t ≡ false
                by false e = refl
                by true e =
                    let same : z ≡ y =
                    same-item (gone ++ wait) z y all_set (has-second gone wait z z-waits) (has-second gone wait y (has-each (Has wait) front y f.waiting h)) e in
                    let was = f.fresh p m z under over short (subst (Has front) (sym (there z ∙ same)) h) in
                    absurd (cases (λ (ne : p ≢ p). ne refl) (λ (less : m < m). absurd (omega arith)) was.1)

    -- all came in
    pub all-came : (front : List Keyed) (p : ℕ) → IsFront o v gone wait front (But p (p * 2 + 3)) → IsFront o v gone wait front All
    all-came front p f = record {
      rising = f.rising;
      waiting = f.waiting;
      top = f.top;
      closed = λ q k d a b short came h. f.closed q k d a b short (cases (λ (same : q ≡ p). inr (omega arith)) (λ (ne : q ≢ p). inl ne) (which q p)) h;
      fresh = λ q k d a b short h. ((f.fresh q k d a b short h).0, tt);
    }

  -- ---- the walk

  -- the jobs of those that are gone, while the others wait behind the candidates
  abbrev pub IsWalk : List Keyed → List Job → List Keyed → Type 0
  IsWalk v jobs front =
      (gone : List Keyed) × (wait : List Keyed) × (in_order o v ≡ gone ++ wait) × (jobs ≡ jobs_in gone) × IsFront o v gone wait front All

  module _ (v : List Keyed) (tree : IsTree o v (length v)) (set : IsSet (jobs_in v)) where
    pub walk-begins : (more : List Keyed) → IsEntered o v 0 [] more → IsWalk v [] more
    walk-begins more entered = ([], in_order o v, refl, refl, begun)
      where
        begun : IsFront o v [] (in_order o v) more All
        begun =
            cases
            (λ (some : 0 < length v).
            let in' = entered.0 some in
            subst (λ list. IsFront o v [] (in_order o v) list All) (sym in'.2)
            (record {
              rising = (tt, tt);
              waiting = (subst (Has (in_order o v)) (in'.1 in'.0) (either v [] (in_order o v) tree set refl 0 in'.0 some), tt);
              top = λ d low. inr (inl (in'.1 d));
              closed = λ p k d a b low came h. absurd h;
              fresh = λ p k d a b low h.
                  cases
                  (λ (same : get_or v k d ≡ in'.0).
                  let here : k ≡ 0 = one-place v [] (in_order o v) tree set refl k 0 d low some (same ∙ sym (in'.1 d)) in
                  absurd (omega (arith, here)))
                  (λ (never : ⊥). absurd never) h;
            }))
            (λ (none : length v ≤ 0).
            subst (λ list. IsFront o v [] (in_order o v) list All) (sym (entered.1 none))
            (record {
              rising = tt;
              waiting = tt;
              top = λ d low. absurd (omega (arith, none));
              closed = λ p k d a b low came h. absurd h;
              fresh = λ p k d a b low h. absurd h;
            }))
            (below_or 0 (length v))

    -- none of those that are gone is greater than the last of them
    most : (gone wait : List Keyed) (x : Keyed) (later : List Keyed) → in_order o v ≡ gone ++ wait → wait ≡ x ∷ later → Each (λ y. IsAtMost o y x) (gone ++ x ∷ [])
    most gone wait x later is e =
        let parts = rising-parts gone x later (subst (λ w. IsRising o (gone ++ w)) e (rising v gone wait tree set is)) in
        Each-append (λ y. IsAtMost o y x) gone (x ∷ [])
        (Each-weaker (λ y. keyed_cmp o y x ≡ Less) (λ y. IsAtMost o y x) (λ y less. at_most-less o x y (ap is_lt less)) gone parts.0)
        (at_most-itself o x, tt)

    pub walk-opens : (jobs : List Job) (front : List Keyed) (x : Keyed) (rest half : List Keyed) (p : ℕ) → IsWalk v jobs front → front ≡ x ∷ rest
        → p < length v → ((d : Keyed) → get_or v p d ≡ x) → IsEntered o v (p * 2 + 1) rest half → IsRising o half
    walk-opens jobs front x rest half p (gone, wait, is, same, f) first low at entered =
        let next = first-waits v gone wait tree set is front f x rest first in
        let start = taken-front v gone wait tree set is front f x rest first p low at next.0 next.1 in
        let split : in_order o v ≡ (gone ++ x ∷ []) ++ next.0 = is ∙ ap (λ w. gone ++ w) next.1 ∙ sym (append_assoc gone (x ∷ []) next.0) in
        (entered-front v (gone ++ x ∷ []) next.0 tree set split rest half x p (p * 2 + 1) low at (omega arith) (omega arith)
        (has-second gone (x ∷ []) x (inl refl)) (most gone wait x next.0 is next.1) entered start).rising

    pub walk-steps : (jobs : List Job) (front : List Keyed) (x : Keyed) (rest more : List Keyed) (p : ℕ) → IsWalk v jobs front → front ≡ x ∷ rest
        → p < length v → ((d : Keyed) → get_or v p d ≡ x) → IsOpened o v p rest more → IsWalk v (jobs ++ x.job ∷ []) more
    walk-steps jobs front x rest more p (gone, wait, is, same, f) first low at (half, one, two) =
        let next = first-waits v gone wait tree set is front f x rest first in
        let start = taken-front v gone wait tree set is front f x rest first p low at next.0 next.1 in
        let split : in_order o v ≡ (gone ++ x ∷ []) ++ next.0 = is ∙ ap (λ w. gone ++ w) next.1 ∙ sym (append_assoc gone (x ∷ []) next.0) in
        let x_gone = has-second gone (x ∷ []) x (inl refl) in
        let all = most gone wait x next.0 is next.1 in
        let first_in = entered-front v (gone ++ x ∷ []) next.0 tree set split rest half x p (p * 2 + 1) low at (omega arith) (omega arith) x_gone all one start in
        let count : p * 2 + 1 + 1 ≡ p * 2 + 2 = omega arith in
        let second_in =
        entered-front v (gone ++ x ∷ []) next.0 tree set split half more x p (p * 2 + 2) low at (omega arith) (omega arith) x_gone all two
        (subst (λ m. IsFront o v (gone ++ x ∷ []) next.0 half (But p m)) count first_in) in
        let end : p * 2 + 2 + 1 ≡ p * 2 + 3 = omega arith in (
          gone ++ x ∷ [],
          next.0,
          split,
          ap (λ list. list ++ x.job ∷ []) same ∙ sym (map-append (λ (k : Keyed). k.job) gone (x ∷ [])),
          all-came v (gone ++ x ∷ []) next.0 tree set split more p (subst (λ m. IsFront o v (gone ++ x ∷ []) next.0 more (But p m)) end second_in),
        )

    -- no candidate is left: all jobs are there
    pub walk-over : (jobs : List Job) (front : List Keyed) (k : ℕ) → IsWalk v jobs front → front ≡ [] → length jobs ≤ k → jobs ≡ take k (jobs_in (in_order o v))
    walk-over jobs front k (gone, wait, is, same, f) empty few =
        let none = none-wait v gone wait tree set is front f empty in
        let all : in_order o v ≡ gone = is ∙ ap (λ w. gone ++ w) none ∙ append-nil gone in
        let jobs_are : jobs ≡ jobs_in (in_order o v) = same ∙ ap jobs_in (sym all) in
        jobs_are ∙ sym (take_all k (jobs_in (in_order o v)) (omega (arith, ap length jobs_are, few)))
