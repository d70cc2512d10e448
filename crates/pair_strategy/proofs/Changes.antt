-- What a heap of items has after a push and after a take.
use Rattle.std.proofs.Common.{◌≡◌, ℕ, zero, suc, ◌+◌, ◌-◌, ◌/◌, ◌<◌, Bool, true, false, not, ◌||◌, ◌&&◌, List, [], ◌∷◌, ◌++◌, length, get_or, drop, Option, Some, None, MatchOption, option_copied, slice_get, IsPermutation, swap_remove, Bor, refl, sym, ap, ◌∙◌, subst, subst₂, arith, length-append, ◌≢◌}
use lib.ListN.{get_or-append}
use Rattle.std.proofs.lemmas.Bool.{or_parts}
use Rattle.std.proofs.lemmas.List.Sorted.{IsPermutation-sym, IsPermutation-trans, IsPermutation-cons, IsPermutation-to_front, IsPermutation-swap_remove}
use Rattle.gpoly.proofs.Lists.{Each-IsPermutation, Each-from_get_or}
use Rattle.monomials.specs.Orders.{RowOrder}
use Rattle.monomials.specs.Polynomials.{Each}
use Rattle.word_model.specs.Jobs.{same_job, is_queued, IsJob}
use Rattle.word_model.specs.declared.records.Job.{Job}
use Rattle.word_model.proofs.JobLists.{same_job-is}
use Rattle.pair_strategy.specs.Queues.{jobs_in, with_item, IsHeap, IsQueue, IsSet}
use Rattle.pair_strategy.specs.Kept.{in_order}
use Rattle.pair_strategy.specs.Inside.Heaps.{IsAtMost, IsTree, IsTreeBelow, IsTreeAbove}
use Rattle.pair_strategy.specs.declared.keys.Keyed.{Keyed}
use Rattle.pair_strategy.proofs.Heaps.{top-least}
use Rattle.pair_strategy.proofs.InOrder.{queued-permutation, set-permutation, Each-in_order, set-in_order, rising-in_order, same-order, less-than, least-first}

-- a job that is none of these, and the item at a place
absent-at : (v : List Keyed) (job : Job) (k : ℕ) (d : Keyed) → is_queued (jobs_in v) job ≡ false → k < length v → same_job job (get_or v k d).job ≡ false
absent-at [] job k d absent low = absurd (omega arith)
absent-at (x ∷ v) job zero d absent low = (or_parts (same_job job x.job) (is_queued (jobs_in v) job) absent).0
absent-at (x ∷ v) job (suc k) d absent low = absent-at v job k d (or_parts (same_job job x.job) (is_queued (jobs_in v) job) absent).1 (omega arith)

-- two places of a set have two jobs
pub apart-at : (v : List Keyed) (i k : ℕ) (d : Keyed) → IsSet (jobs_in v) → i < k → k < length v → same_job (get_or v i d).job (get_or v k d).job ≡ false
apart-at [] i k d set less low = absurd (omega arith)
apart-at (x ∷ v) i zero d set less low = absurd (omega arith)
apart-at (x ∷ v) zero (suc k) d set less low = absent-at v x.job k d set.0 (omega arith)
apart-at (x ∷ v) (suc i) (suc k) d set less low = apart-at v i k d set.1 (omega arith) (omega arith)

-- a job without a number that has a bit is not queued
pub unnumbered : (v : List Keyed) (job : Job) → Each (λ k. IsJob 4096 2048 16 k.job) v → (IsJob 4096 2048 16 job → ⊥) → is_queued (jobs_in v) job ≡ false
unnumbered [] job numbers none = refl
unnumbered (x ∷ v) job numbers none = by (same_job job x.job) refl (unnumbered v job numbers.1 none)
  where
    by : (t : Bool) → same_job job x.job ≡ t → is_queued (jobs_in v) job ≡ false → (t || is_queued (jobs_in v) job) ≡ false
    by true e ih = absurd (none (subst (IsJob 4096 2048 16) (sym (same_job-is job x.job e)) numbers.0))
    by false e ih = ih

module _ (o : RowOrder) where
  pub heap-order : (v : List Keyed) → IsTree o v (length v) → IsSet (jobs_in v) → IsHeap o v
  heap-order v tree set = λ k d low high.
      less-than o (get_or v (k / 2 - 1) d) (get_or v (k - 1) d) (apart-at v (k / 2 - 1) (k - 1) d set (omega arith) (omega arith))
      (tree (k / 2 - 1) (k - 1) d (omega arith) (omega arith) (omega arith))

  -- the top is at most each item
  pub top-at_most : (x : Keyed) (v : List Keyed) → x ≡ get_or v 0 x → IsTree o v (length v) → Each (IsAtMost o x) v
  top-at_most x v first tree = Each-from_get_or (IsAtMost o x) v at
    where
      below : (k : ℕ) (d : Keyed) → k < length v → IsAtMost o (get_or v 0 x) (get_or v k x)
      below k d low = top-least o v (length v) tree k k x (omega arith) low

      at : (k : ℕ) (d : Keyed) → k < length v → IsAtMost o x (get_or v k d)
      at k d low =
          subst (λ y. IsAtMost o x y) (same v k low)
          (subst (λ y. IsAtMost o y (get_or v k x)) (sym first) (below k d low))
        where
          same : (v : List Keyed) (k : ℕ) → k < length v → get_or v k x ≡ get_or v k d
          same [] k low = absurd (omega arith)
          same (y ∷ v) zero low = refl
          same (y ∷ v) (suc k) low = same v k (omega arith)

  -- the first in the order of keys is the top
  pub first-is : (v : List Keyed) → IsTree o v (length v) → IsSet (jobs_in v) → (r : Option (Bor Keyed)) → option_copied r ≡ slice_get v 0
      → MatchOption r (in_order o v ≡ []) (λ k. in_order o v ≡ k.now ∷ drop 1 (in_order o v))
  first-is [] tree set None e = refl
  first-is [] tree set (Some k) e = cc
  first-is (x ∷ v) tree set None e = cc
  first-is (x ∷ v) tree set (Some k) e =
      let same : k.now ≡ x = cc in
      let is : in_order o (x ∷ v) ≡ x ∷ in_order o v = least-first o x v set (top-at_most x (x ∷ v) refl tree).1 in
      is ∙ ap (λ y. y ∷ in_order o v) (sym same) ∙ ap (λ list. k.now ∷ drop 1 list) (sym is)

  -- a set of items, in the order of keys, is a queue
  pub queue-of : (v : List Keyed) (spare : ℕ) → IsSet (jobs_in v) → Each (λ k. length k.mono ≡ o.vars) v
      → IsQueue (record { order = o; items = in_order o v; spare = spare })
  queue-of v spare set vars = record {
    rising = rising-in_order o v set;
    set = set-in_order o v set;
    vars = Each-in_order o (λ k. length k.mono ≡ o.vars) v vars;
  }

  -- ---- the heap while one item is not in its place

  pub pushed-tree : (v xs : List Keyed) (k : Keyed) → xs ≡ v ++ k ∷ [] → IsTree o v (length v) → IsTreeBelow o xs (length xs - 1) (length xs)
  pushed-tree v xs k is tree =
      let long : length xs ≡ length v + 1 = ap length is ∙ length-append v (k ∷ []) in
      let old : (i : ℕ) (d : Keyed) → i < length v → get_or xs i d ≡ get_or v i d =
      λ i d low. ap (λ list. get_or list i d) is ∙ get_or-append v (k ∷ []) d i low in (
        λ p i d low high in_range other.
            subst₂ (λ a b. IsAtMost o a b) (sym (old p d (omega (arith, long)))) (sym (old i d (omega (arith, long)))) (tree p i d low high (omega (arith, long))),
        λ p i d a b low high in_range. absurd (omega arith),
      )

  pub taken-tree : (v xs : List Keyed) → length xs + 1 ≡ length v → ((i : ℕ) (d : Keyed) → i ≢ 0 → i + 1 < length v → get_or xs i d ≡ get_or v i d)
      → IsTree o v (length v) → IsTreeAbove o xs 0 (length xs)
  taken-tree v xs long old tree = (
    λ p i d low high in_range other.
        subst₂ (λ a b. IsAtMost o a b) (sym (old p d other (omega (arith, long)))) (sym (old i d (omega arith) (omega (arith, long))))
        (tree p i d low high (omega (arith, long))),
    λ p i d a b low high in_range. absurd (omega arith),
  )

-- ---- one item more

module _ (v w : List Keyed) (k : Keyed) (moved : IsPermutation (v ++ k ∷ []) w) where
  pub pushed-permutation : IsPermutation (k ∷ v) w
  pushed-permutation = IsPermutation-trans (k ∷ v) (v ++ k ∷ []) w (IsPermutation-sym (v ++ k ∷ []) (k ∷ v) (IsPermutation-to_front v k)) moved

  pub pushed-each : (P : Keyed → Type 0) → Each P v → P k → Each P w
  pushed-each P h here = Each-IsPermutation P (k ∷ v) w pushed-permutation (here, h)

  pub pushed-set : IsSet (jobs_in v) → is_queued (jobs_in v) k.job ≡ false → IsSet (jobs_in w)
  pushed-set set absent = set-permutation (k ∷ v) w pushed-permutation (absent, set)

  pub pushed-items : (o : RowOrder) → IsSet (jobs_in v) → is_queued (jobs_in v) k.job ≡ false → in_order o w ≡ with_item o k (in_order o v)
  pushed-items o set absent = sym (same-order o (k ∷ v) w pushed-permutation (absent, set))

  pub pushed-queued : (job : Job) → (same_job job k.job || is_queued (jobs_in v) job) ≡ is_queued (jobs_in w) job
  pushed-queued job = queued-permutation (k ∷ v) w pushed-permutation job

-- ---- one item less

-- the first, and what is left, in any order
pub taken-permutation : (v xs w : List Keyed) (k : Keyed) → 0 < length v → k ≡ get_or v 0 k → xs ≡ swap_remove v 0 k → IsPermutation xs w → IsPermutation v (k ∷ w)
taken-permutation v xs w k some first is moved =
    IsPermutation-trans v (k ∷ xs) (k ∷ w) (subst (λ list. IsPermutation v (k ∷ list)) (sym is) (IsPermutation-swap_remove v 0 k some first))
    (IsPermutation-cons k xs w moved)

module _ (v w : List Keyed) (k : Keyed) (moved : IsPermutation v (k ∷ w)) where
  pub left-each : (P : Keyed → Type 0) → Each P v → Each P w
  left-each P h = (Each-IsPermutation P v (k ∷ w) moved h).1

  pub gone-each : (P : Keyed → Type 0) → Each P v → P k
  gone-each P h = (Each-IsPermutation P v (k ∷ w) moved h).0

  pub left-set : IsSet (jobs_in v) → IsSet (jobs_in w)
  left-set set = (set-permutation v (k ∷ w) moved set).1

  pub left-items : (o : RowOrder) → IsSet (jobs_in v) → Each (IsAtMost o k) v → in_order o v ≡ k ∷ in_order o w
  left-items o set least =
      same-order o v (k ∷ w) moved set ∙ least-first o k w (set-permutation v (k ∷ w) moved set) (left-each (IsAtMost o k) least)

  pub left-queued : IsSet (jobs_in v) → (job : Job) → (not (same_job job k.job) && is_queued (jobs_in v) job) ≡ is_queued (jobs_in w) job
  left-queued set job = ap (λ t. not (same_job job k.job) && t) (queued-permutation v (k ∷ w) moved job) ∙ by (same_job job k.job) refl
    where
      by : (t : Bool) → same_job job k.job ≡ t → (not t && (t || is_queued (jobs_in w) job)) ≡ is_queued (jobs_in w) job
      by true e = sym (ap (is_queued (jobs_in w)) (same_job-is job k.job e) ∙ (set-permutation v (k ∷ w) moved set).0)
      by false e = refl
