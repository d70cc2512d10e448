-- Items in the order of their keys, from a list in any order.
use Rattle.std.proofs.Common.{◌≡◌, ℕ, ◌+◌, ◌≤◌, ◌⊎◌, inl, inr, Bool, true, false, ◌||◌, List, [], ◌∷◌, if◌then◌else◌, IsPermutation, sum_by, refl, sym, ap, ◌∙◌, arith}
use Rattle.std.proofs.Common.{Less, is_lt}
use Rattle.std.proofs.lemmas.Bool.{or_parts}
use Rattle.std.proofs.lemmas.List.Sorted.{IsPermutation-refl, IsPermutation-sym, IsPermutation-trans, IsPermutation-cons, IsPermutation-middle, IsPermutation-map, sum_by-IsPermutation, list_any-IsPermutation}
use Rattle.std.proofs.lemmas.List.Sums.{sum_by-cons}
use Rattle.gpoly.proofs.Lists.{Each-IsPermutation}
use Rattle.monomials.specs.Orders.{RowOrder}
use Rattle.monomials.specs.Polynomials.{Each}
use Rattle.monomials.proofs.Keys.{Each-weaker}
use Rattle.word_model.specs.Jobs.{same_job, is_queued}
use Rattle.word_model.specs.declared.records.Job.{Job}
use Rattle.word_model.proofs.JobLists.{same_job-is, same_job-itself}
use Rattle.pair_strategy.specs.Queues.{keyed_cmp, jobs_in, with_item, IsRising, IsSet}
use Rattle.pair_strategy.specs.Kept.{in_order}
use Rattle.pair_strategy.specs.Inside.Heaps.{IsAtMost}
use Rattle.pair_strategy.specs.declared.keys.Keyed.{Keyed}
use Rattle.pair_strategy.proofs.Members.{added, same_job-sym}
use Rattle.pair_strategy.proofs.Ordered.{keyed_total, keys_differ, is_greater, below, one_way}
use Rattle.pair_strategy.proofs.Placing.{Each-with_item, rising-with_item}

-- ---- the same jobs

pub queued-permutation : (v w : List Keyed) → IsPermutation v w → (job : Job) → is_queued (jobs_in v) job ≡ is_queued (jobs_in w) job
queued-permutation v w moved job = list_any-IsPermutation (same_job job) (jobs_in v) (jobs_in w) (IsPermutation-map (λ (k : Keyed). k.job) v w moved)

-- one if an item is of this job
abbrev one_if : Bool → ℕ
one_if true = 1
one_if false = 0

abbrev times : Job → List Keyed → ℕ
times job v = sum_by (λ k. one_if (same_job job k.job)) v

times-cons : (job : Job) (k : Keyed) (v : List Keyed) → times job (k ∷ v) ≡ one_if (same_job job k.job) + times job v
times-cons job k v = sum_by-cons (λ (k : Keyed). one_if (same_job job k.job)) k v

-- a job that is not there comes no time
times-absent : (v : List Keyed) (job : Job) → is_queued (jobs_in v) job ≡ false → times job v ≡ 0
times-absent [] job absent = refl
times-absent (k ∷ v) job absent =
    let parts = or_parts (same_job job k.job) (is_queued (jobs_in v) job) absent in
    let none : times job (k ∷ v) ≡ 0 + times job v = times-cons job k v ∙ ap (λ t. one_if t + times job v) parts.0 in
    omega (arith, none, times-absent v job parts.1)

times-none : (v : List Keyed) (job : Job) → times job v ≡ 0 → is_queued (jobs_in v) job ≡ false
times-none [] job none = refl
times-none (k ∷ v) job none = by (same_job job k.job) refl (times-none v job)
  where
    all : one_if (same_job job k.job) + times job v ≡ 0
    all = sym (times-cons job k v) ∙ none

    by : (t : Bool) → same_job job k.job ≡ t → (times job v ≡ 0 → is_queued (jobs_in v) job ≡ false) → (t || is_queued (jobs_in v) job) ≡ false
    by true e ih =
        let one : 1 + times job v ≡ 0 = ap (λ t. one_if t + times job v) (sym e) ∙ all in
        absurd (omega (arith, one))
    by false e ih =
        let rest : 0 + times job v ≡ 0 = ap (λ t. one_if t + times job v) (sym e) ∙ all in
        ih (omega (arith, rest))

-- in a set each comes at most once
times-set : (v : List Keyed) → IsSet (jobs_in v) → (job : Job) → times job v ≤ 1
times-set [] set job = omega arith
times-set (k ∷ v) set job = by (same_job job k.job) refl (times-set v set.1 job)
  where
    by : (t : Bool) → same_job job k.job ≡ t → times job v ≤ 1 → times job (k ∷ v) ≤ 1
    by true e ih =
        let is : job ≡ k.job = same_job-is job k.job e in
        let rest : times job v ≡ 0 = times-absent v job (ap (is_queued (jobs_in v)) is ∙ set.0) in
        let one : times job (k ∷ v) ≡ 1 + times job v = times-cons job k v ∙ ap (λ t. one_if t + times job v) e in
        omega (arith, one, rest)
    by false e ih =
        let none : times job (k ∷ v) ≡ 0 + times job v = times-cons job k v ∙ ap (λ t. one_if t + times job v) e in
        omega (arith, none, ih)

set-times : (v : List Keyed) → ((job : Job) → times job v ≤ 1) → IsSet (jobs_in v)
set-times [] h = tt
set-times (k ∷ v) h = (times-none v k.job none, set-times v rest)
  where
    none : times k.job v ≡ 0
    none =
        let one : times k.job (k ∷ v) ≡ 1 + times k.job v = times-cons k.job k v ∙ ap (λ t. one_if t + times k.job v) (same_job-itself k.job) in
        omega (arith, one, h k.job)

    rest : (job : Job) → times job v ≤ 1
    rest job = omega (arith, times-cons job k v, h job)

pub set-permutation : (v w : List Keyed) → IsPermutation v w → IsSet (jobs_in v) → IsSet (jobs_in w)
set-permutation v w moved set =
    set-times w
    (λ job. omega (arith, sum_by-IsPermutation (λ (k : Keyed). one_if (same_job job k.job)) v w moved, times-set v set job))

-- ---- in order

module _ (o : RowOrder) where
  pub queued-in_order : (v : List Keyed) (job : Job) → is_queued (jobs_in (in_order o v)) job ≡ is_queued (jobs_in v) job
  queued-in_order [] job = refl
  queued-in_order (k ∷ v) job = added o k (in_order o v) job ∙ ap (λ t. same_job job k.job || t) (queued-in_order v job)

  pub Each-in_order : (P : Keyed → Type 0) (v : List Keyed) → Each P v → Each P (in_order o v)
  Each-in_order P [] h = tt
  Each-in_order P (k ∷ v) h = Each-with_item P o k (in_order o v) h.0 (Each-in_order P v h.1)

  pub order-permutation : (v : List Keyed) → IsPermutation (in_order o v) v
  order-permutation [] = IsPermutation-refl []
  order-permutation (k ∷ v) =
      IsPermutation-trans (with_item o k (in_order o v)) (k ∷ in_order o v) (k ∷ v) (placed (in_order o v))
      (IsPermutation-cons k (in_order o v) v (order-permutation v))
    where
      placed : (items : List Keyed) → IsPermutation (with_item o k items) (k ∷ items)
      placed [] = IsPermutation-refl (k ∷ [])
      placed (b ∷ items) = by (is_lt (keyed_cmp o k b)) (placed items)
        where
          by : (t : Bool) → IsPermutation (with_item o k items) (k ∷ items) → IsPermutation (if t then k ∷ b ∷ items else b ∷ with_item o k items) (k ∷ b ∷ items)
          by true ih = IsPermutation-refl (k ∷ b ∷ items)
          by false ih =
              IsPermutation-trans (b ∷ with_item o k items) (b ∷ k ∷ items) (k ∷ b ∷ items) (IsPermutation-cons b (with_item o k items) (k ∷ items) ih)
              (IsPermutation-middle (b ∷ []) k items)

  pub Each-from_order : (P : Keyed → Type 0) (v : List Keyed) → Each P (in_order o v) → Each P v
  Each-from_order P v h = Each-IsPermutation P (in_order o v) v (order-permutation v) h

  pub set-in_order : (v : List Keyed) → IsSet (jobs_in v) → IsSet (jobs_in (in_order o v))
  set-in_order v set = set-permutation v (in_order o v) (IsPermutation-sym (in_order o v) v (order-permutation v)) set

  pub set-from_order : (v : List Keyed) → IsSet (jobs_in (in_order o v)) → IsSet (jobs_in v)
  set-from_order v set = set-permutation (in_order o v) v (order-permutation v) set

  pub rising-in_order : (v : List Keyed) → IsSet (jobs_in v) → IsRising o (in_order o v)
  rising-in_order [] set = tt
  rising-in_order (k ∷ v) set = rising-with_item o k (in_order o v) (rising-in_order v set.1) (queued-in_order v k.job ∙ set.0)

  -- ---- one list for each set of items

  abbrev IsFrom : Keyed → Keyed → Type 0
  IsFrom a b = (b ≡ a) ⊎ (keyed_cmp o a b ≡ Less)

  from-first : (a : Keyed) (xs : List Keyed) → IsRising o (a ∷ xs) → Each (IsFrom a) (a ∷ xs)
  from-first a xs rising = (inl refl, Each-weaker (λ b. keyed_cmp o a b ≡ Less) (IsFrom a) (λ b e. inr e) xs rising.0)

  abbrev IsWithin : List Keyed → List Keyed → Type 1
  IsWithin xs ys = (P : Keyed → Type 0) → Each P ys → Each P xs

  pub rising-same : (xs ys : List Keyed) → IsRising o xs → IsRising o ys → IsWithin xs ys → IsWithin ys xs → xs ≡ ys
  rising-same [] [] rise climb in_ys in_xs = refl
  rising-same [] (y ∷ ys) rise climb in_ys in_xs = absurd ((in_xs (λ k. ⊥) tt).0)
  rising-same (x ∷ xs) [] rise climb in_ys in_xs = absurd ((in_ys (λ k. ⊥) tt).0)
  rising-same (x ∷ xs) (y ∷ ys) rise climb in_ys in_xs =
      let head : x ≡ y = meet ((in_ys (IsFrom y) (from-first y ys climb)).0) ((in_xs (IsFrom x) (from-first x xs rise)).0) in
      (λ t. head t ∷ rising-same xs ys rise.1 climb.1 (rest x y xs ys rise head in_ys) (rest y x ys xs climb (sym head) in_xs) t)
    where
      meet : IsFrom y x → IsFrom x y → x ≡ y
      meet (inl e) h = e
      meet (inr e) (inl h) = sym h
      meet (inr e) (inr h) = absurd (one_way (keyed_total o) y x e h)

      rest : (x y : Keyed) (xs ys : List Keyed) → IsRising o (x ∷ xs) → x ≡ y → IsWithin (x ∷ xs) (y ∷ ys) → IsWithin xs ys
      rest x y xs ys rise head inside P h =
          apart xs rise.0 ((inside (λ k. (P k) ⊎ (k ≡ y)) (inr refl, Each-weaker P (λ k. (P k) ⊎ (k ≡ y)) (λ k e. inl e) ys h)).1)
        where
          other : (k : Keyed) → keyed_cmp o x k ≡ Less → (P k) ⊎ (k ≡ y) → P k
          other k less (inl e) = e
          other k less (inr e) =
              let itself : keyed_cmp o x x ≡ Less = ap (keyed_cmp o x) (head ∙ sym e) ∙ less in
              absurd (one_way (keyed_total o) x x itself itself)

          apart : (zs : List Keyed) → Each (λ k. keyed_cmp o x k ≡ Less) zs → Each (λ k. (P k) ⊎ (k ≡ y)) zs → Each P zs
          apart [] less h = tt
          apart (z ∷ zs) less h = (other z less.0 h.0, apart zs less.1 h.1)

  pub same-order : (v w : List Keyed) → IsPermutation v w → IsSet (jobs_in v) → in_order o v ≡ in_order o w
  same-order v w moved set =
      rising-same (in_order o v) (in_order o w) (rising-in_order v set) (rising-in_order w (set-permutation v w moved set))
      (λ P h. Each-in_order P v (Each-IsPermutation P w v (IsPermutation-sym v w moved) (Each-from_order P w h)))
      (λ P h. Each-in_order P w (Each-IsPermutation P v w moved (Each-from_order P v h)))

  -- ---- the least comes first

  -- a key that is at most another job's is less
  pub less-than : (a b : Keyed) → same_job a.job b.job ≡ false → IsAtMost o a b → keyed_cmp o a b ≡ Less
  less-than a b other most =
      below (keyed_total o) b a (is_greater (keyed_cmp o b a) most (keys_differ o b a (same_job-sym b.job a.job ∙ other)))

  pub least-first : (a : Keyed) (v : List Keyed) → IsSet (jobs_in (a ∷ v)) → Each (IsAtMost o a) v → in_order o (a ∷ v) ≡ a ∷ in_order o v
  least-first a v set least = front (in_order o v) (Each-in_order (λ b. keyed_cmp o a b ≡ Less) v (less v set.0 least))
    where
      less : (zs : List Keyed) → is_queued (jobs_in zs) a.job ≡ false → Each (IsAtMost o a) zs → Each (λ b. keyed_cmp o a b ≡ Less) zs
      less [] absent h = tt
      less (z ∷ zs) absent h =
          let parts = or_parts (same_job a.job z.job) (is_queued (jobs_in zs) a.job) absent in
          (less-than a z parts.0 h.0, less zs parts.1 h.1)

      front : (items : List Keyed) → Each (λ b. keyed_cmp o a b ≡ Less) items → with_item o a items ≡ a ∷ items
      front [] h = refl
      front (b ∷ items) h = ap (λ r. if is_lt r then a ∷ b ∷ items else b ∷ with_item o a items) h.0
