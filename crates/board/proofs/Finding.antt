-- The index of slots, with a job more and a job less.
use Rattle.std.proofs.Common.{inl, inr, map, ℕ, zero, suc, Bool, true, false, ◌≡◌, ◌≢◌, ◌≤◌, ◌<◌, ◌+◌, ◌++◌, ◌||◌, Option, Some, None, List, [], ◌∷◌, length, slice_index_or, slice_set, refl, ap, sym, ◌∙◌, arith}
use Rattle.std.specs.Ordering.{nat_cmp, ordering_then, is_eq}
use Rattle.std.specs.declared.cmp.Ordering.{Ordering}
use Rattle.std.specs.declared.cmp.Ordering.TheVariants.{Less, Equal, Greater}
use Rattle.std.proofs.lemmas.Cmp.{tied_itself, nat_cmp_total}
use Rattle.std.proofs.lemmas.Map.Lookups.{exact_unsigned}
use Rattle.std.proofs.lemmas.Bool.{cases_lt}
use Rattle.std.proofs.lemmas.List.{length-append, length-map, get_or-map}
use Rattle.monomials.specs.Polynomials.{Each}
use Rattle.word_model.specs.declared.records.Job.{Job}
use Rattle.word_model.specs.declared.records.Job.TheVariants.{Seed, Pair, Right}
use Rattle.word_model.specs.declared.events.Standing.TheVariants.{Offered, Taken}
use Rattle.word_model.specs.Jobs.{same_job, is_queued}
use Rattle.word_model.proofs.JobLists.{same_job-is, same_job-itself}
use Rattle.board.specs.declared.slots.Slot.{Slot}
use Rattle.board.specs.Slots.{Key, key, key_cmp, Finds, IsNew, NoneOffered}
use Rattle.board.proofs.Boards.{at-snoc, before-snoc}

-- ---- keys

-- jobs with the same key are the same
pub key-is : (a b : Job) → key a ≡ key b → a ≡ b
key-is (Seed s) (Seed t) e = ap Seed (ap (λ (p : Key). p.1) e)
key-is (Seed s) (Pair k l) e = absurd (let no : 0 ≡ 1 = ap (λ (p : Key). p.0) e in omega arith)
key-is (Seed s) (Right k w) e = absurd (let no : 0 ≡ 2 = ap (λ (p : Key). p.0) e in omega arith)
key-is (Pair i j) (Seed t) e = absurd (let no : 1 ≡ 0 = ap (λ (p : Key). p.0) e in omega arith)
key-is (Pair i j) (Pair k l) e = ap (λ (p : Key). Pair p.1 p.2) e
key-is (Pair i j) (Right k w) e = absurd (let no : 1 ≡ 2 = ap (λ (p : Key). p.0) e in omega arith)
key-is (Right i v) (Seed t) e = absurd (let no : 2 ≡ 0 = ap (λ (p : Key). p.0) e in omega arith)
key-is (Right i v) (Pair k l) e = absurd (let no : 2 ≡ 1 = ap (λ (p : Key). p.0) e in omega arith)
key-is (Right i v) (Right k w) e = ap (λ (p : Key). Right p.1 p.2) e

then-equal : (a b : Ordering) → ordering_then a b ≡ Equal → (a ≡ Equal) × (b ≡ Equal)
then-equal Less b e = absurd (let no : Less ≡ Equal = e in cc)
then-equal Equal b e = (refl, e)
then-equal Greater b e = absurd (let no : Greater ≡ Equal = e in cc)

equal : (o : Ordering) → is_eq o ≡ true → o ≡ Equal
equal Less e = absurd (let no : false ≡ true = e in cc)
equal Equal e = refl
equal Greater e = absurd (let no : false ≡ true = e in cc)

-- keys that compare as equal are the same
same_key : (p q : Key) → is_eq (key_cmp p q) ≡ true → p ≡ q
same_key (a, b, c) (x, y, z) e =
    let o = then-equal (ordering_then (nat_cmp a x) (nat_cmp b y)) (nat_cmp c z) (equal _ e) in
    let u = then-equal (nat_cmp a x) (nat_cmp b y) o.0 in
    let first : a ≡ x = exact_unsigned a x u.0 in
    let second : b ≡ y = exact_unsigned b y u.1 in
    let third : c ≡ z = exact_unsigned c z o.1 in
    rw (first, second, third) refl

itself : (p : Key) → is_eq (key_cmp p p) ≡ true
itself (a, b, c) = rw (tied_itself nat_cmp_total a, tied_itself nat_cmp_total b, tied_itself nat_cmp_total c) refl

other_key : (p q : Key) → (p ≡ q → ⊥) → is_eq (key_cmp p q) ≡ false
other_key p q ne = by (is_eq (key_cmp p q)) refl
  where
    by : (t : Bool) → is_eq (key_cmp p q) ≡ t → is_eq (key_cmp p q) ≡ false
    by true is = absurd (ne (same_key p q is))
    by false is = is

-- ---- a job more, and a job less

module _ (f g : Key → Option ℕ) (jobs : List Job) (job : Job) where
  long : length (jobs ++ job ∷ []) ≡ length jobs + 1
  long = length-append jobs (job ∷ [])

  -- where nothing is found at the job's key, no job at a place has that key
  apart : (k : ℕ) (d : Job) → Finds f jobs → f (key job) ≡ None → k < length jobs → key job ≡ key (slice_index_or jobs k d) → ⊥
  apart k d finds fresh inside e = let no : None ≡ Some k = sym fresh ∙ ap f e ∙ finds.there k d inside in cc

  pub finds-more : Finds f jobs → f (key job) ≡ None → g (key job) ≡ Some (length jobs)
      → ((q : Key) → is_eq (key_cmp (key job) q) ≡ false → g q ≡ f q) → Finds g (jobs ++ job ∷ [])
  finds-more finds fresh here others =
      record {
        there = λ k d inside. elim (cases_lt k (length jobs)) [
          | inl below ↦
              ap (λ j. g (key j)) (before-snoc jobs job d k below)
              ∙ others (key (slice_index_or jobs k d)) (other_key (key job) _ (apart k d finds fresh below))
              ∙ finds.there k d below
          | inr out ↦
              let e : k ≡ length jobs = omega (arith, long) in
              ap (λ m. g (key (slice_index_or (jobs ++ job ∷ []) m d))) e ∙ ap (λ j. g (key j)) (at-snoc jobs job d) ∙ here ∙ ap Some (sym e)
        ];
        only = λ p k is. found p k is (is_eq (key_cmp (key job) p)) refl;
      }
    where
      found : (p : Key) (k : ℕ) → g p ≡ Some k → (t : Bool) → is_eq (key_cmp (key job) p) ≡ t → (k < length (jobs ++ job ∷ [])) × ((d : Job) → key (slice_index_or (jobs ++ job ∷ []) k d) ≡ p)
      found p k is true t =
          let same : key job ≡ p = same_key (key job) p t in
          let some : Some (length jobs) ≡ Some k = sym here ∙ ap g same ∙ is in
          let e : length jobs ≡ k = cc in
          (omega (arith, long), λ d. ap (λ m. key (slice_index_or (jobs ++ job ∷ []) m d)) (sym e) ∙ ap key (at-snoc jobs job d) ∙ same)
      found p k is false t =
          let old = finds.only p k (sym (others p t) ∙ is) in
          (omega (arith, long, old.0), λ d. ap key (before-snoc jobs job d k old.0) ∙ old.1 d)

  pub finds-less : Finds f (jobs ++ job ∷ []) → g (key job) ≡ None → ((q : Key) → is_eq (key_cmp (key job) q) ≡ false → g q ≡ f q) → Finds g jobs
  finds-less finds gone others =
      record {
        there = λ k d inside.
            let old : f (key (slice_index_or jobs k d)) ≡ Some k = ap (λ j. f (key j)) (sym (before-snoc jobs job d k inside)) ∙ finds.there k d (omega (arith, long)) in
            others (key (slice_index_or jobs k d)) (other_key (key job) _ (λ e.
            let last : f (key job) ≡ Some (length jobs) = ap (λ j. f (key j)) (sym (at-snoc jobs job d)) ∙ finds.there (length jobs) d (omega (arith, long)) in
            let both : Some (length jobs) ≡ Some k = sym last ∙ ap f e ∙ old in
            let same : length jobs ≡ k = cc in
            omega (arith, same, inside))) ∙ old;
        only = λ p k is. found p k is (is_eq (key_cmp (key job) p)) refl;
      }
    where
      found : (p : Key) (k : ℕ) → g p ≡ Some k → (t : Bool) → is_eq (key_cmp (key job) p) ≡ t → (k < length jobs) × ((d : Job) → key (slice_index_or jobs k d) ≡ p)
      found p k is true t = absurd (let no : None ≡ Some k = sym gone ∙ ap g (same_key (key job) p t) ∙ is in cc)
      found p k is false t =
          let old = finds.only p k (sym (others p t) ∙ is) in
          let below : k < length jobs =
          elim (cases_lt k (length jobs)) [
            | inl below ↦ below
            | inr out ↦
                let e : k ≡ length jobs = omega (arith, long, old.0) in
                let same : key job ≡ p = ap key (sym (at-snoc jobs job job)) ∙ ap (λ m. key (slice_index_or (jobs ++ job ∷ []) m job)) (sym e) ∙ old.1 job in
                absurd (let no : false ≡ true = sym t ∙ ap (λ q. is_eq (key_cmp (key job) q)) (sym same) ∙ itself (key job) in cc)
          ] in
          (below, λ d. ap key (sym (before-snoc jobs job d k below)) ∙ old.1 d)

-- the other jobs are still not found
pub fresh-left : (f g : Key → Option ℕ) (job : Job) (others : List Job) → is_queued others job ≡ false → ((q : Key) → is_eq (key_cmp (key job) q) ≡ false → g q ≡ f q)
    → Each (λ j. f (key j) ≡ None) others → Each (λ j. g (key j) ≡ None) others
fresh-left f g job [] out same h = tt
fresh-left f g job (j ∷ others) out same h =
    let both : (same_job job j ≡ false) × (is_queued others job ≡ false) = neither (same_job job j) (is_queued others job) out in
    let apart : key job ≡ key j → ⊥ = λ e. let no : true ≡ false = sym (same_job-itself job) ∙ ap (same_job job) (key-is job j e) ∙ both.0 in cc in
    (same (key j) (other_key (key job) (key j) apart) ∙ h.0, fresh-left f g job others both.1 same h.1)
  where
    neither : (x y : Bool) → (x || y) ≡ false → (x ≡ false) × (y ≡ false)
    neither true y e = cc
    neither false y e = (refl, e)

-- ---- slots

abbrev job_of : Slot → Job
job_of x = x.job

module _ (at : Key → Option ℕ) (slots : List Slot) (finds : Finds at (map (λ (x : Slot). x.job) slots)) where
  inside : (k : ℕ) → k < length (map job_of slots) → k < length slots
  inside k below = omega (arith, below, length-map slots job_of)

  -- what is found is the first place of the job
  pub found : (j : Job) (k : ℕ) → at (key j) ≡ Some k
      → (k < length slots) × ((d : Slot) → same_job (slice_index_or slots k d).job j ≡ true) × ((m : ℕ) (d : Slot) → m < k → same_job (slice_index_or slots m d).job j ≡ false)
  found j k is =
      let there = finds.only (key j) k is in
      let below : k < length slots = inside k there.0 in
      let here : (d : Slot) → (slice_index_or slots k d).job ≡ j =
      λ d. sym (get_or-map job_of slots k d d.job below) ∙ key-is _ j (there.1 d.job) in
      (below, λ d. ap (λ z. same_job z j) (here d) ∙ same_job-itself j, λ m d before. unless m d (omega (arith, before, below)) k (λ e. omega (arith, e, before)) is)
    where
      unless : (m : ℕ) (d : Slot) → m < length slots → (k : ℕ) → (m ≡ k → ⊥) → at (key j) ≡ Some k → same_job (slice_index_or slots m d).job j ≡ false
      unless m d within k ne is = by (same_job (slice_index_or slots m d).job j) refl
        where
          by : (t : Bool) → same_job (slice_index_or slots m d).job j ≡ t → same_job (slice_index_or slots m d).job j ≡ false
          by true t =
              let e : slice_index_or (map job_of slots) m d.job ≡ j = get_or-map job_of slots m d d.job within ∙ same_job-is (slice_index_or slots m d).job j t in
              let both : Some m ≡ Some k = sym (finds.there m d.job (omega (arith, within, length-map slots job_of))) ∙ ap (λ z. at (key z)) e ∙ is in
              let same : m ≡ k = cc in
              absurd (ne same)
          by false t = t

  -- where nothing is found, no slot has the job
  pub not_found : (j : Job) → at (key j) ≡ None → IsNew slots j
  not_found j none m d within = by (same_job (slice_index_or slots m d).job j) refl
    where
      by : (t : Bool) → same_job (slice_index_or slots m d).job j ≡ t → same_job (slice_index_or slots m d).job j ≡ false
      by true t =
          let e : slice_index_or (map job_of slots) m d.job ≡ j = get_or-map job_of slots m d d.job within ∙ same_job-is (slice_index_or slots m d).job j t in
          let no : None ≡ Some m = sym none ∙ ap (λ z. at (key z)) (sym e) ∙ finds.there m d.job (omega (arith, within, length-map slots job_of)) in
          cc
      by false t = t

  -- and the other way round
  pub new_found : (j : Job) → IsNew slots j → at (key j) ≡ None
  new_found j new = by (at (key j)) refl
    where
      by : (r : Option ℕ) → at (key j) ≡ r → at (key j) ≡ None
      by None is = is
      by (Some k) is =
          let f = found j k is in
          let d : Slot = record { job = j; standing = Taken } in
          absurd (let no : true ≡ false = sym (f.1 d) ∙ new k d f.0 in cc)

  pub all_new : (jobs : List Job) → Each (IsNew slots) jobs → Each (λ j. at (key j) ≡ None) jobs
  all_new [] new = tt
  all_new (j ∷ jobs) new = (new_found j new.0, all_new jobs new.1)

-- ---- which slots stand offered

none-set_by : (Q : ℕ → Type 0) (xs : List Slot) (k : ℕ) (y : Slot) → y.standing ≢ Offered → ((m : ℕ) (d : Slot) → Q m → (slice_index_or xs m d).standing ≢ Offered)
    → (m : ℕ) (d : Slot) → Q m → (slice_index_or (slice_set xs k y) m d).standing ≢ Offered
none-set_by Q [] k y ne none m d q = none m d q
none-set_by Q (x ∷ xs) zero y ne none zero d q = ne
none-set_by Q (x ∷ xs) zero y ne none (suc m) d q = none (suc m) d q
none-set_by Q (x ∷ xs) (suc k) y ne none zero d q = none zero d q
none-set_by Q (x ∷ xs) (suc k) y ne none (suc m) d q = none-set_by (λ n. Q (suc n)) xs k y ne (λ n e r. none (suc n) e r) m d q

pub none-set : (place : ℕ) (xs : List Slot) (k : ℕ) (y : Slot) → y.standing ≢ Offered → NoneOffered place xs → NoneOffered place (slice_set xs k y)
none-set place xs k y ne none = none-set_by (λ m. m < place) xs k y ne none

before-append : (xs ys : List Slot) (d : Slot) (m : ℕ) → m < length xs → slice_index_or (xs ++ ys) m d ≡ slice_index_or xs m d
before-append [] ys d m below = absurd (omega arith)
before-append (x ∷ xs) ys d zero below = refl
before-append (x ∷ xs) ys d (suc m) below = before-append xs ys d m (omega arith)

pub none-append : (place : ℕ) (xs ys : List Slot) → place ≤ length xs → NoneOffered place xs → NoneOffered place (xs ++ ys)
none-append place xs ys inside none m d below is =
    none m d below (ap (λ (x : Slot). x.standing) (sym (before-append xs ys d m (omega arith))) ∙ is)

-- slots of these jobs, all offered
pub jobs_of-slots : (jobs : List Job) → map (λ (x : Slot). x.job) (map {B = Slot} (λ j. record { job = j; standing = Offered }) jobs) ≡ jobs
jobs_of-slots [] = refl
jobs_of-slots (j ∷ jobs) = ap (λ js. j ∷ js) (jobs_of-slots jobs)
