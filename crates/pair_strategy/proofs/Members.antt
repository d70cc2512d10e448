-- Which jobs a list has.
use Rattle.std.proofs.Common.{◌≡◌, ℕ, zero, suc, ◌||◌, ◌&&◌, not, Bool, true, false, List, [], ◌∷◌, ◌++◌, length, if◌then◌else◌, reverse, nat_lt, refl, sym, ap, ◌∙◌, subst}
use Rattle.std.proofs.lemmas.Bool.{or_parts}
use Rattle.std.specs.Ordering.{is_lt}
use Rattle.gpoly.proofs.Lists.{reverse-cons}
use Rattle.monomials.specs.Orders.{RowOrder}
use Rattle.monomials.specs.Polynomials.{Polynomial}
use Rattle.word_model.specs.Reduction.{least_number}
use Rattle.word_model.specs.Jobs.{same_job, is_queued, without, pair_queued, is_witness, chain_witness}
use Rattle.word_model.specs.declared.records.Job.{Job}
use Rattle.word_model.specs.declared.records.Job.TheVariants.{Seed, Pair, Right}
use Rattle.pair_strategy.specs.Queues.{keyed_cmp, jobs_in, with_item, IsSet, SameJobs}
use Rattle.pair_strategy.specs.declared.keys.Keyed.{Keyed}
use Rattle.word_model.proofs.JobLists.{same_job-is, same_job-itself}

-- ---- truth values

or_third : (a b c : Bool) → (b || (a || c)) ≡ (a || (b || c))
or_third true true c = refl
or_third true false c = refl
or_third false b c = refl

or_commutes : (a b : Bool) → (a || b) ≡ (b || a)
or_commutes true true = refl
or_commutes true false = refl
or_commutes false true = refl
or_commutes false false = refl

-- answers that imply each other are the same
alike : (a b : Bool) → (a ≡ true → b ≡ true) → (b ≡ true → a ≡ true) → a ≡ b
alike true b f g = sym (f refl)
alike false true f g = g refl
alike false false f g = refl

-- ---- one more

pub added : (o : RowOrder) (k : Keyed) (items : List Keyed) (job : Job)
    → is_queued (jobs_in (with_item o k items)) job ≡ (same_job job k.job || is_queued (jobs_in items) job)
added o k [] job = refl
added o k (b ∷ items) job = by (is_lt (keyed_cmp o k b)) (added o k items job)
  where
    by : (t : Bool) → is_queued (jobs_in (with_item o k items)) job ≡ (same_job job k.job || is_queued (jobs_in items) job)
        → is_queued (jobs_in (if t then k ∷ b ∷ items else b ∷ with_item o k items)) job ≡ (same_job job k.job || is_queued (jobs_in (b ∷ items)) job)
    by true ih = refl
    by false ih =
        ap (λ t. same_job job b.job || t) ih ∙ or_third (same_job job k.job) (same_job job b.job) (is_queued (jobs_in items) job)

-- the order of the list does not matter
pub queued-reverse : (items : List Keyed) (job : Job) → is_queued (jobs_in (reverse items)) job ≡ is_queued (jobs_in items) job
queued-reverse [] job = refl
queued-reverse (k ∷ items) job =
    ap (λ list. is_queued (jobs_in list) job) (reverse-cons k items)
    ∙ end (reverse items)
    ∙ ap (λ t. same_job job k.job || t) (queued-reverse items job)
  where
    end : (list : List Keyed) → is_queued (jobs_in (list ++ k ∷ [])) job ≡ (same_job job k.job || is_queued (jobs_in list) job)
    end [] = refl
    end (b ∷ list) = ap (λ t. same_job job b.job || t) (end list) ∙ or_third (same_job job k.job) (same_job job b.job) (is_queued (jobs_in list) job)

-- ---- sets

pub same_job-sym : (a b : Job) → same_job a b ≡ same_job b a
same_job-sym a b = alike (same_job a b) (same_job b a) (turn a b) (turn b a)
  where
    turn : (a b : Job) → same_job a b ≡ true → same_job b a ≡ true
    turn a b e = subst (λ job. same_job job a ≡ true) (same_job-is a b e) (same_job-itself a)

-- a job that was not there keeps the list a set
pub set-with_item : (o : RowOrder) (k : Keyed) (items : List Keyed) → IsSet (jobs_in items) → is_queued (jobs_in items) k.job ≡ false
    → IsSet (jobs_in (with_item o k items))
set-with_item o k [] set absent = (refl, tt)
set-with_item o k (b ∷ items) set absent =
    let parts = or_parts (same_job k.job b.job) (is_queued (jobs_in items) k.job) absent in
    by (is_lt (keyed_cmp o k b)) parts.0 (set-with_item o k items set.1 parts.1)
  where
    by : (t : Bool) → same_job k.job b.job ≡ false → IsSet (jobs_in (with_item o k items))
        → IsSet (jobs_in (if t then k ∷ b ∷ items else b ∷ with_item o k items))
    by true other ih = (absent, set)
    by false other ih =
        let still : (same_job b.job k.job || is_queued (jobs_in items) b.job) ≡ false =
        ap (λ t. t || is_queued (jobs_in items) b.job) (same_job-sym b.job k.job ∙ other) ∙ set.0 in
        (added o k items b.job ∙ still, ih)

-- what is queued after a job has left
queued-without : (gone job : Job) (jobs : List Job) → is_queued (without gone jobs) job ≡ (not (same_job gone job) && is_queued jobs job)
queued-without gone job [] = never (not (same_job gone job))
  where
    never : (a : Bool) → false ≡ (a && false)
    never true = refl
    never false = refl
queued-without gone job (other ∷ jobs) = by (same_job gone other) refl (same_job job other) refl (queued-without gone job jobs)
  where
    by : (t : Bool) → same_job gone other ≡ t → (s : Bool) → same_job job other ≡ s
        → is_queued (without gone jobs) job ≡ (not (same_job gone job) && is_queued jobs job)
        → is_queued (if not t then other ∷ without gone jobs else without gone jobs) job ≡ (not (same_job gone job) && (same_job job other || is_queued jobs job))
    by true e true h ih =
        let same : gone ≡ job = same_job-is gone other e ∙ sym (same_job-is job other h) in
        let here : same_job gone job ≡ true = ap (same_job gone) (sym same) ∙ same_job-itself gone in
        rw (h, here) (ih ∙ rw here refl)
    by true e false h ih = rw h ih
    by false e true h ih =
        let same : job ≡ other = same_job-is job other h in
        let here : same_job gone job ≡ false = ap (same_job gone) same ∙ e in
        rw (h, here) refl
    by false e false h ih = rw h ih

-- the first of a set, taken away, leaves the rest
pub taken : (first : Keyed) (rest : List Keyed) (jobs : List Job) → IsSet (jobs_in (first ∷ rest)) → SameJobs jobs (jobs_in (first ∷ rest))
    → SameJobs (without first.job jobs) (jobs_in rest)
taken first rest jobs set same job =
    queued-without first.job job jobs
    ∙ ap (λ t. not (same_job first.job job) && t) (same job)
    ∙ by (same_job first.job job) refl
  where
    by : (t : Bool) → same_job first.job job ≡ t → (not t && (same_job job first.job || is_queued (jobs_in rest) job)) ≡ is_queued (jobs_in rest) job
    by true e =
        let is : first.job ≡ job = same_job-is first.job job e in
        sym (ap (is_queued (jobs_in rest)) (sym is) ∙ set.0)
    by false e = ap (λ t. t || is_queued (jobs_in rest) job) (same_job-sym job first.job ∙ e)

-- ---- the chain rule

-- two tests that agree find the same
least-alike : (test other : ℕ → Bool) → ((x : ℕ) → test x ≡ other x) → (i k : ℕ) → least_number test i k ≡ least_number other i k
least-alike test other e i zero = refl
least-alike test other e i (suc k) = rw (e i, least-alike test other e (suc i) k) refl

pub witness-same : (G : List Polynomial) (jobs others : List Job) (job : Job) → SameJobs jobs others → chain_witness G jobs job ≡ chain_witness G others job
unfolding chain_witness
witness-same G jobs others (Seed s) same = refl
witness-same G jobs others (Right i v) same = refl
witness-same G jobs others (Pair i j) same = least-alike (is_witness G jobs i j) (is_witness G others i j) at 1 (length G)
  where
    at : (k : ℕ) → is_witness G jobs i j k ≡ is_witness G others i j k
    at k =
        let with_i : pair_queued jobs k i ≡ pair_queued others k i = same (if nat_lt k i then Pair k i else Pair i k) in
        let with_j : pair_queued jobs k j ≡ pair_queued others k j = same (if nat_lt k j then Pair k j else Pair j k) in
        rw (with_i, with_j) refl
