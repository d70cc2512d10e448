-- The least job of a list is the first of a queue that has the same jobs.
use Rattle.std.proofs.Common.{◌≡◌, ℕ, ◌⊎◌, inl, inr, ◌||◌, Bool, true, false, List, [], ◌∷◌, if◌then◌else◌, refl, sym, ap, ◌∙◌}
use Rattle.std.proofs.Common.{Less, is_lt}
use Rattle.std.proofs.lemmas.Bool.{or_cases, or_right}
use Rattle.std.specs.Ordering.{nat_cmp, ordering_then}
use Rattle.monomials.specs.Orders.{order_cmp}
use Rattle.monomials.specs.Polynomials.{Polynomial, Each}
use Rattle.word_model.specs.Words.{Algebra}
use Rattle.word_model.specs.Jobs.{same_job, is_queued, key_cmp, rank_of, rank_cmp, least_job}
use Rattle.word_model.specs.declared.records.Job.{Job}
use Rattle.pair_strategy.specs.Queues.{keyed_cmp, jobs_in, IsRising, HasKey, SameJobs}
use Rattle.pair_strategy.specs.declared.keys.Keyed.{Keyed}
use Rattle.word_model.proofs.JobOrder.{key_total}
use Rattle.word_model.proofs.JobLists.{same_job-is, same_job-itself}
use Rattle.word_model.proofs.Ranks.{less_is}
use Rattle.pair_strategy.proofs.Ordered.{one_way}

-- what holds of each job that a list has
pub Each-queued : (P : Job → Type 0) (jobs : List Job) → ((job : Job) → is_queued jobs job ≡ true → P job) → Each P jobs
Each-queued P [] h = tt
Each-queued P (job ∷ jobs) h =
    (h job (ap (λ t. t || is_queued jobs job) (same_job-itself job)), Each-queued P jobs (λ other e. h other (or_right (same_job other job) (is_queued jobs other) e)))

module _ (A : Algebra) (gens G : List Polynomial) (sugars : List ℕ) where
  -- a job that is `first`, or has a greater key
  abbrev IsLater : Job → Job → Type 0
  IsLater first job = (job ≡ first) ⊎ (key_cmp A gens G sugars first job ≡ Less)

  -- a scan for the least job ends with the one that all others are later than
  scan : (first job : Job) (jobs : List Job) → Each (IsLater first) (job ∷ jobs) → is_queued (job ∷ jobs) first ≡ true → least_job A gens G sugars job jobs ≡ first
  scan first job [] later there = by (or_cases (same_job first job) false there)
    where
      by : (same_job first job ≡ true) ⊎ (false ≡ true) → job ≡ first
      by (inl e) = sym (same_job-is first job e)
      by (inr e) = cc
  scan first job (other ∷ jobs) later there = by (is_lt (key_cmp A gens G sugars other job)) refl (scan first other jobs later.1) (scan first job jobs (later.0, later.1.1))
    where
      one : is_lt (key_cmp A gens G sugars other job) ≡ true → (same_job first job ≡ true) ⊎ (is_queued (other ∷ jobs) first ≡ true) → IsLater first other
          → is_queued (other ∷ jobs) first ≡ true
      one e (inr h) is = h
      one e (inl h) (inl is) =
          ap (λ t. t || is_queued jobs first) (ap (same_job first) is ∙ same_job-itself first)
      one e (inl h) (inr less) =
          let here : first ≡ job = same_job-is first job h in
          absurd (one_way (key_total A gens G sugars) first other less (ap (key_cmp A gens G sugars other) here ∙ less_is (key_cmp A gens G sugars other job) e))

      another : is_lt (key_cmp A gens G sugars other job) ≡ false → (same_job first job ≡ true) ⊎ (is_queued (other ∷ jobs) first ≡ true) → IsLater first job
          → is_queued (job ∷ jobs) first ≡ true
      another e (inl h) is = ap (λ t. t || is_queued jobs first) h
      another e (inr h) is = or_there (or_cases (same_job first other) (is_queued jobs first) h) is
        where
          or_there : (same_job first other ≡ true) ⊎ (is_queued jobs first ≡ true) → IsLater first job → is_queued (job ∷ jobs) first ≡ true
          or_there (inr behind) is = or_right (same_job first job) (is_queued jobs first) behind
          or_there (inl same) (inl is) = ap (λ t. t || is_queued jobs first) (ap (same_job first) is ∙ same_job-itself first)
          or_there (inl same) (inr less) =
              let here : first ≡ other = same_job-is first other same in
              let no : true ≡ false = sym (ap is_lt less) ∙ ap (λ j. is_lt (key_cmp A gens G sugars j job)) here ∙ e in
              cc

      by : (t : Bool) → is_lt (key_cmp A gens G sugars other job) ≡ t
          → (is_queued (other ∷ jobs) first ≡ true → least_job A gens G sugars other jobs ≡ first)
          → (is_queued (job ∷ jobs) first ≡ true → least_job A gens G sugars job jobs ≡ first)
          → least_job A gens G sugars (if t then other else job) jobs ≡ first
      by true e with_other with_job = with_other (one e (or_cases (same_job first job) (is_queued (other ∷ jobs) first) there) later.1.0)
      by false e with_other with_job = with_job (another e (or_cases (same_job first job) (is_queued (other ∷ jobs) first) there) later.0)

  -- keys by their sugars and monomials are the keys of the jobs
  keyed_is : (a b : Keyed) → HasKey A gens G sugars a → HasKey A gens G sugars b → keyed_cmp A.order a b ≡ key_cmp A gens G sugars a.job b.job
  keyed_is a b ka kb =
      λ t. ordering_then (nat_cmp (ka.0 t) (kb.0 t)) (ordering_then (order_cmp A.order.rows (ka.1 t) (kb.1 t)) (rank_cmp (rank_of a.job) (rank_of b.job)))

  -- the jobs behind the first have greater keys
  behind : (first : Keyed) (rest : List Keyed) (job : Job) → HasKey A gens G sugars first → Each (HasKey A gens G sugars) rest → Each (λ b. keyed_cmp A.order first b ≡ Less) rest
      → is_queued (jobs_in rest) job ≡ true → key_cmp A gens G sugars first.job job ≡ Less
  behind first [] job key keys less e = cc
  behind first (b ∷ rest) job key keys less e =
      by (or_cases (same_job job b.job) (is_queued (jobs_in rest) job) e) (behind first rest job key keys.1 less.1)
    where
      by : (same_job job b.job ≡ true) ⊎ (is_queued (jobs_in rest) job ≡ true) → (is_queued (jobs_in rest) job ≡ true → key_cmp A gens G sugars first.job job ≡ Less)
          → key_cmp A gens G sugars first.job job ≡ Less
      by (inl here) ih = ap (key_cmp A gens G sugars first.job) (same_job-is job b.job here) ∙ sym (keyed_is first b key keys.0) ∙ less.0
      by (inr later) ih = ih later

  pub least_is_first : (first : Keyed) (rest : List Keyed) (job : Job) (jobs : List Job) → IsRising A.order (first ∷ rest) → Each (HasKey A gens G sugars) (first ∷ rest)
      → SameJobs (job ∷ jobs) (jobs_in (first ∷ rest)) → least_job A gens G sugars job jobs ≡ first.job
  least_is_first first rest job jobs rising keys same =
      scan first.job job jobs (Each-queued (IsLater first.job) (job ∷ jobs) later) (same first.job ∙ ap (λ t. t || is_queued (jobs_in rest) first.job) (same_job-itself first.job))
    where
      by : (other : Job) → (same_job other first.job ≡ true) ⊎ (is_queued (jobs_in rest) other ≡ true) → IsLater first.job other
      by other (inl here) = inl (same_job-is other first.job here)
      by other (inr there) = inr (behind first rest other keys.0 keys.1 rising.0 there)

      later : (other : Job) → is_queued (job ∷ jobs) other ≡ true → IsLater first.job other
      later other e = by other (or_cases (same_job other first.job) (is_queued (jobs_in rest) other) (sym (same other) ∙ e))
