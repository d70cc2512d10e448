-- Queues of jobs, as lists in the order of their keys.
use Rattle.std.specs.Prelude.{◌≡◌, ℕ, ◌-◌, ◌/◌, ◌≤◌, false, List, [], ◌∷◌, length, get_or, map, if◌then◌else◌}
use Rattle.std.specs.declared.cmp.Ordering.{Ordering}
use Rattle.std.specs.declared.cmp.Ordering.TheVariants.{Less}
use Rattle.std.specs.Ordering.{nat_cmp, ordering_then, is_lt}
use Rattle.monomials.specs.Orders.{RowOrder, order_cmp}
use Rattle.monomials.specs.Polynomials.{Polynomial, Each}
use Rattle.word_model.specs.Words.{Algebra}
use Rattle.word_model.specs.Jobs.{is_queued, job_sugar, key_monomial, rank_of, rank_cmp}
use Rattle.word_model.specs.declared.records.Job.{Job}
use Rattle.pair_strategy.specs.declared.keys.Keyed.{Keyed}

-- a queue: its order of monomials, its jobs with their sugars and monomials in rising order of keys, and how many more find room
pub record JobQueue : Type 0 where
  pub order : RowOrder
  pub items : List Keyed
  pub spare : ℕ

-- the order of keys: by their sugars, then by their monomials, and then by rank
abbrev pub keyed_cmp : RowOrder → Keyed → Keyed → Ordering
keyed_cmp o a b =
    ordering_then (nat_cmp a.sugar b.sugar) (ordering_then (order_cmp o.rows a.mono b.mono) (rank_cmp (rank_of a.job) (rank_of b.job)))

-- the jobs without their sugars and monomials
abbrev pub jobs_in : List Keyed → List Job
jobs_in items = map (λ k. k.job) items

-- the list with one more, in front of those of greater keys
abbrev pub with_item : RowOrder → Keyed → List Keyed → List Keyed
with_item o a [] = a ∷ []
with_item o a (b ∷ items) = if is_lt (keyed_cmp o a b) then a ∷ b ∷ items else b ∷ with_item o a items

-- the keys rise: each is less than all behind it
abbrev pub IsRising : RowOrder → List Keyed → Type 0
IsRising o [] = Unit {0}
IsRising o (a ∷ items) = Each (λ b. keyed_cmp o a b ≡ Less) items × IsRising o items

-- the items are a heap: from the second on, the key of the item number k is greater than that of the one number k / 2
abbrev pub IsHeap : RowOrder → List Keyed → Type 0
IsHeap o items = (k : ℕ) (d : Keyed) → 2 ≤ k → k ≤ length items → keyed_cmp o (get_or items (k / 2 - 1) d) (get_or items (k - 1) d) ≡ Less

-- no job stands twice
abbrev pub IsSet : List Job → Type 0
IsSet [] = Unit {0}
IsSet (job ∷ jobs) = (is_queued jobs job ≡ false) × IsSet jobs

-- what every queue has: its keys rise, no job stands twice, and monomials have an exponent for each variable of the order
pub record IsQueue (q : JobQueue) : Type 0 where
  pub rising : IsRising q.order q.items
  pub set : IsSet (jobs_in q.items)
  pub vars : Each (λ k. length k.mono ≡ q.order.vars) q.items

-- the sugar and the monomial are those of the job's key
abbrev pub HasKey : Algebra → List Polynomial → List Polynomial → List ℕ → Keyed → Type 0
HasKey A gens G sugars k = (k.sugar ≡ job_sugar gens G sugars k.job) × (k.mono ≡ key_monomial A gens G k.job)

-- two lists have the same jobs
abbrev pub SameJobs : List Job → List Job → Type 0
SameJobs jobs others = (job : Job) → is_queued jobs job ≡ is_queued others job
