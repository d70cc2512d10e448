-- A queue as code keeps it.
use Rattle.std.specs.Prelude.{◌≡◌, ◌⊎◌, ◌-◌, List, [], ◌∷◌, length, vec_len, vec_capacity}
use Rattle.monomials.specs.Orders.{RowOrder}
use Rattle.monomials.specs.Polynomials.{Each}
use Rattle.word_model.specs.Jobs.{is_queued, IsJob}
use Rattle.word_model.specs.declared.records.Job.{Job}
use Rattle.pair_strategy.specs.Queues.{JobQueue, jobs_in, with_item, IsQueue}
use Rattle.pair_strategy.specs.Inside.Heaps.{IsTree}
use Rattle.pair_strategy.specs.Inside.Marks.{is_marked}
use Rattle.pair_strategy.specs.declared.keys.Keyed.{Keyed}
use Rattle.pair_strategy.specs.declared.queue.Queue.TheInside.{Inside}

-- items in the order of their keys
abbrev pub in_order : RowOrder → List Keyed → List Keyed
in_order o [] = []
in_order o (k ∷ items) = with_item o k (in_order o items)

-- what code has room for beyond its items is spare
abbrev pub kept_queue : Inside → JobQueue
kept_queue q = record { order = q.order; items = in_order q.order q.items.items; spare = vec_capacity q.items - vec_len q.items }

-- the items are a heap of jobs that have bits, and the bits say which jobs these are; they are made before there is room
pub record IsKept (q : Inside) : Type 0 where
  pub queue : IsQueue (kept_queue q)
  pub tree : IsTree q.order q.items.items (length q.items.items)
  pub numbers : Each (λ k. IsJob 4096 2048 16 k.job) q.items.items
  pub marks : (job : Job) → IsJob 4096 2048 16 job → is_marked q.marks.words.items job ≡ is_queued (jobs_in q.items.items) job
  pub made : (vec_capacity q.items ≡ 0) ⊎ (length q.marks.words.items ≡ 33393)
  pub sized : (length q.marks.words.items ≡ 0) ⊎ (length q.marks.words.items ≡ 33393)
