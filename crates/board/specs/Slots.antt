-- How the fields of slots stand to each other. Private contracts and models alone cite this.
use Rattle.std.specs.Prelude.{ℕ, false, ◌≡◌, ◌≢◌, ◌<◌, Option, Some, List, length, slice_index_or}
use Rattle.std.specs.Ordering.{nat_cmp, ordering_then}
use Rattle.std.specs.declared.cmp.Ordering.{Ordering}
use Rattle.word_model.specs.Jobs.{same_job}
use Rattle.word_model.specs.declared.records.Job.{Job}
use Rattle.word_model.specs.declared.records.Job.TheVariants.{Seed, Pair, Right}
use Rattle.word_model.specs.declared.events.Standing.TheVariants.{Offered}
use Rattle.board.specs.declared.slots.Slot.{Slot}

-- the number of a job's kind, and its numbers
abbrev pub Key : Type 0
Key = ℕ × ℕ × ℕ

abbrev pub key : Job → Key
key (Seed s) = (0, s, 0)
key (Pair i j) = (1, i, j)
key (Right i v) = (2, i, v)

abbrev pub key_cmp : Key → Key → Ordering
key_cmp p q = ordering_then (ordering_then (nat_cmp p.0 q.0) (nat_cmp p.1 q.1)) (nat_cmp p.2 q.2)

-- each job is found at its place, and nothing else is found
pub record Finds (at : Key → Option ℕ) (jobs : List Job) : Type 0 where
  pub there : (k : ℕ) (d : Job) → k < length jobs → at (key (slice_index_or jobs k d)) ≡ Some k
  pub only : (p : Key) (k : ℕ) → at p ≡ Some k → (k < length jobs) × ((d : Job) → key (slice_index_or jobs k d) ≡ p)

-- no slot before a place stands offered
abbrev pub NoneOffered : ℕ → List Slot → Type 0
NoneOffered place slots = (m : ℕ) (d : Slot) → m < place → (slice_index_or slots m d).standing ≢ Offered

-- no slot has the job
abbrev pub IsNew : List Slot → Job → Type 0
IsNew slots job = (m : ℕ) (d : Slot) → m < length slots → same_job (slice_index_or slots m d).job job ≡ false
