-- How the fields of a board stand to its log. Private contracts and models alone cite this.
use Rattle.std.specs.Prelude.{ℕ, Bool, true, false, ◌≡◌, ◌≢◌, ◌≤◌, ◌<◌, ◌+◌, Option, Some, None, IsSome, List, All, map, length, sum_by, slice_index_or}
use Rattle.word_model.specs.Jobs.{same_job}
use Rattle.word_model.specs.declared.records.Job.{Job}
use Rattle.word_model.specs.declared.events.Standing.{Standing}
use Rattle.word_model.specs.declared.events.Standing.TheVariants.{Offered, Held, Published, Released, Taken}
use Rattle.word_model.specs.declared.events.BoardEvent.{BoardEvent}
use Rattle.board.specs.declared.slots.Slot.{Slot}
use Rattle.board.specs.Boards.{standing, hand, closed, offered}

-- a board without payloads: its log and its greatest seat
pub record LogValue : Type 0 where
  pub log : List BoardEvent
  pub seats : ℕ

-- the events that a job may still bring, but for that of the hand that holds it
abbrev pub weight : Standing → ℕ
weight Offered = 3
weight (Held seat) = 1
weight Published = 1
weight Released = 1
weight Taken = 0

abbrev pub in_hand : Option Job → ℕ
in_hand None = 0
in_hand (Some j) = 1

abbrev pub to_close : Bool → ℕ
to_close true = 0
to_close false = 1

abbrev pub Distinct : List Job → Type 0
Distinct js = (k m : ℕ) (d : Job) → k < length js → m < length js → k ≢ m → same_job (slice_index_or js k d) (slice_index_or js m d) ≡ false

-- a job stands among the items
abbrev pub IsOn : List Slot → Job → Type 0
IsOn items job = (k : ℕ) × (k < length items) × ((d : Slot) → (slice_index_or items k d).job ≡ job)

-- a job stands at a place of a list
abbrev pub IsAtPlace : List Job → ℕ → Job → Type 0
IsAtPlace jobs k job = (k < length jobs) × ((d : Job) → slice_index_or jobs k d ≡ job)

pub record Fits (log : List BoardEvent) (len space : ℕ) (items : List Slot) (hands : List (Option Job)) (is_closed : Bool) : Type 0 where
  pub stand : All (λ (i : Slot). standing log i.job ≡ Some i.standing) items
  pub none : (j : Job) → ((m : ℕ) (d : Slot) → m < length items → same_job (slice_index_or items m d).job j ≡ false) → standing log j ≡ None
  pub jobs : map (λ (i : Slot). i.job) items ≡ offered log
  pub distinct : Distinct (offered log)
  pub held : (s : ℕ) → slice_index_or hands s None ≡ hand log s
  pub on : (s : ℕ) (j : Job) → hand log s ≡ Some j → IsOn items j
  pub shut : is_closed ≡ closed log
  pub room : len + sum_by (λ (i : Slot). weight i.standing) items + sum_by in_hand hands + to_close is_closed ≤ space

-- there is a payload place for each offered job, and a payload for each published one
pub record Keeps (P : Type 0) (log : List BoardEvent) (kept : List (Option P)) : Type 0 where
  pub long : length kept ≡ length (offered log)
  pub there : (k : ℕ) (j : Job) → IsAtPlace (offered log) k j → standing log j ≡ Some Published → IsSome (slice_index_or kept k None)
