-- Boards: what the list of a board's events says of jobs and seats.
use Rattle.std.specs.Prelude.{ℕ, zero, suc, Bool, true, false, ◌==◌, Option, Some, None, List, [], ◌∷◌}
use Rattle.std.specs.List.{find}
use Rattle.word_model.specs.Jobs.{same_job}
use Rattle.word_model.specs.declared.records.Job.{Job}
use Rattle.word_model.specs.declared.events.Standing.{Standing}
use Rattle.word_model.specs.declared.events.Standing.TheVariants.{Offered, Held, Published, Released, Taken}
use Rattle.word_model.specs.declared.events.BoardEvent.{BoardEvent}
use Rattle.word_model.specs.declared.events.BoardEvent.TheVariants.{Offer, Claim, Publish, Release, Take, Close}
use Rattle.word_model.specs.declared.events.Claimed.{Claimed}
use Rattle.word_model.specs.declared.events.Claimed.TheVariants.{Closed, NoneNow, Job as Gets}

-- ---- how jobs stand

-- the standing that an event of the job gives it, unless it was taken
abbrev pub unless_taken : Option Standing → Standing → Option Standing
unless_taken None s = Some s
unless_taken (Some Offered) s = Some s
unless_taken (Some (Held seat)) s = Some s
unless_taken (Some Published) s = Some s
unless_taken (Some Released) s = Some s
unless_taken (Some Taken) s = Some Taken

abbrev pub if_same : Bool → Option Standing → Option Standing → Option Standing
if_same true after before = after
if_same false after before = before

-- the job's standing after one event more
abbrev pub stands : Job → Option Standing → BoardEvent → Option Standing
stands job was (Offer j) = if_same (same_job j job) (unless_taken was Offered) was
stands job was (Claim seat j) = if_same (same_job j job) (unless_taken was (Held seat)) was
stands job was (Publish seat j) = if_same (same_job j job) (unless_taken was Published) was
stands job was (Release seat j) = if_same (same_job j job) (unless_taken was Released) was
stands job was (Take j) = if_same (same_job j job) (Some Taken) was
stands job was Close = was

abbrev pub standing_from : Job → Option Standing → List BoardEvent → Option Standing
standing_from job was [] = was
standing_from job was (e ∷ es) = standing_from job (stands job was e) es

-- The standing of a job: none before it was offered; taken where it was taken; else that of its last event.
unfoldable pub standing : List BoardEvent → Job → Option Standing
standing log job = standing_from job None log

-- ---- what seats have in hand

abbrev pub if_seat : Bool → Option Job → Option Job → Option Job
if_seat true after before = after
if_seat false after before = before

-- what the seat has in hand after one event more
abbrev pub holds : ℕ → Option Job → BoardEvent → Option Job
holds seat was (Offer j) = was
holds seat was (Claim s j) = if_seat (s == seat) (Some j) was
holds seat was (Publish s j) = if_seat (s == seat) None was
holds seat was (Release s j) = if_seat (s == seat) None was
holds seat was (Take j) = was
holds seat was Close = was

abbrev pub hand_from : ℕ → Option Job → List BoardEvent → Option Job
hand_from seat was [] = was
hand_from seat was (e ∷ es) = hand_from seat (holds seat was e) es

-- what a seat has in hand: the job of its last event, where that is a claim
unfoldable pub hand : List BoardEvent → ℕ → Option Job
hand log seat = hand_from seat None log

-- ---- the board as a whole

abbrev pub is_close : BoardEvent → Bool
is_close (Offer j) = false
is_close (Claim s j) = false
is_close (Publish s j) = false
is_close (Release s j) = false
is_close (Take j) = false
is_close Close = true

abbrev pub or_else : Bool → Bool → Bool
or_else true b = true
or_else false b = b

-- whether the board is closed
unfoldable pub closed : List BoardEvent → Bool
closed [] = false
closed (e ∷ es) = or_else (is_close e) (closed es)

abbrev pub offer_of : BoardEvent → List Job → List Job
offer_of (Offer j) js = j ∷ js
offer_of (Claim s j) js = js
offer_of (Publish s j) js = js
offer_of (Release s j) js = js
offer_of (Take j) js = js
offer_of Close js = js

-- the jobs of the board, in the order in which they were offered
unfoldable pub offered : List BoardEvent → List Job
offered [] = []
offered (e ∷ es) = offer_of e (offered es)

abbrev pub next_place : Bool → ℕ → ℕ
next_place true n = zero
next_place false n = suc n

-- the place of a job in a list, counted from 0; the length of the list where it isn't there
abbrev pub place_of : List Job → Job → ℕ
place_of [] job = zero
place_of (j ∷ js) job = next_place (same_job j job) (place_of js job)

-- ---- what calls answer, and the events that they log

abbrev pub is_offered : Option Standing → Bool
is_offered None = false
is_offered (Some Offered) = true
is_offered (Some (Held seat)) = false
is_offered (Some Published) = false
is_offered (Some Released) = false
is_offered (Some Taken) = false

-- the earliest offered job that stands offered
unfoldable pub next : List BoardEvent → Option Job
next log = find (λ j. is_offered (standing log j)) (offered log)

abbrev pub claim_of : Bool → Option Job → Claimed
claim_of true n = Closed
claim_of false None = NoneNow
claim_of false (Some j) = Gets j

-- what a claim answers
abbrev pub claimed : List BoardEvent → Claimed
claimed log = claim_of (closed log) (next log)

abbrev pub claim_events : ℕ → Claimed → List BoardEvent
claim_events seat Closed = []
claim_events seat NoneNow = []
claim_events seat (Gets j) = Claim seat j ∷ []

-- the event by which a hand is emptied: a publication, or a release
abbrev pub leaving : Bool → ℕ → Job → BoardEvent
leaving true seat j = Publish seat j
leaving false seat j = Release seat j

abbrev pub left_standing : Bool → Standing
left_standing true = Published
left_standing false = Released

abbrev pub leave_events : Bool → ℕ → Option Job → List BoardEvent
leave_events published seat None = []
leave_events published seat (Some j) = leaving published seat j ∷ []

abbrev pub take_events : Job → Option Standing → List BoardEvent
take_events job None = []
take_events job (Some Offered) = Take job ∷ []
take_events job (Some (Held seat)) = Take job ∷ []
take_events job (Some Published) = Take job ∷ []
take_events job (Some Released) = Take job ∷ []
take_events job (Some Taken) = []

abbrev pub close_events : Bool → List BoardEvent
close_events true = []
close_events false = Close ∷ []

-- ---- boards with payloads

-- a board: its log, its greatest seat, and for each job in the order of offers the payload that is kept for it
pub record BoardValue (P : Type 0) : Type 0 where
  pub log : List BoardEvent
  pub seats : ℕ
  pub kept : List (Option P)
