-- The core over lists of events: what a lead, a board, hands and a table come to, whatever the order of events.
use Rattle.std.specs.Prelude.{◌≡◌, ℕ, ◌≤◌, ◌++◌, ◌&&◌, ◌==◌, min, not, nat_le, nat_lt, Bool, true, false, List, [], ◌∷◌, length, take, map, slice_set, slice_index_or, Option, Some, None, IfSome, if◌then◌else◌}
use Rattle.std.specs.List.{filter, list_any}
use Rattle.monomials.specs.Polynomials.{Polynomial, Each}
use Rattle.word_model.specs.Words.{Algebra}
use Rattle.word_model.specs.Jobs.{least_job, is_queued}
use Rattle.word_model.specs.Machine.{State, Turn, On, Over, step, first_state, machine}
use Rattle.word_model.specs.declared.records.Job.{Job}
use Rattle.word_model.specs.declared.records.Mode.{Mode}
use Rattle.word_model.specs.declared.records.Outcome.{Outcome}
use Rattle.run_records.specs.Ahead.{ReducedStart}
use Rattle.word_model.specs.declared.events.Place.{Place}
use Rattle.word_model.specs.declared.events.Standing.{Standing}
use Rattle.word_model.specs.declared.events.Standing.TheVariants.{Offered, Held, Published, Released, Taken}
use Rattle.word_model.specs.declared.events.BoardEvent.{BoardEvent}
use Rattle.word_model.specs.declared.events.BoardEvent.TheVariants.{Offer, Claim, Publish, Release, Take}
use Rattle.word_model.specs.declared.events.Claimed.{Claimed}
use Rattle.word_model.specs.declared.events.Claimed.TheVariants.{Closed, NoneNow, Job as Gets}
use Rattle.word_model.specs.declared.events.Event.{Event}
use Rattle.word_model.specs.declared.events.Event.TheVariants.{Offer as Offers, Claim as Claims, Fill as Fills, Publish as Publishes, Release as Releases, Take as Takes, Commit as Commits, Close as Closes}
use Rattle.word_model.specs.declared.events.Hand.{Hand}
use Rattle.board.specs.Boards.{standing, closed, offered, claimed, place_of, close_events, hand}
use Rattle.commit_core.specs.Specs.{IsGood, spec_over}
use Rattle.commit_core.specs.Leads.{IsPart, job_of}

-- ---- worlds

-- a state of the machine with its outcome, the log of the board, for each job in the order of offers the Spec that is
-- published for it, the hands that have a job, the filled places, and the Spec that was taken
pub record CoreWorld : Type 0 where
  pub state : State
  pub outcome : Option Outcome
  pub log : List BoardEvent
  pub kept : List (Option ReducedStart)
  pub hands : List Hand
  pub filled : List Place
  pub taken : Option ReducedStart

-- a new lead, an empty board, and nothing else
abbrev pub first_world : List Polynomial → CoreWorld
first_world gens = record { state = first_state gens; outcome = None; log = []; kept = []; hands = []; filled = []; taken = None }

-- the greatest seat
abbrev pub last_seat : ℕ
last_seat = 64

-- ---- hands

-- the hand of a seat
abbrev pub hand_at : List Hand → ℕ → Option Hand
hand_at [] seat = None
hand_at (h ∷ hands) seat = if h.seat == seat then Some h else hand_at hands seat

-- the job in a hand
abbrev pub held_job : Option Hand → Option Job
held_job None = None
held_job (Some h) = Some h.job

-- the hands with one more, by rising seat
abbrev pub with_hand : Hand → List Hand → List Hand
with_hand a [] = a ∷ []
with_hand a (h ∷ hands) = if nat_lt a.seat h.seat then a ∷ h ∷ hands else h ∷ with_hand a hands

-- the hands without that of a seat
abbrev pub without_hand : ℕ → List Hand → List Hand
without_hand seat hands = filter (λ h. not (h.seat == seat)) hands

-- ---- offers

abbrev pub is_off : Option Standing → Bool
is_off None = true
is_off (Some s) = false

-- the queued jobs that are not on the board
abbrev pub off_board : List BoardEvent → List Job → List Job
off_board log jobs = filter (λ job. is_off (standing log job)) jobs

abbrev pub offer_first : Algebra → List Polynomial → CoreWorld → List Job → CoreWorld
offer_first A gens w [] = w
offer_first A gens w (job ∷ jobs) =
    record w { log = w.log ++ Offer (least_job A gens w.state.basis w.state.sugars job jobs) ∷ []; kept = w.kept ++ None ∷ [] }

-- Offer: where the board is open and a queued job is not on it, the least such job is offered.
abbrev pub offers : Algebra → List Polynomial → CoreWorld → CoreWorld
offers A gens w = if closed w.log then w else offer_first A gens w (off_board w.log w.state.queue)

-- ---- claims

abbrev pub claim_job : CoreWorld → ℕ → ℕ → Claimed → CoreWorld
claim_job w seat prefix Closed = w
claim_job w seat prefix NoneNow = w
claim_job w seat prefix (Gets job) = record w {
  log = w.log ++ Claim seat job ∷ [];
  hands = with_hand (record { seat = seat; job = job; prefix = min prefix (length w.state.basis) }) w.hands;
}

abbrev pub claim_empty : CoreWorld → ℕ → ℕ → Option Hand → CoreWorld
claim_empty w seat prefix None = claim_job w seat prefix (claimed w.log)
claim_empty w seat prefix (Some h) = w

-- Claim: where the seat is one of the world's, its hand is empty, the board is open and a job stands offered, the seat
-- holds the earliest such job, with the lesser of the prefix and the length of the basis.
abbrev pub claims : CoreWorld → ℕ → ℕ → CoreWorld
claims w seat prefix = if nat_le seat last_seat then claim_empty w seat prefix (hand_at w.hands seat) else w

-- ---- fills

abbrev pub same_place : Place → Place → Bool
same_place p q = (p.i == q.i) && (p.j == q.j) && (p.a == q.a) && (p.b == q.b)

-- whether the place is one of a table over n variables
abbrev pub is_place : ℕ → Place → Bool
is_place n p = nat_le 1 p.i && nat_lt p.i p.j && nat_le p.j n && nat_le 1 p.a && nat_le p.a 16 && nat_le 1 p.b && nat_le p.b 16

-- Fill: where the place is one of the table's and not filled, it is.
abbrev pub fills : Algebra → CoreWorld → Place → CoreWorld
fills A w place =
    if is_place A.order.vars place && not (list_any (same_place place) w.filled) then record w { filled = w.filled ++ place ∷ [] } else w

-- ---- publications and releases

-- what a hand publishes: its job's start, reduced by the elements of its prefix, where it has what the job names
abbrev pub spec_of : Algebra → List Polynomial → List Polynomial → Hand → Option ReducedStart
spec_of A gens G h = spec_over A gens (take h.prefix G) h.prefix h.job

-- the payloads with this Spec for the job, unless it was taken
abbrev pub keep : CoreWorld → Job → ReducedStart → Option Standing → List (Option ReducedStart)
keep w job spec None = slice_set w.kept (place_of (offered w.log) job) (Some spec)
keep w job spec (Some Offered) = slice_set w.kept (place_of (offered w.log) job) (Some spec)
keep w job spec (Some (Held seat)) = slice_set w.kept (place_of (offered w.log) job) (Some spec)
keep w job spec (Some Published) = slice_set w.kept (place_of (offered w.log) job) (Some spec)
keep w job spec (Some Released) = slice_set w.kept (place_of (offered w.log) job) (Some spec)
keep w job spec (Some Taken) = w.kept

-- a hand is emptied, by the publication of its Spec, or by a release where it has none
abbrev pub publish_spec : CoreWorld → Hand → Option ReducedStart → CoreWorld
publish_spec w h None = record w { log = w.log ++ Release h.seat h.job ∷ []; hands = without_hand h.seat w.hands }
publish_spec w h (Some spec) = record w {
  log = w.log ++ Publish h.seat h.job ∷ [];
  hands = without_hand h.seat w.hands;
  kept = keep w h.job spec (standing w.log h.job);
}

-- Publish: where the hand holds a job, it is emptied, with its Spec, where it has one.
abbrev pub publish_hand : Algebra → List Polynomial → CoreWorld → Option Hand → CoreWorld
publish_hand A gens w None = w
publish_hand A gens w (Some h) = publish_spec w h (spec_of A gens w.state.basis h)

-- Release: where the hand holds a job, it is emptied.
abbrev pub release_hand : CoreWorld → Option Hand → CoreWorld
release_hand w None = w
release_hand w (Some h) = publish_spec w h None

-- ---- takes and commits

-- a job on the board that was not taken is taken, with its Spec where it was published
abbrev pub take_job : CoreWorld → Job → Option Standing → CoreWorld
take_job w job None = w
take_job w job (Some Offered) = record w { log = w.log ++ Take job ∷ [] }
take_job w job (Some (Held seat)) = record w { log = w.log ++ Take job ∷ [] }
take_job w job (Some Released) = record w { log = w.log ++ Take job ∷ [] }
take_job w job (Some Published) = record w {
  log = w.log ++ Take job ∷ [];
  kept = slice_set w.kept (place_of (offered w.log) job) None;
  taken = slice_index_or w.kept (place_of (offered w.log) job) None;
}
take_job w job (Some Taken) = w

-- Take: where the lead has a first job, it is taken from the board.
abbrev pub take_first : Algebra → List Polynomial → CoreWorld → List Job → CoreWorld
take_first A gens w [] = w
take_first A gens w (job ∷ jobs) =
    let first : Job = least_job A gens w.state.basis w.state.sugars job jobs in take_job w first (standing w.log first)

-- where the machine's turn leads, with nothing taken
abbrev pub after_commit : CoreWorld → Turn → CoreWorld
after_commit w (On s) = record w { state = s; taken = None }
after_commit w (Over outcome) = record w { outcome = Some outcome; taken = None }

-- Commit: one turn of the machine, unless it is over; then nothing is taken. With which Spec the turn is made is not seen.
abbrev pub commits : CoreWorld → Turn → Option Outcome → CoreWorld
commits w turn None = after_commit w turn
commits w turn (Some outcome) = record w { taken = None }

-- ---- all events

-- The world after an event. One that does not apply leaves it as it is.
abbrev pub after_event : Algebra → List Polynomial → Mode → ℕ → CoreWorld → Event → CoreWorld
after_event A gens mode budget w Offers = offers A gens w
after_event A gens mode budget w (Claims seat prefix) = claims w seat prefix
after_event A gens mode budget w (Fills place) = fills A w place
after_event A gens mode budget w (Publishes seat) = publish_hand A gens w (hand_at w.hands seat)
after_event A gens mode budget w (Releases seat) = release_hand w (hand_at w.hands seat)
after_event A gens mode budget w Takes = take_first A gens w w.state.queue
after_event A gens mode budget w Commits = commits w (step A gens mode budget w.state) w.outcome
after_event A gens mode budget w Closes = record w { log = w.log ++ close_events (closed w.log) }

-- the world after a list of events
abbrev pub after_events : Algebra → List Polynomial → Mode → ℕ → CoreWorld → List Event → CoreWorld
after_events A gens mode budget w [] = w
after_events A gens mode budget w (e ∷ events) = after_events A gens mode budget (after_event A gens mode budget w e) events

-- ---- what every world has

-- the job is queued, or was treated
abbrev pub WasQueued : State → Job → Type 0
WasQueued s job = is_queued (s.queue ++ map job_of s.entries) job ≡ true

-- The commits are a part of the machine's run from its beginning; all Specs are good; each job on the board is or was
-- queued; the hands are those of the board, of seats up to 64, and no prefix is longer than the basis.
pub record IsSound (A : Algebra) (gens : List Polynomial) (mode : Mode) (budget : ℕ) (w : CoreWorld) : Type 0 where
  pub part : IsPart w.state.entries w.state.basis w.outcome (machine A gens mode budget)
  pub published : Each (λ o. IfSome o (IsGood A gens w.state.basis)) w.kept
  pub taken : IfSome w.taken (IsGood A gens w.state.basis)
  pub queued : Each (WasQueued w.state) (offered w.log)
  pub hands : (seat : ℕ) → hand w.log seat ≡ held_job (hand_at w.hands seat)
  pub seats : Each (λ h. h.seat ≤ last_seat) w.hands
  pub prefixes : Each (λ h. h.prefix ≤ length w.state.basis) w.hands
