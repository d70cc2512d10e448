-- Worked rows of boards and of the core, computed by the definitions.
use Rattle.std.proofs.Common.{◌≡◌, ℕ, true, false, List, [], ◌∷◌, ◌++◌, map, Some, None, refl}
use Rattle.prime_field.specs.Modular.{inverse}
use Rattle.monomials.specs.Polynomials.{Polynomial}
use Rattle.word_model.specs.Words.{Algebra, normal_form, normal_form_within}
use Rattle.word_model.specs.Products.{product}
use Rattle.word_model.specs.TwoVariables.{two_variables}
use Rattle.word_model.specs.Reduction.{steps_within, reduce}
use Rattle.word_model.specs.Jobs.{start_of, chain_witness}
use Rattle.word_model.specs.Machine.{step}
use Rattle.word_model.specs.declared.records.Job.{Job}
use Rattle.word_model.specs.declared.records.Job.TheVariants.{Seed, Pair}
use Rattle.word_model.specs.declared.records.Mode.TheVariants.{Left}
use Rattle.word_model.specs.declared.records.Entry.TheVariants.{New}
use Rattle.word_model.specs.declared.records.Outcome.TheVariants.{Finished, BudgetSpent}
use Rattle.run_records.specs.Ahead.{ReducedStart}
use Rattle.word_model.specs.declared.events.Place.{Place}
use Rattle.word_model.specs.declared.events.Standing.TheVariants.{Held, Published, Released, Taken}
use Rattle.word_model.specs.declared.events.BoardEvent.{BoardEvent}
use Rattle.word_model.specs.declared.events.BoardEvent.TheVariants.{Offer, Claim, Publish, Release, Take, Close}
use Rattle.word_model.specs.declared.events.Claimed.TheVariants.{Closed, NoneNow, Job as Gets}
use Rattle.board.specs.Boards.{standing, hand, closed, offered, next, claimed, claim_events, leave_events, take_events, close_events}
use Rattle.word_model.specs.declared.events.Event.{Event}
use Rattle.word_model.specs.declared.events.Event.TheVariants as event
use Rattle.replay.specs.Worlds.{CoreWorld, first_world, after_events}

-- ---- a board, call by call: its log, and what the log says

abbrev then_claim : ℕ → List BoardEvent → List BoardEvent
then_claim seat log = log ++ claim_events seat (claimed log)

abbrev then_publish : ℕ → List BoardEvent → List BoardEvent
then_publish seat log = log ++ leave_events true seat (hand log seat)

abbrev then_take : Job → List BoardEvent → List BoardEvent
then_take job log = log ++ take_events job (standing log job)

abbrev then_close : List BoardEvent → List BoardEvent
then_close log = log ++ close_events (closed log)

-- two jobs are offered
abbrev two_offered : List BoardEvent
two_offered = map Offer (Seed 2 ∷ Seed 1 ∷ [])

-- seats 1 and 2 claim, and seat 3 in vain
abbrev both_held : List BoardEvent
both_held = Offer (Seed 2) ∷ Offer (Seed 1) ∷ Claim 1 (Seed 2) ∷ Claim 2 (Seed 1) ∷ []

claims_are_logged : then_claim 3 (then_claim 2 (then_claim 1 two_offered)) ≡ both_held
unfolding standing closed offered next
claims_are_logged = refl

first_claim : claimed two_offered ≡ Gets (Seed 2)
unfolding standing closed offered next
first_claim = refl

second_claim : claimed (then_claim 1 two_offered) ≡ Gets (Seed 1)
unfolding standing closed offered next
second_claim = refl

third_claim : claimed both_held ≡ NoneNow
unfolding standing closed offered next
third_claim = refl

held_by_its_seat : standing both_held (Seed 1) ≡ Some (Held 2)
unfolding standing
held_by_its_seat = refl

not_on_the_board : standing both_held (Pair 1 2) ≡ None
unfolding standing
not_on_the_board = refl

first_hand : hand both_held 1 ≡ Some (Seed 2)
unfolding hand
first_hand = refl

second_hand : hand both_held 2 ≡ Some (Seed 1)
unfolding hand
second_hand = refl

third_hand : hand both_held 3 ≡ None
unfolding hand
third_hand = refl

-- the hand of seat 1 is emptied
after_publication : standing (then_publish 1 both_held) (Seed 2) ≡ Some Published
unfolding standing hand
after_publication = refl

emptied_hand : hand (then_publish 1 both_held) 1 ≡ None
unfolding hand
emptied_hand = refl

after_release : standing (both_held ++ leave_events false 2 (hand both_held 2)) (Seed 1) ≡ Some Released
unfolding standing hand
after_release = refl

-- Seed 2 is taken, which was published, and again in vain, and Seed 1, which seat 2 holds
abbrev both_taken : List BoardEvent
both_taken = both_held ++ Publish 1 (Seed 2) ∷ Take (Seed 2) ∷ Take (Seed 1) ∷ []

takes_are_logged : then_take (Seed 1) (then_take (Seed 2) (then_take (Seed 2) (then_publish 1 both_held))) ≡ both_taken
unfolding standing hand
takes_are_logged = refl

-- its holder has a taken job still in hand
still_in_hand : hand both_taken 2 ≡ Some (Seed 1)
unfolding hand
still_in_hand = refl

-- a publication that comes after the take is logged, and the job stays taken; a second close is not logged
abbrev all_done : List BoardEvent
all_done = both_taken ++ Publish 2 (Seed 1) ∷ Close ∷ []

close_is_logged : then_close (then_close (then_publish 2 both_taken)) ≡ all_done
unfolding hand closed
close_is_logged = refl

stays_taken : standing all_done (Seed 1) ≡ Some Taken
unfolding standing
stays_taken = refl

claim_of_closed : claimed all_done ≡ Closed
unfolding standing closed offered next
claim_of_closed = refl

-- ---- the core over x d and d^2 where d x = x d + 1

abbrev W : Algebra
W = two_variables 7 1 1

abbrev xd : Polynomial
xd = (1, 1 ∷ 1 ∷ []) ∷ []

abbrev d2 : Polynomial
d2 = (1, 0 ∷ 2 ∷ []) ∷ []

abbrev start : CoreWorld
start = first_world (xd ∷ d2 ∷ [])

abbrev world_after : List Event → CoreWorld
world_after events = after_events W (xd ∷ d2 ∷ []) Left 100 start events

-- d^2, which seat 1 reduced by no element
abbrev ahead : ReducedStart
ahead = record { job = Seed 2; prefix = 0; trace = []; rest = d2 }

-- events that do not apply leave the world as it is: it is closed, once
nothing_but_a_close : world_after (event.Claim 1 0 ∷ event.Publish 1 ∷ event.Release 2 ∷ event.Take ∷ event.Close ∷ event.Offer ∷ event.Close ∷ [])
    ≡ record start { log = Close ∷ [] }
unfolding standing hand closed offered next
nothing_but_a_close = refl

-- The prefix is the length of the basis where the claim has a greater one. The first job is Seed 1 after a commit, so
-- the take doesn't apply, and what is published for Seed 2 is kept.
late_publication : world_after (event.Offer ∷ event.Claim 1 9 ∷ event.Commit ∷ event.Take ∷ event.Publish 1 ∷ event.Commit ∷ [])
    ≡ record {
      state = record {
        entries = New (Seed 2) [] 1 ∷ New (Seed 1) [] 1 ∷ [];
        basis = d2 ∷ xd ∷ [];
        sugars = 2 ∷ 2 ∷ [];
        queue = Pair 1 2 ∷ [];
      };
      outcome = None;
      log = Offer (Seed 2) ∷ Claim 1 (Seed 2) ∷ Publish 1 (Seed 2) ∷ [];
      kept = Some ahead ∷ [];
      hands = [];
      filled = [];
      taken = None;
    }
unfolding standing hand closed offered next step chain_witness start_of reduce steps_within product normal_form normal_form_within inverse
late_publication = refl

-- what seat 1 made ahead is taken
taken_ahead : world_after (event.Offer ∷ event.Offer ∷ event.Claim 1 0 ∷ event.Publish 1 ∷ event.Take ∷ [])
    ≡ record start {
      log = Offer (Seed 2) ∷ Offer (Seed 1) ∷ Claim 1 (Seed 2) ∷ Publish 1 (Seed 2) ∷ Take (Seed 2) ∷ [];
      kept = None ∷ None ∷ [];
      taken = Some ahead;
    }
unfolding standing hand closed offered next start_of reduce steps_within product normal_form normal_form_within inverse
taken_ahead = refl

-- and a commit follows
committed_ahead : world_after (event.Offer ∷ event.Offer ∷ event.Claim 1 0 ∷ event.Publish 1 ∷ event.Take ∷ event.Commit ∷ [])
    ≡ record {
      state = record { entries = New (Seed 2) [] 1 ∷ []; basis = d2 ∷ []; sugars = 2 ∷ []; queue = Seed 1 ∷ [] };
      outcome = None;
      log = Offer (Seed 2) ∷ Offer (Seed 1) ∷ Claim 1 (Seed 2) ∷ Publish 1 (Seed 2) ∷ Take (Seed 2) ∷ [];
      kept = None ∷ None ∷ [];
      hands = [];
      filled = [];
      taken = None;
    }
unfolding standing hand closed offered next step chain_witness start_of reduce steps_within product normal_form normal_form_within inverse
committed_ahead = refl

-- ---- refused events of each kind

abbrev held : CoreWorld
held = record start {
  log = Offer (Seed 2) ∷ Offer (Seed 1) ∷ Claim 1 (Seed 2) ∷ [];
  kept = None ∷ None ∷ [];
  hands = record { seat = 1; job = Seed 2; prefix = 0 } ∷ [];
}

-- offers where all jobs are on the board
third_offer : world_after (event.Offer ∷ event.Offer ∷ event.Claim 1 0 ∷ event.Offer ∷ []) ≡ held
unfolding standing hand closed offered next
third_offer = refl

-- claims of a seat that there is not, and of one whose hand is not empty
claim_of_65 : world_after (event.Offer ∷ event.Offer ∷ event.Claim 65 0 ∷ event.Claim 1 0 ∷ event.Claim 1 0 ∷ []) ≡ held
unfolding standing hand closed offered next
claim_of_65 = refl

-- seat 64 is the last that there is
claim_of_64 : (world_after (event.Offer ∷ event.Claim 64 0 ∷ [])).log ≡ Offer (Seed 2) ∷ Claim 64 (Seed 2) ∷ []
unfolding standing hand closed offered next
claim_of_64 = refl

-- publications and releases of seats without a job
empty_hands : world_after (event.Offer ∷ event.Offer ∷ event.Claim 1 0 ∷ event.Publish 2 ∷ event.Release 65 ∷ []) ≡ held
unfolding standing hand closed offered next
empty_hands = refl

-- what was given back is offered no more; it is taken without a reduction, once
take_of_released : world_after (event.Offer ∷ event.Claim 1 0 ∷ event.Release 1 ∷ event.Claim 1 0 ∷ event.Take ∷ event.Take ∷ [])
    ≡ record start { log = Offer (Seed 2) ∷ Claim 1 (Seed 2) ∷ Release 1 (Seed 2) ∷ Take (Seed 2) ∷ []; kept = None ∷ [] }
unfolding standing hand closed offered next
take_of_released = refl

-- places: one is filled once, and others are not the table's
abbrev place : ℕ → ℕ → ℕ → ℕ → Place
place i j a b = record { i = i; j = j; a = a; b = b }

fills_of_places : world_after (event.Fill (place 1 2 16 1) ∷ event.Fill (place 1 2 16 1) ∷ event.Fill (place 2 2 1 1) ∷ event.Fill (place 1 2 17 1) ∷ event.Fill (place 1 3 1 1) ∷ [])
    ≡ record start { filled = place 1 2 16 1 ∷ [] }
fills_of_places = refl

-- commits where the run is over: without a generator, and with no entry to make
commit_of_finished : after_events W [] Left 100 (first_world []) (event.Commit ∷ event.Commit ∷ event.Offer ∷ [])
    ≡ record (first_world []) { outcome = Some Finished }
unfolding closed step
commit_of_finished = refl

commit_of_spent : after_events W (xd ∷ d2 ∷ []) Left 0 start (event.Commit ∷ event.Commit ∷ []) ≡ record start { outcome = Some BudgetSpent }
unfolding step
commit_of_spent = refl
