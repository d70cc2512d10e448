-- Jobs that come on the board together.
use Rattle.std.proofs.Common.{map, append_assoc, append-nil, ℕ, Bool, false, true, ◌≡◌, ◌≤◌, ◌<◌, ◌+◌, ◌*◌, ◌++◌, Option, Some, None, List, [], ◌∷◌, length, slice_index_or, refl, ap, sym, ◌∙◌, subst, arith}
use Rattle.monomials.specs.Polynomials.{Each}
use Rattle.word_model.specs.declared.records.Job.{Job}
use Rattle.word_model.specs.Jobs.{same_job}
use Rattle.word_model.proofs.JobLists.{same_job-is}
use Rattle.pair_strategy.specs.Queues.{IsSet}
use Rattle.word_model.specs.declared.events.Standing.TheVariants.{Offered}
use Rattle.word_model.specs.declared.events.BoardEvent.{BoardEvent}
use Rattle.word_model.specs.declared.events.BoardEvent.TheVariants.{Offer}
use Rattle.board.specs.declared.slots.Slot.{Slot}
use Rattle.board.specs.Boards.{standing}
use Rattle.board.specs.Logs.{Fits}
use Rattle.board.specs.Slots.{IsNew}
use Rattle.board.proofs.Boards.{offer_fits, fits_grows}
use Rattle.board.proofs.Keeping.{fresh-on}

abbrev pub slot_for : Job → Slot
slot_for j = record { job = j; standing = Offered }

pub offers_fit : (log : List BoardEvent) (len space len2 room : ℕ) (slots : List Slot) (hands : List (Option Job)) (jobs : List Job) → Fits log len space slots hands false
    → Each (λ j. standing log j ≡ None) jobs → IsSet jobs → len2 ≡ len + length jobs → space + 4 * length jobs ≤ room
    → Fits (log ++ map Offer jobs) len2 room (slots ++ map slot_for jobs) hands false
offers_fit log len space len2 room slots hands [] fits fresh set long wide =
    subst (λ (xs : List Slot). Fits (log ++ []) len2 room xs hands false) (sym (append-nil slots))
    (subst (λ l. Fits l len2 room slots hands false) (sym (append-nil log)) (fits_grows log len len2 space room slots hands false fits (omega arith) (omega arith)))
offers_fit log len space len2 room slots hands (j ∷ jobs) fits fresh set long wide =
    let step = offer_fits log len space (space + 4) slots hands j fits fresh.0 (omega arith) in
    subst (λ (xs : List Slot). Fits (log ++ Offer j ∷ map Offer jobs) len2 room xs hands false) (append_assoc slots (slot_for j ∷ []) (map slot_for jobs))
    (subst (λ l. Fits l len2 room ((slots ++ slot_for j ∷ []) ++ map slot_for jobs) hands false) (append_assoc log (Offer j ∷ []) (map Offer jobs))
    (offers_fit (log ++ Offer j ∷ []) (len + 1) (space + 4) len2 room (slots ++ slot_for j ∷ []) hands jobs step (fresh-on log j jobs set.0 fresh.1) set.1 (omega arith) (omega arith)))

-- no slot has a job that is not on the board
pub all_new : (log : List BoardEvent) (len space : ℕ) (slots : List Slot) (hands : List (Option Job)) (shut : Bool) (jobs : List Job) → Fits log len space slots hands shut → Each (λ j. standing log j ≡ None) jobs → Each (IsNew slots) jobs
all_new log len space slots hands shut [] fits fresh = tt
all_new log len space slots hands shut (j ∷ jobs) fits fresh = (λ m d below. by m d below (same_job (slice_index_or slots m d).job j) refl, all_new log len space slots hands shut jobs fits fresh.1)
  where
    by : (m : ℕ) (d : Slot) → m < length slots → (t : Bool) → same_job (slice_index_or slots m d).job j ≡ t → same_job (slice_index_or slots m d).job j ≡ false
    by m d below true t =
        let same : (slice_index_or slots m d).job ≡ j = same_job-is (slice_index_or slots m d).job j t in
        let no : Some (slice_index_or slots m d).standing ≡ None = sym (fits.stand m d below) ∙ (ap (standing log) same ∙ fresh.0) in
        cc
    by m d below false t = t
