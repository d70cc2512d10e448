use Rattle.std.proofs.Common.{rules, arith, ◌≡◌, ◌≢◌, slice_index_or, slice_set, sym, ◌∙◌, ap, subst, true, false, Some, None, vec_len, vec_capacity, IfSome, MatchOption}
use Rattle.std.proofs.lemmas.List.{length-set}
use Rattle.word_model.specs.Jobs.{same_job}
use Rattle.word_model.proofs.JobLists.{same_job-is, same_job-itself}
use Rattle.board.specs.declared.slots.Slot.{Slot}
use Rattle.word_model.specs.declared.events.Standing.TheVariants.{Taken}
use Rattle.board.specs.Logs.{LogValue, Distinct}
use Rattle.board.specs.Logs.{IsAtPlace}
use Rattle.board.specs.Boards.{hand, standing, offered, unless_taken, place_of}
use Rattle.board.proofs.Boards.{leave_fits, fits_grows, stands_at, place_is, place_left}
use Rattle.board.proofs.logged.Logged.leave.Goals as goal

pub unreachable-requires-in_default-place : goal.unreachable-requires-in_default-place
unreachable-requires-in_default-place c =
    let held : hand c.self.inside.log.items c.args.seat ≡ Some c.in-Some.job = sym (c.self.invariant.0.held c.args.seat) ∙ sym c.in-Some.ensures.value in
    let on = c.self.invariant.0.on c.args.seat c.in-Some.job held in
    let d : Slot = record { job = c.in-Some.job; standing = Taken } in
    let no = c.in_default-place.ensures on.0 d on.1 in
    let yes = same_job-itself c.in-Some.job in
    let no2 : same_job c.in-Some.job c.in-Some.job ≡ false = subst (λ z. same_job z c.in-Some.job ≡ false) (on.2 d) no in
    search rules

here : (c : goal.After-unless_gone) (d : Slot) → slice_index_or c.self.inside.slots c.in-Some-place.k d ≡ c.at-was.result
here c d = c.at-was.ensures d

stood : (c : goal.After-unless_gone) → c.stand.new.self ≡ slice_set c.self.inside.slots c.in-Some-place.k (record { job = c.at-was.result.job; standing = c.unless_taken.result })
stood c =
    c.stand.ensures c.at-was.result
    ∙ ap (λ (x : Slot). slice_set c.self.inside.slots c.in-Some-place.k (record { job = x.job; standing = c.unless_taken.result })) (here c c.at-was.result)

same : (c : goal.After-unless_gone) → c.at-was.result.job ≡ c.in-Some.job
same c = same_job-is _ _ (subst (λ (z : Slot). same_job z.job c.in-Some.job ≡ true) (here c c.at-was.result) (c.in-Some-place.ensures.1 c.at-was.result))

pub invariant_of-self : goal.invariant_of-self
invariant_of-self c =
    let mine = sym c.in-Some.ensures.value ∙ ap Some (sym (same c)) in
    let after = leave_fits c.self.inside.log.items (vec_len c.self.inside.log) (vec_capacity c.self.inside.log) c.self.inside.slots c.self.inside.hands.items c.self.inside.shut c.args.published c.in-Some-place.k c.at-was.result c.unless_taken.result c.args.seat c.self.invariant.0 c.in-Some-place.ensures.0 (here c) (c.unless_taken.ensures ∙ ap (unless_taken (Some c.at-was.result.standing)) c.left_standing.ensures) mine in
    (rw (c.in-Ok.ensures.items, c.leaving.ensures, ← same c, stood c) (fits_grows _ _ _ _ _ _ _ _ after c.in-Ok.ensures.len c.push.ensures.capacity), omega (arith, c.self.invariant.1, length-set c.self.inside.hands.items c.args.seat None))

pub returns-clause-place : goal.returns-clause-place
returns-clause-place c =
    let i = c.at-was.result in
    let at = stands_at c.self.inside.log.items (vec_len c.self.inside.log) (vec_capacity c.self.inside.log) c.self.inside.slots c.self.inside.hands.items c.self.inside.shut c.in-Some-place.k i c.self.invariant.0 c.in-Some-place.ensures.0 (here c) in
    let first = place_is c.self.inside.log.items (vec_len c.self.inside.log) (vec_capacity c.self.inside.log) c.self.inside.slots c.self.inside.hands.items c.self.inside.shut c.in-Some.job c.in-Some-place.k c.self.invariant.0 c.in-Some-place.ensures.0 c.in-Some-place.ensures.1 c.in-Some-place.ensures.2 in
    let log = c.self.inside.log.items in
    let held : hand log c.args.seat ≡ Some i.job = sym (c.self.invariant.0.held c.args.seat) ∙ sym c.in-Some.ensures.value ∙ ap Some (sym (same c)) in
    let there = place_left log i.job i.standing c.in-Some-place.k at.0 (first ∙ ap (place_of (offered log)) (sym (same c))) at.1 c.unless_gone.result c.unless_gone.ensures in
    subst (λ (v : LogValue). IfSome (hand v.log c.args.seat) (λ j. MatchOption c.unless_gone.result (standing v.log j ≡ Some Taken) (λ k. (standing v.log j ≢ Some Taken) × (k ≡ place_of (offered v.log) j) × IsAtPlace (offered v.log) k j)))
    c.self.view_is
    (subst (λ h. IfSome h (λ j. MatchOption c.unless_gone.result (standing log j ≡ Some Taken) (λ k. (standing log j ≢ Some Taken) × (k ≡ place_of (offered log) j) × IsAtPlace (offered log) k j))) (sym held) there)

pub returns-clause-distinct : goal.returns-clause-distinct
returns-clause-distinct c = subst (λ (v : LogValue). Distinct (offered v.log)) c.self.view_is c.self.invariant.0.distinct
