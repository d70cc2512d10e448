use Rattle.std.proofs.Common.{rules, arith, [], ◌∷◌, ◌++◌, ◌≡◌, ◌≢◌, slice_index_or, slice_set, sym, ◌∙◌, ap, subst, true, Some, None, vec_len, vec_capacity, MatchOption}
use Rattle.std.proofs.lemmas.List.{append-nil}
use Rattle.word_model.specs.Jobs.{same_job}
use Rattle.word_model.proofs.JobLists.{same_job-is}
use Rattle.board.specs.declared.slots.Slot.{Slot}
use Rattle.word_model.specs.declared.events.Standing.TheVariants.{Published, Taken}
use Rattle.word_model.specs.declared.events.BoardEvent.TheVariants.{Take}
use Rattle.board.specs.Logs.{LogValue}
use Rattle.board.specs.Logs.{IsAtPlace}
use Rattle.board.specs.Boards.{standing, offered, place_of, take_events}
use Rattle.board.proofs.Boards.{take_fits, fits_grows, stands_at, place_is, place_taken, take_events-some}
use Rattle.board.proofs.logged.Logged.take.Goals as goal

absent : (c : goal.In_default) → standing c.args.self.now.log c.args.job.now ≡ None
absent c = ap (λ (v : LogValue). standing v.log c.args.job.now) (sym c.self.view_is) ∙ c.self.invariant.0.none c.args.job.now c.in_default.ensures

pub returns-in_default-clause-log : goal.returns-in_default-clause-log
returns-in_default-clause-log c = rw (absent c) (sym (append-nil _))

pub returns-in_default-clause-place : goal.returns-in_default-clause-place
returns-in_default-clause-place c p = let e = sym (absent c) ∙ p in search rules

here : (c : goal.After-if_published) (d : Slot) → slice_index_or c.self.inside.slots c.in-Some.k d ≡ c.at-job.result
here c d = c.at-job.ensures d

stood : (c : goal.After-if_published) → c.stand.new.self ≡ slice_set c.self.inside.slots c.in-Some.k (record { job = c.at-job.result.job; standing = Taken })
stood c =
    c.stand.ensures c.at-job.result
    ∙ ap (λ (x : Slot). slice_set c.self.inside.slots c.in-Some.k (record { job = x.job; standing = Taken })) (here c c.at-job.result)

same : (c : goal.After-if_published) → c.at-job.result.job ≡ c.args.job.now
same c = same_job-is _ _ (subst (λ (z : Slot). same_job z.job c.args.job.now ≡ true) (here c c.at-job.result) (c.in-Some.ensures.1 c.at-job.result))

pub invariant_of-self : goal.invariant_of-self
invariant_of-self c =
    let ne : c.at-job.result.standing ≢ Taken = search rules in
    let after = take_fits c.self.inside.log.items (vec_len c.self.inside.log) (vec_capacity c.self.inside.log) c.self.inside.slots c.self.inside.hands.items c.self.inside.shut c.in-Some.k c.at-job.result c.self.invariant.0 c.in-Some.ensures.0 (here c) ne in
    (rw (c.in-Ok.ensures.items, stood c) (fits_grows _ _ _ _ _ _ _ _ after c.in-Ok.ensures.len c.push.ensures.capacity), c.self.invariant.1)

pub returns-clause-place : goal.returns-clause-place
returns-clause-place c =
    let i = c.at-job.result in
    let log = c.self.inside.log.items in
    let at = stands_at log (vec_len c.self.inside.log) (vec_capacity c.self.inside.log) c.self.inside.slots c.self.inside.hands.items c.self.inside.shut c.in-Some.k i c.self.invariant.0 c.in-Some.ensures.0 (here c) in
    let first = place_is log (vec_len c.self.inside.log) (vec_capacity c.self.inside.log) c.self.inside.slots c.self.inside.hands.items c.self.inside.shut c.args.job.now c.in-Some.k c.self.invariant.0 c.in-Some.ensures.0 c.in-Some.ensures.1 c.in-Some.ensures.2 in
    let there = place_taken log i.job i.standing c.in-Some.k at.0 (first ∙ ap (place_of (offered log)) (sym (same c))) at.1 c.if_published.result c.if_published.ensures in
    subst (λ (v : LogValue). MatchOption c.if_published.result (standing v.log c.args.job.now ≢ Some Published) (λ k. (standing v.log c.args.job.now ≡ Some Published) × (k ≡ place_of (offered v.log) c.args.job.now) × IsAtPlace (offered v.log) k c.args.job.now))
    c.self.view_is
    (subst (λ j. MatchOption c.if_published.result (standing log j ≢ Some Published) (λ k. (standing log j ≡ Some Published) × (k ≡ place_of (offered log) j) × IsAtPlace (offered log) k j)) (same c) there)

pub returns-then-is_taken-clause-log : goal.returns-then-is_taken-clause-log
returns-then-is_taken-clause-log c =
    let log = c.args.self.now.log in
    let job = c.args.job.now in
    let i : Slot = c.at-job.result in
    let same : i.job ≡ job = same_job-is i.job job (subst (λ (z : Slot). same_job z.job job ≡ true) (c.at-job.ensures i) (c.in-Some.ensures.1 i)) in
    let at = stands_at c.self.inside.log.items (vec_len c.self.inside.log) (vec_capacity c.self.inside.log) c.self.inside.slots c.self.inside.hands.items c.self.inside.shut c.in-Some.k i c.self.invariant.0 c.in-Some.ensures.0 c.at-job.ensures in
    let is : standing log job ≡ Some i.standing = ap (λ (v : LogValue). standing v.log job) (sym c.self.view_is) ∙ (ap (standing c.self.inside.log.items) (sym same) ∙ at.0) in
    let taken : standing log job ≡ Some Taken = is ∙ ap Some c.if-is_taken.ensures in
    sym (append-nil log) ∙ ap (λ s. log ++ take_events job s) (sym taken)

pub unreachable-requires : goal.unreachable-requires
unreachable-requires c =
    let ne : c.at-job.result.standing ≢ Taken = c.if-is_taken.ensures in
    let after = take_fits c.self.inside.log.items (vec_len c.self.inside.log) (vec_capacity c.self.inside.log) c.self.inside.slots c.self.inside.hands.items c.self.inside.shut c.in-Some.k c.at-job.result c.self.invariant.0 c.in-Some.ensures.0 c.at-job.ensures ne in
    let room = after.room in
    omega (arith, room, c.in-Err.ensures.full)

pub returns-clause-log : goal.returns-clause-log
returns-clause-log c =
    let log = c.self.inside.log.items in
    let job = c.args.job.now in
    let i : Slot = c.at-job.result in
    let at = stands_at log (vec_len c.self.inside.log) (vec_capacity c.self.inside.log) c.self.inside.slots c.self.inside.hands.items c.self.inside.shut c.in-Some.k i c.self.invariant.0 c.in-Some.ensures.0 (here c) in
    let is : standing log job ≡ Some i.standing = ap (standing log) (sym (same c)) ∙ at.0 in
    let ne : i.standing ≢ Taken = c.if-is_taken.ensures in
    let events : Take i.job ∷ [] ≡ take_events job (standing log job) =
    ap (λ j. Take j ∷ []) (same c) ∙ (sym (take_events-some job i.standing ne) ∙ ap (take_events job) (sym is)) in
    c.in-Ok.ensures.items ∙ (ap (λ l. log ++ l) events ∙ ap (λ (v : LogValue). v.log ++ take_events job (standing v.log job)) c.self.view_is)
