use Rattle.std.proofs.Common.{◌≡◌, ◌≤◌, ◌+◌, ◌-◌, ◌*◌, ◌++◌, List, length, map, take, vec_len, vec_capacity, false, None, sym, ap, ◌∙◌, subst, arith, rules}
use Rattle.std.proofs.lemmas.List.{take_all}
use Rattle.monomials.specs.Polynomials.{Each}
use Rattle.word_model.specs.declared.records.Job.{Job}
use Rattle.word_model.specs.declared.events.BoardEvent.TheVariants.{Offer}
use Rattle.board.specs.Boards.{standing, closed}
use Rattle.board.specs.Logs.{Fits, LogValue}
use Rattle.board.proofs.Boards.{wide_fits, fits_grows}
use Rattle.board.proofs.Offers.{offers_fit, all_new, slot_for}
use Rattle.board.proofs.logged.Logged.offer.Goals as goal

pub offer-requires-clause-new : goal.offer-requires-clause-new
offer-requires-clause-new c =
    all_new c.self.inside.log.items (vec_len c.self.inside.log) (vec_capacity c.self.inside.log) c.self.inside.slots c.self.inside.hands.items c.self.inside.shut c.args.jobs.now c.self.invariant.0
    (subst (λ (v : LogValue). Each (λ j. standing v.log j ≡ None) c.args.jobs.now) (sym c.self.view_is) c.requires.new)

pub invariant_of-self-in_err-offer : goal.invariant_of-self-in_err-offer
invariant_of-self-in_err-offer c =
    (rw (c.in_ok-reserve.ensures.items, c.in_err-offer.ensures.refused) (fits_grows _ _ _ _ _ _ _ _ c.self.invariant.0 c.in_ok-reserve.ensures.len c.reserve.ensures.capacity), c.self.invariant.1)

pub invariant_of-self-in-loop-job : goal.invariant_of-self-in-loop-job
invariant_of-self-in-loop-job c =
    let own = c.self.inside in
    let now = c.loop-job.self-inside in
    let is = c.loop-job.invariant in
    let jobs : List Job = c.args.jobs.now in
    let n : c.loop-job.job-index ≡ length jobs = omega (arith, c.loop-job-test.false, c.loop-job.auto.job-index-end) in
    let open_now : own.shut ≡ false = c.self.invariant.0.shut ∙ (ap (λ (v : LogValue). closed v.log) c.self.view_is ∙ c.requires.open) in
    let fresh = subst (λ (v : LogValue). Each (λ j. standing v.log j ≡ None) jobs) (sym c.self.view_is) c.requires.new in
    let m : length own.hands.items ≡ vec_len own.hands = search rules in
    let len = vec_len c.reserve.new.self in
    let room = vec_capacity c.reserve.new.self in
    let wide : len + (3 * length own.slots + length own.hands.items + 1) ≤ room - 4 * length jobs =
    omega (arith, m, c.len.ensures, c.len-2.ensures, c.in-Some.ensures, c.in_ok-reserve.ensures.len, c.in_ok-reserve.ensures.ok) in
    let grown = fits_grows own.log.items (vec_len own.log) len (vec_capacity own.log) room own.slots own.hands.items own.shut c.self.invariant.0 c.in_ok-reserve.ensures.len c.reserve.ensures.capacity in
    let wide_now = wide_fits own.log.items len room (room - 4 * length jobs) own.slots own.hands.items own.shut grown wide in
    let open_fits = subst (λ b. Fits own.log.items len (room - 4 * length jobs) own.slots own.hands.items b) open_now wide_now in
    let after = offers_fit own.log.items len (room - 4 * length jobs) (vec_len now.log) (vec_capacity now.log) own.slots own.hands.items jobs open_fits fresh c.requires.differ
    (omega (arith, is.len, n)) (omega (arith, is.room, wide)) in
    let log : now.log.items ≡ own.log.items ++ map Offer jobs =
    is.log ∙ (ap (λ l. l ++ map Offer (take c.loop-job.job-index jobs)) c.in_ok-reserve.ensures.items
    ∙ (ap (λ i. own.log.items ++ map Offer (take i jobs)) n ∙ ap (λ l. own.log.items ++ map Offer l) (take_all (length jobs) jobs (omega arith)))) in
    let slots : now.slots ≡ own.slots ++ map slot_for jobs = is.slots ∙ c.in_ok-offer.ensures.slots in
    let shut : now.shut ≡ false = is.shut ∙ open_now in
    (rw (log, slots, is.hands, shut) after, rw (is.hands, is.seats) c.self.invariant.1)
