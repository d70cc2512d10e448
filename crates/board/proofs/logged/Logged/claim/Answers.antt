use Rattle.std.proofs.Common.{rules, arith, ◌≡◌, ◌<◌, List, slice_index_or, slice_set, length, sym, ◌∙◌, ap, subst, Some, vec_len, vec_capacity}
use Rattle.std.proofs.lemmas.List.{append-nil, length-set}
use Rattle.board.specs.declared.slots.Slot.{Slot}
use Rattle.word_model.specs.declared.events.Claimed.TheVariants.{NoneNow, Job as Gets}
use Rattle.board.specs.Boards.{claimed}
use Rattle.word_model.specs.declared.events.Standing.TheVariants.{Offered, Held}
use Rattle.board.specs.Logs.{LogValue, Fits}
use Rattle.board.specs.Boards.{hand}
use Rattle.board.proofs.Boards.{claimed-none, claimed-some, claim_fits, fits_grows}
use Rattle.board.proofs.logged.Logged.claim.Goals as goal

none_now : (c : goal.In_default) → claimed c.args.self.now.log ≡ NoneNow
none_now c = sym (ap (λ (v : LogValue). claimed v.log) c.self.view_is) ∙ claimed-none c.self.inside.log.items _ _ c.self.inside.slots c.self.inside.hands.items c.self.inside.shut c.self.invariant.0 c.if-self.false c.in_default.ensures.first

pub returns-in_default-clause-answer : goal.returns-in_default-clause-answer
returns-in_default-clause-answer c = sym (none_now c)

pub returns-in_default-clause-log : goal.returns-in_default-clause-log
returns-in_default-clause-log c = rw (none_now c) (ap (λ (v : LogValue). v.log) c.self.view_is ∙ sym (append-nil _))

here : (c : goal.In-Ok) (d : Slot) → slice_index_or c.self.inside.slots c.in-Some.k d ≡ c.at-job.result
here c d = ap (λ (xs : List Slot). slice_index_or xs c.in-Some.k d) (sym c.in-Some.ensures.same) ∙ c.at-job.ensures d

stood : (c : goal.In-Ok) → c.stand.new.self ≡ slice_set c.self.inside.slots c.in-Some.k (record { job = c.at-job.result.job; standing = Held c.args.seat })
stood c =
    c.stand.ensures c.at-job.result
    ∙ (ap (λ (x : Slot). slice_set c.first_offered.new.self c.in-Some.k (record { job = x.job; standing = Held c.args.seat })) (c.at-job.ensures c.at-job.result)
    ∙ ap (λ (xs : List Slot). slice_set xs c.in-Some.k (record { job = c.at-job.result.job; standing = Held c.args.seat })) c.in-Some.ensures.same)

gets : (c : goal.In-Ok) → claimed c.args.self.now.log ≡ Gets c.at-job.result.job
gets c =
    let first = c.in-Some.ensures.first in
    sym (ap (λ (v : LogValue). claimed v.log) c.self.view_is) ∙ claimed-some c.self.inside.log.items _ _ c.self.inside.slots c.self.inside.hands.items c.self.inside.shut c.in-Some.k c.at-job.result c.self.invariant.0 c.if-self.false first.0 (here c) (subst (λ (z : Slot). z.standing ≡ Offered) (here c c.at-job.result) (first.1 c.at-job.result)) first.2

pub returns-clause-answer : goal.returns-clause-answer
returns-clause-answer c = sym (gets c)

pub returns-clause-log : goal.returns-clause-log
returns-clause-log c = rw (gets c) (search (rules, c.in-Ok.ensures.items, ap (λ (v : LogValue). v.log) c.self.view_is))

pub invariant_of-self : goal.invariant_of-self
invariant_of-self c = (
  subst (λ (xs : List Slot). Fits c.self.inside.log.items (vec_len c.self.inside.log) (vec_capacity c.self.inside.log) xs c.self.inside.hands.items c.self.inside.shut)
      (sym c.in_default.ensures.same) c.self.invariant.0,
  c.self.invariant.1,
)

pub invariant_of-self-2 : goal.invariant_of-self-2
invariant_of-self-2 c =
    let first = c.in-Some.ensures.first in
    let seats : c.args.seat < length c.self.inside.hands.items = let e = ap (λ (v : LogValue). v.seats) c.self.view_is in omega (arith, c.self.invariant.1, c.requires.exists) in
    let empty = ap (λ (v : LogValue). hand v.log c.args.seat) c.self.view_is ∙ c.requires.empty in
    let after = claim_fits c.self.inside.log.items (vec_len c.self.inside.log) (vec_capacity c.self.inside.log) c.self.inside.slots c.self.inside.hands.items c.self.inside.shut c.in-Some.k c.at-job.result c.args.seat c.self.invariant.0 first.0 (here c) (subst (λ (z : Slot). z.standing ≡ Offered) (here c c.at-job.result) (first.1 c.at-job.result)) seats empty in
    (rw (c.in-Ok.ensures.items, stood c) (fits_grows _ _ _ _ _ _ _ _ after c.in-Ok.ensures.len c.push.ensures.capacity), omega (arith, c.self.invariant.1, length-set c.self.inside.hands.items c.args.seat (Some c.at-job.result.job)))
