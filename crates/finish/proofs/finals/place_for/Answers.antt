use Rattle.std.proofs.Common.{◌≡◌, ◌<◌, true, [], slice_index_or, length, ap, ◌∙◌, arith, le_refl}
use Rattle.word_model.specs.Finished.{Final}
use Rattle.std.proofs.lemmas.List.{get_or_default}
use Rattle.finish.proofs.Finishing.{is_before, is_before-is, insert_final-at}
use Rattle.finish.proofs.finals.place_for.Goals as goal

none : Final
none = record { polynomial = []; origin = 0; tail = [] }

pub returns-then-is_lt-clause-place : goal.returns-then-is_lt-clause-place
unfolding none
returns-then-is_lt-clause-place c =
    let finals = c.args.finals.now in
    let A = c.args.algebra.now in
    let f = c.args.polynomial.now in
    let k = c.loop-place.place in
    let y : Final = record { polynomial = c.other.inside.polynomial; origin = c.other.inside.origin; tail = c.other.inside.tail } in
    let below : k < length finals = omega (arith, c.loop-place-test.true) in
    let at : y ≡ slice_index_or finals k none = c.other.view_is ∙ c.index-finals-place.is ∙ get_or_default finals k c.index-finals-place.result none below in
    let here : is_before A f (slice_index_or finals k none) ≡ true =
    is_before-is A f y (slice_index_or finals k none) c.order.result.now c.lead.result.now.mono c.lead-in-loop-place.result.now.mono c.compare.result c.is_lt.result
    at c.order.ensures c.lead.ensures.mono c.lead-in-loop-place.ensures.mono c.compare.ensures.value c.is_lt.ensures ∙ c.if-is_lt.true in
    λ x x_is. insert_final-at A x finals none k (omega (arith, below))
    (λ j less. ap (λ f. is_before A f (slice_index_or finals j none)) x_is ∙ c.loop-place.invariant j less)
    (λ less. ap (λ f. is_before A f (slice_index_or finals k none)) x_is ∙ here)

pub returns-clause-place : goal.returns-clause-place
unfolding none
returns-clause-place c =
    let finals = c.args.finals.now in
    let A = c.args.algebra.now in
    λ x x_is. insert_final-at A x finals none (length finals) (le_refl (length finals))
    (λ j less. ap (λ f. is_before A f (slice_index_or finals j none)) x_is ∙ c.loop-place.invariant j (omega (arith, less, c.loop-place-test.false)))
    (λ less. absurd (omega (arith, less)))
