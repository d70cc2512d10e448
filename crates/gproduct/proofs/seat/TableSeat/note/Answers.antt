use Rattle.std.proofs.Common.{◌≡◌, ◌<◌, length, slice_index_or, slice_set, map, Some, None, true, sym, ◌∙◌, refl, ap, subst}
use Rattle.std.proofs.Math.ListN.{length-set}
use Rattle.std.proofs.lemmas.List.{length-map}
use Rattle.std.specs.Option.{option_map}
use Rattle.word_model.specs.Words.{Algebra}
use Rattle.gproduct.specs.Places.{cell_of}
use Rattle.gproduct.specs.Seats.{Seat, Knows}
use Rattle.gproduct.specs.declared.seat.Slot.{Slot}
use Rattle.gproduct.proofs.Known.{still_known, now_known}
use Rattle.gproduct.proofs.seat.TableSeat.note.Goals as goal

pub returns-then-is_free-clause-kept : goal.returns-then-is_free-clause-kept
returns-then-is_free-clause-kept c place known =
    let free = (c.if-is_free.ensures (refl {a = true})).1 in
    let free_inside : slice_index_or c.self.inside.seen.items c.cell-index.result (record { cell = None }) ≡ record { cell = None } = rw (← c.deref.ensures.value) free in
    let had = subst (λ (s : Seat). Knows s place) (sym c.self.view_is) known in
    rw c.fill_slot.ensures
    (still_known (λ o. option_map (λ f. f.now.place) o.cell) (record { cell = None }) (refl {a = None}) c.self.inside.seen.items c.cell-index.result (record { cell = Some c.args.found }) _ place free_inside had)

pub returns-then-is_free-clause-noted : goal.returns-then-is_free-clause-noted
returns-then-is_free-clause-noted c _ =
    let few = (c.if-is_free.ensures (refl {a = true})).0 in
    let few_inside : c.cell-index.result < length c.self.inside.seen.items = rw (← c.deref.ensures.value) few in
    let at : c.cell-index.result ≡ cell_of c.self.inside.table.now.order.vars c.args.found.now.place =
    c.cell-index.ensures ∙ ap (λ n. cell_of n c.args.found.now.place) (c.n.ensures.value ∙ ap (λ (A : Algebra). A.order.vars) (c.algebra.ensures ∙ ap (λ (s : Seat). s.algebra) (sym c.self.view_is))) in
    rw c.fill_slot.ensures
    (ap (λ k. slice_index_or (map (λ o. option_map (λ f. f.now.place) o.cell) (slice_set c.self.inside.seen.items c.cell-index.result (record { cell = Some c.args.found }))) k None) (sym at)
    ∙ now_known (λ o. option_map (λ f. f.now.place) o.cell) (record { cell = None }) (refl {a = None}) c.self.inside.seen.items c.cell-index.result (record { cell = Some c.args.found }) few_inside)

pub returns-then-is_free-clause-slots : goal.returns-then-is_free-clause-slots
returns-then-is_free-clause-slots c =
    let seen = λ (o : Slot). option_map (λ f. f.now.place) o.cell in
    let slots = c.self.inside.seen.items in
    rw c.fill_slot.ensures
    (length-map (slice_set slots c.cell-index.result (record { cell = Some c.args.found })) seen
    ∙ length-set slots c.cell-index.result (record { cell = Some c.args.found })
    ∙ sym (length-map slots seen)
    ∙ ap (λ (s : Seat). length s.seen) c.self.view_is)
