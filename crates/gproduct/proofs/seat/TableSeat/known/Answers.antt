use Rattle.std.proofs.Common.{◌≡◌, ◌<◌, length, map, slice_index_or, Some, None, IfSome, ℕ, sym, ◌∙◌, refl, ap, subst}
use Rattle.std.proofs.lemmas.List.{get_or-map}
use Rattle.std.specs.Option.{option_map}
use Rattle.word_model.specs.Words.{Algebra}
use Rattle.gproduct.specs.Places.{place_value, cell_of}
use Rattle.gproduct.specs.Seats.{Seat, Knows}
use Rattle.gproduct.specs.declared.seat.Slot.{Slot}
use Rattle.gproduct.proofs.seat.TableSeat.known.Goals as goal

pub returns-then-same_place : goal.returns-then-same_place
returns-then-same_place c =
    let slots = c.self.inside.seen.items in
    let k : ℕ = c.cell.result in
    let found = c.in_ok-found.found in
    let place : found.now.place ≡ c.args.place = c.if-same_place.ensures.0 refl in
    let inside : k < length slots = rw (← c.deref.ensures.value) c.in_ok-slot.ensures.lookup.3.0 in
    let there : c.in_ok-slot.slot.now ≡ slice_index_or slots k c.in_ok-slot.slot.now = rw (← c.deref.ensures.value) (c.in_ok-slot.ensures.lookup.3.1 c.in_ok-slot.slot.now) in
    let cell : (slice_index_or slots k c.in_ok-slot.slot.now).cell ≡ Some found = ap (λ (o : Slot). o.cell) (sym there) ∙ c.in_ok-found.was in
    let algebra : found.now.algebra.now ≡ c.self.inside.table.now =
    subst (λ o. IfSome o (λ f. f.now.algebra.now ≡ c.self.inside.table.now)) cell (c.self.invariant.0 k c.in_ok-slot.slot.now inside) in
    let at : k ≡ cell_of c.self.inside.table.now.order.vars c.args.place =
    c.cell.ensures ∙ ap (λ n. cell_of n c.args.place) (c.n-n.ensures.value ∙ ap (λ (A : Algebra). A.order.vars) (c.algebra.ensures ∙ ap (λ (s : Seat). s.algebra) (sym c.self.view_is))) in
    let seen = λ (o : Slot). option_map (λ f. f.now.place) o.cell in
    let knows : slice_index_or (map seen slots) k None ≡ Some c.args.place =
    get_or-map seen slots k c.in_ok-slot.slot.now None inside ∙ ap (option_map (λ f. f.now.place)) cell ∙ ap Some place in
    subst (λ (s : Seat). Knows s c.args.place × (found.now.value ≡ place_value s.algebra c.args.place)) c.self.view_is (
      ap (λ i. slice_index_or (map seen slots) i None) (sym at) ∙ knows,
      found.now.right ∙ (λ n. place_value (algebra n) (place n)),
    )
