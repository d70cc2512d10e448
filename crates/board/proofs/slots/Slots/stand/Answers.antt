use Rattle.std.proofs.Common.{◌≡◌, ◌<◌, List, slice_index_or, length, sym, ◌∙◌, ap, subst, arith}
use Rattle.std.specs.BTreeMap.{get}
use Rattle.std.proofs.lemmas.List.{length-set}
use Rattle.board.specs.declared.slots.Slot.{Slot}
use Rattle.board.specs.Slots.{key_cmp, Finds}
use Rattle.board.proofs.Logs.{map-set_same}
use Rattle.board.proofs.Boards.{any_default}
use Rattle.board.proofs.Finding.{none-set}
use Rattle.board.proofs.slots.Slots.stand.Goals as goal

pub invariant_of-self : goal.invariant_of-self
invariant_of-self c =
    let slots = c.self.inside.slots.items in
    let y : Slot = record { job = c.index_mut.result.now.job; standing = c.args.standing } in
    let inside : c.args.place < length slots = subst (λ (xs : List Slot). c.args.place < length xs) (sym c.self.view_is) c.requires.inside in
    let same : y.job ≡ (slice_index_or slots c.args.place y).job = ap (λ (x : Slot). x.job) (c.index_mut.ensures.value ∙ any_default slots c.args.place c.index_mut.result.now y inside) in (
      subst (Finds (get key_cmp c.self.inside.places)) (sym (map-set_same (λ (x : Slot). x.job) slots c.args.place y y inside same)) c.self.invariant.0,
      omega (arith, c.self.invariant.1, length-set slots c.args.place y),
      none-set c.self.inside.passed slots c.args.place y c.requires.once c.self.invariant.2,
    )
