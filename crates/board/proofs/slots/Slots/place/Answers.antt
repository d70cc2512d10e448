use Rattle.std.proofs.Common.{◌≡◌, ◌<◌, ℕ, List, Option, Some, None, MatchOption, true, false, slice_index_or, length, sym, ◌∙◌, ap, subst}
use Rattle.std.specs.BTreeMap.{get}
use Rattle.word_model.specs.Jobs.{same_job}
use Rattle.board.specs.declared.slots.Slot.{Slot}
use Rattle.board.specs.Slots.{key, key_cmp, IsNew}
use Rattle.board.proofs.Finding.{found, not_found}
use Rattle.board.proofs.slots.Slots.place.Goals as goal

pub returns : goal.returns
returns c =
    let at = get key_cmp c.self.inside.places in
    let j = c.args.job.now in
    let slots = c.self.inside.slots.items in
    let is : c.copied.result ≡ at (key j) = c.copied.ensures ∙ (c.get.ensures.value ∙ ap at c.key.ensures) in
    subst (λ (xs : List Slot). MatchOption c.copied.result (IsNew xs j)
    (λ k. (k < length xs) × ((d : Slot) → same_job (slice_index_or xs k d).job j ≡ true) × ((m : ℕ) (d : Slot) → m < k → same_job (slice_index_or xs m d).job j ≡ false)))
    c.self.view_is (by c.copied.result is)
  where
    by : (r : Option ℕ) → r ≡ get key_cmp c.self.inside.places (key c.args.job.now) → MatchOption r (IsNew c.self.inside.slots.items c.args.job.now)
        (λ k. (k < length c.self.inside.slots.items) × ((d : Slot) → same_job (slice_index_or c.self.inside.slots.items k d).job c.args.job.now ≡ true) × ((m : ℕ) (d : Slot) → m < k → same_job (slice_index_or c.self.inside.slots.items m d).job c.args.job.now ≡ false))
    by None is = not_found (get key_cmp c.self.inside.places) c.self.inside.slots.items c.self.invariant.0 c.args.job.now (sym is)
    by (Some k) is = found (get key_cmp c.self.inside.places) c.self.inside.slots.items c.self.invariant.0 c.args.job.now k (sym is)
