use Rattle.std.proofs.Common.{◌≡◌, Some, None, length, slice_index_or, sym, ◌∙◌, refl, rules, arith}
use Rattle.std.proofs.lemmas.List.{get_or_default, length-map}
use Rattle.std.specs.Option.{option_map}
use Rattle.gproduct.specs.Places.{cell_of, cell_count}
use Rattle.gproduct.proofs.Known.{none_known}
use Rattle.gproduct.proofs.table.Table.seat.Goals as goal

pub invariant_of-result : goal.invariant_of-result
invariant_of-result c = (
  λ k d inside.
      let free : slice_index_or c.loop-slot.seen.items k d ≡ record { cell = None } = get_or_default c.loop-slot.seen.items k d (record { cell = None }) inside ∙ c.loop-slot.invariant.free k in
      rw free tt,
  c.new.ensures.kept c.args.self.now,
)

pub returns : goal.returns
returns c = record {
  algebra = refl;
  nothing = λ place known.
      let none = none_known (λ o. option_map (λ f. f.now.place) o.cell) (record { cell = None }) (refl {a = None}) c.loop-slot.seen.items c.loop-slot.invariant.free (cell_of c.args.self.now.order.vars place) in
      let both : None ≡ Some place = sym none ∙ known in
      search rules;
  slots =
      let count : length c.loop-slot.seen.items ≡ cell_count c.args.self.now.order.vars = omega (arith, c.loop-slot.invariant.count, c.loop-slot-test.false, c.count-slot-end.ensures, c.loop-slot.auto._slot-end) in
      length-map c.loop-slot.seen.items (λ o. option_map (λ f. f.now.place) o.cell) ∙ count;
}
