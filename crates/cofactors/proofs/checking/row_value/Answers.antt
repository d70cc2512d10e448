use Rattle.std.proofs.Common.{◌≡◌, ◌-◌, ◌<◌, [], length, slice_index_or, sym, ◌∙◌, arith}
use Rattle.std.proofs.lemmas.Result.{err_from_is_err_and}
use Rattle.word_model.specs.Products.{in_reach}
use Rattle.std.proofs.lemmas.List.{get_or_default}
use Rattle.algebra.proofs.MetFaults.{met_fault}
use Rattle.cofactors.proofs.RowLaws.{value_reaches-at}
use Rattle.cofactors.proofs.checking.row_value.Goals as goal

pub returns-in_err-add_product-clause-over : goal.returns-in_err-add_product-clause-over
returns-in_err-add_product-clause-over g c =
    let p = err_from_is_err_and c.from_residual.result c.from_residual.ensures.1 in
    let k = c.loop-place.place - 1 in
    let entries = c.args.entries.now in
    let gens = c.args.gens.now in
    let below : c.loop-place.place - 1 < length c.args.entries.now = omega (arith, c.loop-place.invariant.in_range, c.loop-place-test.true) in
    let below_gens : c.loop-place.place - 1 < length c.args.gens.now = omega (arith, below, c.requires.entries.one_each) in
    let entry_is : slice_index_or entries k [] ≡ c.index-entries-place.result = sym (c.index-entries-place.is ∙ get_or_default entries k c.index-entries-place.result [] below) in
    let gen_is : slice_index_or gens k [] ≡ c.index-gens-place.result = sym (c.index-gens-place.is ∙ get_or_default gens k c.index-gens-place.result [] below_gens) in
    λ e. value_reaches-at entries gens k below below_gens ((λ i. in_reach (entry_is i) (gen_is i)) ∙ c.in_err-add_product.ensures.over (met_fault _ p.0 _ _ p.1 p.2 e))
