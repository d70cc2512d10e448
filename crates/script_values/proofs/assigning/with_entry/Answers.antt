use Rattle.std.proofs.Common.{◌++◌, ◌-◌, ◌<◌, ◌+◌, [], length, arith, sym, subst, ap, ◌∙◌}
use Rattle.std.proofs.lemmas.Bool.Decides.{nat_tests}
use Rattle.std.proofs.lemmas.List.{get_or_default, take_rest}
use Rattle.monomials.specs.Polynomials.{Each}
use Rattle.script_values.specs.Values.{ArePolynomials}
use Rattle.script_values.proofs.Assigned.{with_entry-of_ring, with_entry_is}
use Rattle.script_values.proofs.assigning.with_entry.Goals as goal

pub returns-clause-value : goal.returns-clause-value
returns-clause-value c =
    let within : c.args.row - 1 < length c.args.rows.now = grind (arith, nat_tests, c.requires) in
    with_entry_is c.args.rows.now c.in_ok-all.all c.in_ok-copy_rows.field-0 c.append.new.self _ c.in_ok-changed.changed c.args.row c.args.column c.args.f
    within (c.index-rows-place.is ∙ get_or_default c.args.rows.now (c.args.row - 1) _ [] within) c.in_ok-changed.ensures c.in_ok-all.ensures (c.in_ok-copy_rows.ensures ∙ take_rest c.args.rows.now (c.args.row - 1 + 1)) (c.in_ok-append.ensures ∙ ap (λ xs. xs ++ c.in_ok-copy_rows.field-0) c.in_ok-push.ensures.ok)

pub returns-clause-of_ring : goal.returns-clause-of_ring
returns-clause-of_ring c = λ A rows f.
    subst (Each (ArePolynomials A)) (sym (returns-clause-value c)) (with_entry-of_ring A c.args.rows.now c.args.row c.args.column c.args.f rows f)
