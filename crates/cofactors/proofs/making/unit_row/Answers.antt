use Rattle.std.proofs.Common.{◌-◌, slice_set, sym, subst}
use Rattle.monomials.specs.Polynomials.{IsPolynomial}
use Rattle.cofactors.specs.Rows.{IsRow}
use Rattle.cofactors.proofs.RowLaws.{unit_row-is}
use Rattle.cofactors.proofs.making.unit_row.Goals as goal

pub returns-clause-sorted : goal.returns-clause-sorted
returns-clause-sorted c =
    let A = c.args.algebra.now in
    let n = c.args.count in
    subst (IsRow A n) (sym (λ i. slice_set (c.in_ok-entries.ensures i) (c.args.s - 1) (c.in_ok-one.ensures.value i)))
    (unit_row-is A n c.args.s (subst (IsPolynomial A.p A.order) c.in_ok-one.ensures.value c.in_ok-one.ensures.sorted))
