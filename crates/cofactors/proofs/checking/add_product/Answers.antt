use Rattle.cofactors.proofs.RowLaws.{add-zero, add-zero_right}
use Rattle.cofactors.proofs.checking.add_product.Goals as goal
use Rattle.cofactors.proofs.checking.add_product.Goals.{then-is_zero-via-then-is_zero, then-is_zero-via-else-is_zero+then-is_zero-2}

pub returns-then-is_zero-clause-value : goal.returns-then-is_zero-clause-value
returns-then-is_zero-clause-value g c =
    let A = c.args.seat.now.algebra in
    elim c.then-is_zero.branch [
      | then-is_zero-via-then-is_zero w ↦ add-zero A c.args.f.now c.args.g.now c.args.sum.now (c.is_zero.ensures.0 w.if-is_zero.true)
      | then-is_zero-via-else-is_zero+then-is_zero-2 w ↦ add-zero_right A c.args.f.now c.args.g.now c.args.sum.now (w.is_zero-else-is_zero.ensures.0 w.if-is_zero-2.true)
    ]
