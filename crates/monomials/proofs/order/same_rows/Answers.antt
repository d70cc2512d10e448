use Rattle.monomials.specs.Rows.{row_entries}
use Rattle.monomials.proofs.SameRows.{map_at}
use Rattle.monomials.proofs.order.same_rows.Goals as goal

pub returns-then-not-same : goal.returns-then-not-same
returns-then-not-same c =
    let differ = c.if-not-same.ensures in (
      λ no. cc,
      λ e. differ.1 (map_at (row_entries c.args.n) _ c.args.rows.now c.args.others.now c.loop-i.i e c.loop-i-test.true),
    )
