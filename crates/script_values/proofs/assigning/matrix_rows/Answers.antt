use Rattle.std.proofs.Common.{reverse}
use Rattle.script_values.proofs.Assigned.{rows_more}
use Rattle.script_values.proofs.assigning.matrix_rows.Goals as goal

pub loop-row-preserved : goal.loop-row-preserved
loop-row-preserved c =
    rw c.in_ok-push.ensures.ok
    (rows_more c.args.columns c.args.rows c.loop-row._row (reverse c.loop-row.left) (reverse c.next_row.new.left) c.in_ok-next_row.field-0 c.loop-row.made _
    c.loop-row-test.true c.loop-row.invariant c.in_ok-next_row.ensures.row c.in_ok-next_row.ensures.left)
