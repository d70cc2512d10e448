use Rattle.std.proofs.Common.{◌≡◌, ◌++◌, ◌-◌, reverse}
use Rattle.script_model.specs.Statements.{matrix_rows}
use Rattle.script_values.proofs.assigning.matrix_rows.Given as goal

abbrev pub invariant-loop-row : goal.invariant-loop-row
invariant-loop-row l = matrix_rows l.rows l.columns (reverse l.fn.polys) ≡ l.made ++ matrix_rows (l.rows - l._row) l.columns (reverse l.left)
