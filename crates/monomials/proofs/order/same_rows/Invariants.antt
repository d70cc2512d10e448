use Rattle.std.proofs.Common.{◌≡◌, map, take}
use Rattle.monomials.specs.Rows.{row_entries}
use Rattle.monomials.proofs.order.same_rows.Given as goal

abbrev pub invariant-loop-i : goal.invariant-loop-i
invariant-loop-i l = map (row_entries l.n) (take l.i l.rows) ≡ map (row_entries l.n) (take l.i l.others)
