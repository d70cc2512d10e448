use Rattle.std.proofs.Common.{◌≡◌, map, drop}
use Rattle.monomials.specs.Orders.{rows_cmp}
use Rattle.monomials.specs.Rows.{row_entries}
use Rattle.monomials.proofs.order.Order.compare.Given as goal

abbrev pub invariant-loop-row : goal.invariant-loop-row
invariant-loop-row l =
    rows_cmp (map (row_entries l.self.vars) (drop l.row-index l.row-items)) l.a l.b ≡ rows_cmp l.self.rows l.a l.b
