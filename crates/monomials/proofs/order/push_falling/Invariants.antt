use Rattle.std.proofs.Common.{ℕ, ◌+◌, ◌≤◌}
use Rattle.monomials.specs.Blocks.{last_first}
use Rattle.monomials.proofs.AddedRows.{AddsUpTo}
use Rattle.monomials.proofs.order.push_falling.Given as goal

abbrev pub invariant-loop-k : goal.invariant-loop-k
invariant-loop-k l =
    (n : ℕ) → l.at + l.count ≤ n →
    AddsUpTo n l.fn.rows.items l.rows.items (last_first n l.at l.k) (last_first n l.at l.count)
