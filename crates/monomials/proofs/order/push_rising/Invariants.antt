use Rattle.std.proofs.Common.{ℕ, ◌+◌, ◌-◌, ◌≤◌}
use Rattle.monomials.specs.Blocks.{first_first}
use Rattle.monomials.proofs.AddedRows.{AddsUpTo}
use Rattle.monomials.proofs.order.push_rising.Given as goal

abbrev pub invariant-loop-k : goal.invariant-loop-k
invariant-loop-k l =
    (n : ℕ) → l.at + l.count ≤ n →
    AddsUpTo n l.fn.rows.items l.rows.items (first_first n (l.at + l.k) (l.count - l.k)) (first_first n l.at l.count)
