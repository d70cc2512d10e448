use Rattle.std.proofs.Common.{All, ◌≤◌}
use Rattle.elimination.proofs.tests.variables.Given as goal

abbrev pub invariant-loop-byte : goal.invariant-loop-byte
invariant-loop-byte l = All (λ v. (1 ≤ v) × (v ≤ 3)) l.vars.items
