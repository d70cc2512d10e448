use Rattle.std.proofs.Common.{ℕ, ◌<◌, ◌≤◌, ◌+◌, ◌/◌, ◌%◌, ◌⊎◌}
use Rattle.std.specs.List.{Contains}
use Rattle.monomials.specs.Polynomials.{Each}
use Rattle.gproduct.specs.Inside.Passing.{IsCommuting, IsPair}
use Rattle.gproduct.proofs.pairs.noncommuting.Given as goal

abbrev pub invariant-loop-place : goal.invariant-loop-place
invariant-loop-place l = record {
  are : Each (IsPair l.alg.order.vars) l.pairs.items;
  all : (k : ℕ) → k < l.place → k / 16 + 1 < k % 16 + 1 → k % 16 + 1 ≤ l.alg.order.vars
      → IsCommuting l.alg (k / 16 + 1) (k % 16 + 1) ⊎ Contains l.pairs.items (record { i = k / 16 + 1; j = k % 16 + 1 });
}
