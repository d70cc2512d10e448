use Rattle.std.proofs.Common.{◌≡◌, ◌+◌, ◌-◌, ℕ, length}
use Rattle.gproduct.specs.Inside.Kept.{factor_at}
use Rattle.gproduct.proofs.kept.add_places.Given as goal

abbrev pub invariant-loop-alloc : goal.invariant-loop-alloc
invariant-loop-alloc l = (k : ℕ) → factor_at l.factors.items k ≡ factor_at l.fn.factors.items k

abbrev pub decreases-loop-alloc : goal.decreases-loop-alloc
decreases-loop-alloc l = l.number + 1 - length l.factors.items
