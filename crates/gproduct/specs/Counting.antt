-- How a counter of products rises.
use Rattle.std.specs.Prelude.{◌≡◌, ℕ, ◌+◌, ◌≤◌, Result, Ok, Err}
use Rattle.algebra.specs.declared.ProductFault.{ProductFault}
use Rattle.algebra.specs.declared.ProductFault.TheVariants.{DegreeOver, Memory}

-- A call that makes k products counts them; where the degrees are over the limit it counts none, and where memory is
-- wanting at most k.
abbrev pub Counts : {V : Type 0} → ℕ → Result V ProductFault → ℕ → ℕ → Type 0
Counts k (Ok value) before after = after ≡ before + k
Counts k (Err DegreeOver) before after = after ≡ before
Counts k (Err Memory) before after = (before ≤ after) × (after ≤ before + k)
