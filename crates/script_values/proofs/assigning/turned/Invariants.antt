use Rattle.std.proofs.Common.{◌≡◌, ◌++◌, length, reverse}
use Rattle.script_values.proofs.assigning.turned.Given as goal

abbrev pub invariant-loop-f : goal.invariant-loop-f
invariant-loop-f l = l.turned ++ reverse l.left ≡ reverse l.fn.polys

abbrev pub decreases-loop-f : goal.decreases-loop-f
decreases-loop-f l = length l.left
