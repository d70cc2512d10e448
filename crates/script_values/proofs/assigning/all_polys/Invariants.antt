use Rattle.std.proofs.Common.{◌≡◌, length, reverse}
use Rattle.script_model.specs.Statements.{all_polys}
use Rattle.script_values.proofs.Assigned.{appended}
use Rattle.script_values.proofs.assigning.all_polys.Given as goal

abbrev pub invariant-loop-value : goal.invariant-loop-value
invariant-loop-value l = all_polys l.fn.values ≡ appended (reverse l.polys) (all_polys l.left)

abbrev pub decreases-loop-value : goal.decreases-loop-value
decreases-loop-value l = length l.left
