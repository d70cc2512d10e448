use Rattle.std.proofs.Common.{◌≡◌, ◌+◌, ◌-◌, ◌++◌}
use Rattle.script_model.specs.Statements as spec
use Rattle.script_rings.proofs.pairs.all_pairs.Given as goal

abbrev pub invariant-loop-i : goal.invariant-loop-i
invariant-loop-i l = l.pairs.items ++ spec.pairs_from l.i (l.n + 1 - l.i) ≡ spec.all_pairs l.n
