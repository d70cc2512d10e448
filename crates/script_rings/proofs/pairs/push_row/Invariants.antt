use Rattle.std.proofs.Common.{◌≡◌, ◌+◌, ◌-◌, ◌++◌, suc}
use Rattle.script_model.specs.Statements as spec
use Rattle.script_rings.proofs.pairs.push_row.Given as goal

abbrev pub invariant-loop-j : goal.invariant-loop-j
invariant-loop-j l = l.pairs.items ++ spec.pairs_row l.i l.j (l.n + 1 - l.j) ≡ l.fn.pairs.items ++ spec.pairs_row l.i (suc l.i) (l.n - l.i)
