use Rattle.std.proofs.Common.{◌≡◌, ◌++◌, [], take, drop, reverse, replicate}
use Rattle.script_values.proofs.assigning.next_row.Given as goal

abbrev pub invariant-loop-column : goal.invariant-loop-column
invariant-loop-column l = record {
  entries : l.entries.items ≡ take l._column (reverse l.fn.left ++ replicate l.fn.columns []);
  left : reverse l.left ≡ drop l._column (reverse l.fn.left);
}
