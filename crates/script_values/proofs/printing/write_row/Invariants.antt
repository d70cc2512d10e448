use Rattle.std.proofs.Common.{◌≡◌, ◌++◌, ◌+◌, drop}
use Rattle.script_model.specs.Statements.{matrix_row}
use Rattle.script_values.specs.Values.{ArePolynomials}
use Rattle.script_values.proofs.printing.write_row.Given as goal

abbrev pub invariant-loop-index : goal.invariant-loop-index
invariant-loop-index l = record {
  written :
      l.text.items ++ matrix_row l.ring l.label l.number (l.index + 1) (drop l.index l.entries)
      ≡ l.fn.text.items ++ matrix_row l.ring l.label l.number 1 l.entries;
  sorted : ArePolynomials l.ring.algebra (drop l.index l.entries);
}
