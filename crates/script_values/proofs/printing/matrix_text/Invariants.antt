use Rattle.std.proofs.Common.{◌≡◌, ◌++◌, ◌+◌, drop}
use Rattle.monomials.specs.Polynomials.{Each}
use Rattle.script_model.specs.Statements.{matrix_text}
use Rattle.script_values.specs.Values.{ArePolynomials}
use Rattle.script_values.proofs.printing.matrix_text.Given as goal

abbrev pub invariant-loop-index : goal.invariant-loop-index
invariant-loop-index l = record {
  written : l.text.items ++ matrix_text l.ring l.label (l.index + 1) (drop l.index l.rows) ≡ matrix_text l.ring l.label 1 l.rows;
  sorted : Each (ArePolynomials l.ring.algebra) (drop l.index l.rows);
}
