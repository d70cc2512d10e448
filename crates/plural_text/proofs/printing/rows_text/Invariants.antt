use Rattle.std.proofs.Common.{◌≡◌, ◌++◌, ◌+◌, map, drop, string_bytes}
use Rattle.monomials.specs.Polynomials.{Each, IsPolynomial}
use Rattle.word_model.specs.Texts.{row_lines, rows_text}
use Rattle.plural_text.proofs.printing.rows_text.Given as goal

abbrev pub invariant-loop-index : goal.invariant-loop-index
invariant-loop-index l = record {
  written :
      l.text.items ++ row_lines l.alg.p (map string_bytes l.names) l.label (l.index + 1) (drop l.index l.rows)
      ≡ rows_text l.alg.p (map string_bytes l.names) l.label l.rows;
  sorted : Each (Each (IsPolynomial l.alg.p l.alg.order)) (drop l.index l.rows);
}
