use Rattle.std.proofs.Common.{◌≡◌, ◌++◌, map, drop, string_bytes}
use Rattle.monomials.specs.Polynomials.{Each, IsPolynomial}
use Rattle.word_model.specs.Texts.{polynomial_text, row_text}
use Rattle.plural_text.specs.Pieces.{pieces_from}
use Rattle.plural_text.proofs.polynomials.write_row.Given as goal

abbrev pub invariant-loop-index : goal.invariant-loop-index
invariant-loop-index l = record {
  written :
      l.text.items ++ pieces_from l.index (map (polynomial_text l.alg.p (map string_bytes l.names)) (drop l.index l.row))
      ≡ l.fn.text.items ++ row_text l.alg.p (map string_bytes l.names) l.row;
  sorted : Each (IsPolynomial l.alg.p l.alg.order) (drop l.index l.row);
}
