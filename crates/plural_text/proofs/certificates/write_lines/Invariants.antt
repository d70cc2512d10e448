use Rattle.std.proofs.Common.{◌≡◌, ◌++◌, ◌+◌, map, drop, string_bytes}
use Rattle.monomials.specs.Polynomials.{Each}
use Rattle.word_model.specs.CertificateTexts.{lines_text}
use Rattle.plural_text.specs.Writable.{IsLineOf}
use Rattle.plural_text.proofs.certificates.write_lines.Given as goal

abbrev pub invariant-loop-index : goal.invariant-loop-index
invariant-loop-index g l = record {
  written :
      l.text.items ++ lines_text l.alg (map string_bytes l.names) l.basis (l.index + 1) (drop l.index l.lines)
      ≡ l.fn.text.items ++ lines_text l.alg (map string_bytes l.names) l.basis 1 l.lines;
  each : Each (IsLineOf l.alg l.basis) (drop l.index l.lines);
  algebra : l.seat.algebra ≡ l.alg;
}
