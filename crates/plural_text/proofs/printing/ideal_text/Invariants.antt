use Rattle.std.proofs.Common.{◌≡◌, ◌++◌, ◌+◌, map, drop, string_bytes}
use Rattle.monomials.specs.Polynomials.{Each, IsPolynomial}
use Rattle.word_model.specs.Texts.{generator_lines, ideal_text}
use Rattle.plural_text.proofs.printing.ideal_text.Given as goal

abbrev pub invariant-loop-index : goal.invariant-loop-index
invariant-loop-index l = record {
  written :
      l.text.items ++ generator_lines l.alg.p (map string_bytes l.names) l.label (l.index + 1) (drop l.index l.list)
      ≡ ideal_text l.alg.p (map string_bytes l.names) l.label l.list;
  sorted : Each (IsPolynomial l.alg.p l.alg.order) (drop l.index l.list);
}
