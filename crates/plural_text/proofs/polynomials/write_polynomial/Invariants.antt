use Rattle.std.proofs.Common.{◌≡◌, ◌++◌, map, drop, string_bytes}
use Rattle.monomials.specs.Polynomials.{HasNumbers, HasVars}
use Rattle.gpoly.specs.Terms.{pairs_of}
use Rattle.word_model.specs.Texts.{later_texts, polynomial_text}
use Rattle.plural_text.proofs.polynomials.write_polynomial.Given as goal

abbrev pub invariant-loop-term : goal.invariant-loop-term
invariant-loop-term l = record {
  written :
      l.text.items ++ later_texts l.alg.p (map string_bytes l.names) (pairs_of (drop l.term-index l.later))
      ≡ l.fn.text.items ++ polynomial_text l.alg.p (map string_bytes l.names) l.f;
  numbers : HasNumbers l.alg.p (pairs_of (drop l.term-index l.later));
  vars : HasVars l.alg.order.vars (pairs_of (drop l.term-index l.later));
}
