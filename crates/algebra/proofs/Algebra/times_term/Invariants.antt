use Rattle.std.proofs.Common.{◌≡◌, ◌+◌, ◌≤◌, drop, length}
use Rattle.monomials.specs.Polynomials.{IsPolynomial, poly_degree, poly_scale}
use Rattle.word_model.specs.Words.{sorted_word}
use Rattle.word_model.specs.Products.{times_letters}
use Rattle.algebra.proofs.Algebra.times_term.Given as goal

abbrev pub invariant-loop-letter : goal.invariant-loop-letter
invariant-loop-letter l = record {
  sorted : IsPolynomial l.self.p l.self.order l.product;
  within : poly_degree l.product + length (drop l.letter-index l.letter-items) ≤ 4095;
  value : times_letters l.self l.product (drop l.letter-index l.letter-items)
      ≡ times_letters l.self (poly_scale l.self.p l.term.coef l.f) (sorted_word l.term.mono);
}
