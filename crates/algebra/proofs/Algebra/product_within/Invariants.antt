use Rattle.std.proofs.Common.{◌≡◌, take}
use Rattle.monomials.specs.Polynomials.{IsPolynomial}
use Rattle.gpoly.specs.Terms.{pairs_of}
use Rattle.word_model.specs.Products.{product}
use Rattle.algebra.proofs.Algebra.product_within.Given as goal

abbrev pub invariant-loop-term : goal.invariant-loop-term
invariant-loop-term l = record {
  sorted : IsPolynomial l.self.p l.self.order l.sum;
  value : l.sum ≡ product l.self l.f (pairs_of (take l.term-index l.term-items));
}
