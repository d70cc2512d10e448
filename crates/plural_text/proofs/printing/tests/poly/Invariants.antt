use Rattle.monomials.specs.Polynomials.{IsPolynomial}
use Rattle.plural_text.proofs.printing.tests.poly.Given as goal

abbrev pub invariant-loop-piece : goal.invariant-loop-piece
invariant-loop-piece l = IsPolynomial l.field l.order l.sum
