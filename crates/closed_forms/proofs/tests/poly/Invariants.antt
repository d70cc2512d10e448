use Rattle.std.proofs.Common.{◌≡◌}
use Rattle.monomials.specs.Polynomials.{IsPolynomial, HasNumbers}
use Rattle.closed_forms.proofs.tests.poly.Given as goal

-- the sum so far is sorted
abbrev pub invariant-loop-piece : goal.invariant-loop-piece
invariant-loop-piece l = record {
  sorted : IsPolynomial l.field l.order l.sum;
  numbers : HasNumbers l.field l.sum;
}
