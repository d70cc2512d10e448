use Rattle.std.proofs.Common.{◌≡◌, max, drop}
use Rattle.monomials.specs.Polynomials.{poly_degree}
use Rattle.gpoly.specs.Terms.{pairs_of}
use Rattle.gpoly.proofs.GPoly.degree.Given as goal

abbrev pub invariant-loop-term : goal.invariant-loop-term
invariant-loop-term l = record {
  rest : max l.degree (poly_degree (pairs_of (drop l.term-index l.term-items))) ≡ poly_degree (pairs_of l.term-items);
}
