use Rattle.std.proofs.Common.{◌≤◌}
use Rattle.monomials.specs.Monomials.{degree}
use Rattle.monomials.specs.Polynomials.{Each, HasVars, HasNumbers}
use Rattle.gpoly.specs.Terms.{pairs_of}
use Rattle.gpoly.proofs.tests.terms_of.Given as goal

abbrev pub invariant-loop-row : goal.invariant-loop-row
invariant-loop-row l = record {
  numbers : HasNumbers l.field (pairs_of l.terms.items);
  vars : HasVars 2 (pairs_of l.terms.items);
  small : Each (λ t. degree t.1 ≤ 4095) (pairs_of l.terms.items);
}
