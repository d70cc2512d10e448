use Rattle.std.proofs.Common.{ℕ, length}
use Rattle.monomials.specs.Orders.{order_cmp}
use Rattle.monomials.specs.Polynomials.{HasNumbers, HasVars, IsCanonical}
use Rattle.gpoly.specs.Terms.{pairs_of}
use Rattle.gpoly.proofs.sums.falls.Given as goal

abbrev pub invariant-loop-term : goal.invariant-loop-term
invariant-loop-term l = record {
  vars : HasVars l.order.vars (pairs_of l.left);
  numbers : (p : ℕ) → HasNumbers p (pairs_of l.terms) → HasNumbers p (pairs_of l.left);
  whole : (p : ℕ) → HasNumbers p (pairs_of l.terms) → IsCanonical (order_cmp l.order.rows) p (pairs_of l.left) →
      IsCanonical (order_cmp l.order.rows) p (pairs_of l.terms);
}

abbrev pub decreases-loop-term : goal.decreases-loop-term
decreases-loop-term l = length l.left
