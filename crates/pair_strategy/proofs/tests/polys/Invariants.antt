use Rattle.monomials.specs.Polynomials.{Each, HasVars}
use Rattle.pair_strategy.proofs.tests.polys.Given as goal

abbrev pub invariant-loop-piece : goal.invariant-loop-piece
invariant-loop-piece l = Each (HasVars l.order.vars) l.polys.items
