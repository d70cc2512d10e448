use Rattle.std.proofs.Common.{subst}
use Rattle.monomials.specs.Polynomials.{HasVars}
use Rattle.closed_forms.proofs.tests.poly.Goals as goal

pub returns-clause-vars : goal.returns-clause-vars
returns-clause-vars c = subst (λ n. HasVars n c.loop-piece.sum) c.requires c.loop-piece.invariant.sorted.vars
