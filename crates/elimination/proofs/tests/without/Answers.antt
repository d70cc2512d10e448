use Rattle.std.proofs.Common.{subst}
use Rattle.monomials.specs.Polynomials.{HasVars}
use Rattle.monomials.proofs.Keys.{Each-weaker}
use Rattle.elimination.proofs.tests.without.Goals as goal

pub restrict-requires : goal.restrict-requires
restrict-requires c =
    (3, Each-weaker _ _ (λ f sorted. subst (λ n. HasVars n f) c.requires.of_three sorted.vars) c.args.list.now c.requires.sorted, c.requires.in_range)
