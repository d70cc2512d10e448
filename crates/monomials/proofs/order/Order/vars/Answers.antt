use Rattle.std.proofs.Common.{subst}
use Rattle.monomials.specs.Lexicographic.{IsLexicographic}
use Rattle.monomials.proofs.WellFoundedness.{lexicographic_well_founded}
use Rattle.monomials.proofs.order.Order.vars.Goals as goal

pub returns-clause-well_founded : goal.returns-clause-well_founded
returns-clause-well_founded c =
    lexicographic_well_founded c.args.self.now (subst IsLexicographic c.self.view_is c.self.invariant.lexicographic)
