use Rattle.std.proofs.Common.{◌∙◌, ◌%◌, ap, get_or}
use Rattle.monomials.specs.Words.{lanes}
use Rattle.monomials.proofs.Packing.{at_is}
use Rattle.monomials.proofs.expo.Expo.at.Goals as goal

pub returns : goal.returns
returns c =
    c.lane.ensures
    ∙ (ap (λ k. get_or (lanes 4 (get_or c.self.inside.words k 0)) (c.args.place % 4) 0) c.from.ensures
    ∙ at_is c.self.inside _ c.args.place c.self.invariant c.self.view_is)
