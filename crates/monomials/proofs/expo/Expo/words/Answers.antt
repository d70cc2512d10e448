use Rattle.monomials.proofs.Packing.{words_are}
use Rattle.monomials.proofs.expo.Expo.words.Goals as goal

pub returns : goal.returns
returns c = words_are c.self.inside _ c.self.invariant c.self.view_is
