use Rattle.std.proofs.Common.{sym}
use Rattle.monomials.proofs.Packing.{length_is}
use Rattle.monomials.proofs.expo.Expo.len.Goals as goal

pub returns-clause-length : goal.returns-clause-length
returns-clause-length c = sym (length_is c.self.inside _ c.self.invariant c.self.view_is)
