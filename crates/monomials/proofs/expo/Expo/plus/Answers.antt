use Rattle.std.proofs.Common.{arith}
use Rattle.monomials.proofs.Packing.{plus_at, plus_padded, plus_is}
use Rattle.monomials.proofs.expo.Expo.plus.Goals as goal

pub overflow_add-result : goal.overflow_add-result
overflow_add-result c =
    omega (arith, (plus_at c.self.inside c.other.inside _ _ c.self.invariant c.other.invariant c.self.view_is c.other.view_is c.requires.same_length c.requires.small 0).0)

pub overflow_add-result-2 : goal.overflow_add-result-2
overflow_add-result-2 c =
    omega (arith, (plus_at c.self.inside c.other.inside _ _ c.self.invariant c.other.invariant c.self.view_is c.other.view_is c.requires.same_length c.requires.small 1).0)

pub overflow_add-result-3 : goal.overflow_add-result-3
overflow_add-result-3 c =
    omega (arith, (plus_at c.self.inside c.other.inside _ _ c.self.invariant c.other.invariant c.self.view_is c.other.view_is c.requires.same_length c.requires.small 2).0)

pub overflow_add-result-4 : goal.overflow_add-result-4
overflow_add-result-4 c =
    omega (arith, (plus_at c.self.inside c.other.inside _ _ c.self.invariant c.other.invariant c.self.view_is c.other.view_is c.requires.same_length c.requires.small 3).0)

pub invariant_of-result : goal.invariant_of-result
invariant_of-result c =
    plus_padded c.self.inside c.other.inside _ _ c.self.invariant c.other.invariant c.self.view_is c.other.view_is c.requires.same_length c.requires.small

pub returns : goal.returns
returns c =
    plus_is c.self.inside c.other.inside _ _ c.self.invariant c.other.invariant c.self.view_is c.other.view_is c.requires.same_length c.requires.small
