use Rattle.monomials.proofs.Packing.{minus_at, minus_degree, minus_padded, minus_is}
use Rattle.monomials.proofs.expo.Expo.minus.Goals as goal

pub overflow_sub-result : goal.overflow_sub-result
overflow_sub-result c =
    (minus_at c.self.inside c.other.inside _ _ c.self.invariant c.other.invariant c.self.view_is c.other.view_is c.requires.same_length c.requires.divisible 0).0

pub overflow_sub-result-2 : goal.overflow_sub-result-2
overflow_sub-result-2 c =
    (minus_at c.self.inside c.other.inside _ _ c.self.invariant c.other.invariant c.self.view_is c.other.view_is c.requires.same_length c.requires.divisible 1).0

pub overflow_sub-result-3 : goal.overflow_sub-result-3
overflow_sub-result-3 c =
    (minus_at c.self.inside c.other.inside _ _ c.self.invariant c.other.invariant c.self.view_is c.other.view_is c.requires.same_length c.requires.divisible 2).0

pub overflow_sub-result-4 : goal.overflow_sub-result-4
overflow_sub-result-4 c =
    (minus_at c.self.inside c.other.inside _ _ c.self.invariant c.other.invariant c.self.view_is c.other.view_is c.requires.same_length c.requires.divisible 3).0

pub overflow_sub-result-5 : goal.overflow_sub-result-5
overflow_sub-result-5 c =
    minus_degree c.self.inside c.other.inside _ _ c.self.invariant c.other.invariant c.self.view_is c.other.view_is c.requires.same_length c.requires.divisible

pub invariant_of-result : goal.invariant_of-result
invariant_of-result c =
    minus_padded c.self.inside c.other.inside _ _ c.self.invariant c.other.invariant c.self.view_is c.other.view_is c.requires.same_length c.requires.divisible

pub returns : goal.returns
returns c =
    minus_is c.self.inside c.other.inside _ _ c.self.invariant c.other.invariant c.self.view_is c.other.view_is c.requires.same_length c.requires.divisible
