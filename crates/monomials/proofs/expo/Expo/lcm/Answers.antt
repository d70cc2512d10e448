use Rattle.monomials.proofs.Packing.{lanes_small, lcm_is, lcm_small, lcm_padded}
use Rattle.monomials.proofs.expo.Expo.lcm.Goals as goal

pub greater_lanes-requires-clause-left : goal.greater_lanes-requires-clause-left
greater_lanes-requires-clause-left c = lanes_small c.self.inside c.self.invariant 0

pub greater_lanes-requires-clause-right : goal.greater_lanes-requires-clause-right
greater_lanes-requires-clause-right c = lanes_small c.other.inside c.other.invariant 0

pub greater_lanes-requires-2-clause-left : goal.greater_lanes-requires-2-clause-left
greater_lanes-requires-2-clause-left c = lanes_small c.self.inside c.self.invariant 1

pub greater_lanes-requires-2-clause-right : goal.greater_lanes-requires-2-clause-right
greater_lanes-requires-2-clause-right c = lanes_small c.other.inside c.other.invariant 1

pub greater_lanes-requires-3-clause-left : goal.greater_lanes-requires-3-clause-left
greater_lanes-requires-3-clause-left c = lanes_small c.self.inside c.self.invariant 2

pub greater_lanes-requires-3-clause-right : goal.greater_lanes-requires-3-clause-right
greater_lanes-requires-3-clause-right c = lanes_small c.other.inside c.other.invariant 2

pub greater_lanes-requires-4-clause-left : goal.greater_lanes-requires-4-clause-left
greater_lanes-requires-4-clause-left c = lanes_small c.self.inside c.self.invariant 3

pub greater_lanes-requires-4-clause-right : goal.greater_lanes-requires-4-clause-right
greater_lanes-requires-4-clause-right c = lanes_small c.other.inside c.other.invariant 3

pub total-requires : goal.total-requires
total-requires c =
    lcm_small c.self.inside c.other.inside _ _ c.self.invariant c.other.invariant c.self.view_is c.other.view_is
    c.requires.same_length c.greater_lanes.result c.greater_lanes-2.result c.greater_lanes-3.result c.greater_lanes-4.result
    c.greater_lanes.ensures.value c.greater_lanes-2.ensures.value c.greater_lanes-3.ensures.value c.greater_lanes-4.ensures.value
    c.requires.small

pub invariant_of-result : goal.invariant_of-result
invariant_of-result c =
    lcm_padded c.self.inside c.other.inside _ _ c.self.invariant c.other.invariant c.self.view_is c.other.view_is
    c.requires.same_length c.greater_lanes.result c.greater_lanes-2.result c.greater_lanes-3.result c.greater_lanes-4.result
    c.greater_lanes.ensures.value c.greater_lanes-2.ensures.value c.greater_lanes-3.ensures.value c.greater_lanes-4.ensures.value
    c.requires.small _ c.total.ensures c.greater_lanes.ensures.below c.greater_lanes-2.ensures.below c.greater_lanes-3.ensures.below c.greater_lanes-4.ensures.below

pub returns : goal.returns
returns c =
    lcm_is c.self.inside c.other.inside _ _ c.self.invariant c.other.invariant c.self.view_is c.other.view_is
    c.requires.same_length c.greater_lanes.result c.greater_lanes-2.result c.greater_lanes-3.result c.greater_lanes-4.result
    c.greater_lanes.ensures.value c.greater_lanes-2.ensures.value c.greater_lanes-3.ensures.value c.greater_lanes-4.ensures.value
