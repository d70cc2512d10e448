use Rattle.monomials.proofs.Packing.{lanes_small, divides_result}
use Rattle.monomials.proofs.expo.Expo.divides.Goals as goal

pub lanes_divide-requires-clause-left : goal.lanes_divide-requires-clause-left
lanes_divide-requires-clause-left c = lanes_small c.self.inside c.self.invariant 0

pub lanes_divide-requires-clause-right : goal.lanes_divide-requires-clause-right
lanes_divide-requires-clause-right c = lanes_small c.other.inside c.other.invariant 0

pub lanes_divide-requires-2-clause-left : goal.lanes_divide-requires-2-clause-left
lanes_divide-requires-2-clause-left c = lanes_small c.self.inside c.self.invariant 1

pub lanes_divide-requires-2-clause-right : goal.lanes_divide-requires-2-clause-right
lanes_divide-requires-2-clause-right c = lanes_small c.other.inside c.other.invariant 1

pub lanes_divide-requires-3-clause-left : goal.lanes_divide-requires-3-clause-left
lanes_divide-requires-3-clause-left c = lanes_small c.self.inside c.self.invariant 2

pub lanes_divide-requires-3-clause-right : goal.lanes_divide-requires-3-clause-right
lanes_divide-requires-3-clause-right c = lanes_small c.other.inside c.other.invariant 2

pub lanes_divide-requires-4-clause-left : goal.lanes_divide-requires-4-clause-left
lanes_divide-requires-4-clause-left c = lanes_small c.self.inside c.self.invariant 3

pub lanes_divide-requires-4-clause-right : goal.lanes_divide-requires-4-clause-right
lanes_divide-requires-4-clause-right c = lanes_small c.other.inside c.other.invariant 3

pub returns : goal.returns
returns c =
    divides_result c.self.inside c.other.inside _ _ c.self.invariant c.other.invariant c.self.view_is c.other.view_is c.requires
    _ _ _ _ c.lanes_divide.ensures c.lanes_divide-2.ensures c.lanes_divide-3.ensures c.lanes_divide-4.ensures
