use Rattle.std.proofs.Common.{arith}
use Rattle.monomials.proofs.Keys.{Each-weaker}
use Rattle.closed_forms.proofs.tests.answer.Goals as goal

pub kind_of-requires-clause-vars : goal.kind_of-requires-clause-vars
kind_of-requires-clause-vars c = Each-weaker _ _ (λ t same. omega arith) c.args.d.now c.requires.d_sorted

pub power_product-requires-clause-proper : goal.power_product-requires-clause-proper
power_product-requires-clause-proper c = ((c.kind_of.ensures 2 c.in-Some.kind c.requires.d_sorted).0 c.in-Some.is).proper
