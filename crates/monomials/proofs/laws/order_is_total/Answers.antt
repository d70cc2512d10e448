use Rattle.monomials.proofs.OrderLaws.{order_cmp_total, order_cmp_tied}
use Rattle.monomials.proofs.laws.order_is_total.Goals as goal

pub returns-clause-total : goal.returns-clause-total
returns-clause-total c = order_cmp_total

pub returns-clause-equal : goal.returns-clause-equal
returns-clause-equal c = order_cmp_tied
