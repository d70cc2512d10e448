use Rattle.monomials.proofs.OrderLaws.{order_cmp-plus}
use Rattle.monomials.proofs.laws.order_is_kept.Goals as goal

pub returns : goal.returns
returns c = order_cmp-plus
