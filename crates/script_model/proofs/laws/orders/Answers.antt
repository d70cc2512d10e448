use Rattle.script_model.proofs.OrderTests.{is_order-iff}
use Rattle.script_model.proofs.laws.orders.Goals as goal

pub returns : goal.returns
returns c = is_order-iff
