use Rattle.std.proofs.Common.{arith}
use Rattle.gproduct.proofs.portion.highest_open.Goals as goal

pub highest_power-requires-clause-last : goal.highest_power-requires-clause-last
highest_power-requires-clause-last c = (c.args.seat.now.algebra.order.vars, (omega (arith, c.loop-u-test.true, c.requires.last), c.requires.vars))
