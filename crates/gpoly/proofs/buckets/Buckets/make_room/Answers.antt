use Rattle.std.proofs.Common.{arith}
use Rattle.gpoly.proofs.Rooms.{Takes-below}
use Rattle.gpoly.proofs.buckets.Buckets.make_room.Goals as goal

pub raise-requires-clause-room : goal.raise-requires-clause-room
raise-requires-clause-room c = Takes-below c.args.k c.args.count c.loop-top.top c.loop-top.self (omega (arith, c.loop-top-test.true)) c.loop-top.invariant.takes

pub returns-clause-room : goal.returns-clause-room
returns-clause-room c = c.loop-top.invariant.takes.first (omega (arith, c.loop-top.invariant.above, c.loop-top-test.false))
