use Rattle.std.proofs.Common.{sym, subst, arith}
use Rattle.gpoly.specs.Sums.{AreSorted}
use Rattle.gpoly.proofs.Gathered.{AreSorted-without}
use Rattle.gpoly.proofs.buckets.Buckets.take_leading.Goals as goal

pub returns-clause-sorted : goal.returns-clause-sorted
returns-clause-sorted c = subst (AreSorted c.args.field c.args.order.now) (sym c.take_off.ensures) (AreSorted-without c.args.field c.args.order.now (omega (arith, c.p-p.ensures.prime.above_one)) c.in_ok-term.term.mono c.lead.new.self c.lead.ensures.sorted)
