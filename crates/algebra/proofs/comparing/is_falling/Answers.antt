use Rattle.std.proofs.Common.{◌-◌, arith}
use Rattle.gpoly.proofs.TermLists.{vars_at}
use Rattle.algebra.proofs.Fitting.{falling_end}
use Rattle.algebra.proofs.comparing.is_falling.Goals as goal

pub compare-requires-clause-a_fits : goal.compare-requires-clause-a_fits
compare-requires-clause-a_fits c =
    vars_at c.args.order.now.vars c.args.terms.now (c.loop-i.i - 1) c.index-terms-i.result (omega arith) c.requires

pub compare-requires-clause-b_fits : goal.compare-requires-clause-b_fits
compare-requires-clause-b_fits c =
    vars_at c.args.order.now.vars c.args.terms.now c.loop-i.i c.index-terms-i-in-loop-i.result c.loop-i-test.true c.requires

pub returns : goal.returns
returns c = (
  λ t. c.loop-i.invariant.1 (falling_end c.args.order.now.rows c.args.terms.now c.loop-i.i c.loop-i-test.false),
  λ h. cc,
)
