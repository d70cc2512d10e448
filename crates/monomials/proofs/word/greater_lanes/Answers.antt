use Rattle.std.proofs.Common.{arith}
use Rattle.monomials.proofs.Lanes.{no_carry, no_borrow, greater_fits, greater_lanes}
use Rattle.monomials.proofs.word.greater_lanes.Goals as goal

pub overflow_add-gaps : goal.overflow_add-gaps
overflow_add-gaps c = omega (arith, no_carry c.args.x c.args.y c.ranges.x.fits c.ranges.y.fits c.requires.left c.requires.right)

pub overflow_sub-gaps : goal.overflow_sub-gaps
overflow_sub-gaps c = no_borrow c.args.x c.args.y c.ranges.x.fits c.ranges.y.fits c.requires.left c.requires.right

pub overflow_add-result : goal.overflow_add-result
overflow_add-result c = omega (arith, greater_fits c.args.x c.args.y c.ranges.x.fits c.ranges.y.fits c.requires.left c.requires.right)

pub returns-clause-value : goal.returns-clause-value
returns-clause-value c = greater_lanes c.args.x c.args.y c.ranges.x.fits c.ranges.y.fits c.requires.left c.requires.right

pub returns-clause-below : goal.returns-clause-below
returns-clause-below c = greater_fits c.args.x c.args.y c.ranges.x.fits c.ranges.y.fits c.requires.left c.requires.right
