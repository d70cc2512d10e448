use Rattle.std.proofs.Common.{arith}
use Rattle.monomials.proofs.Lanes.{no_carry, no_borrow, divides_word}
use Rattle.monomials.proofs.word.lanes_divide.Goals as goal

pub overflow_add-result : goal.overflow_add-result
overflow_add-result c = omega (arith, no_carry c.args.x c.args.y c.ranges.x.fits c.ranges.y.fits c.requires.left c.requires.right)

pub overflow_sub-result : goal.overflow_sub-result
overflow_sub-result c = no_borrow c.args.x c.args.y c.ranges.x.fits c.ranges.y.fits c.requires.left c.requires.right

pub returns : goal.returns
returns c = divides_word c.args.x c.args.y c.ranges.x.fits c.ranges.y.fits c.requires.left c.requires.right
