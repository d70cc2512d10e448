use Rattle.std.proofs.Common.{length, take}
use Rattle.monomials.proofs.RowValues.{compare_weights, compare_rising, compare_falling}
use Rattle.monomials.proofs.row.Row.compare.Goals as goal

pub returns-in-Weights : goal.returns-in-Weights
returns-in-Weights c =
    rw (c.in-Weights.is, compare_weights (take (length c.args.a.now) c.in-Weights.weights) c.args.a.now c.args.b.now) cc

pub returns-in-Rising : goal.returns-in-Rising
returns-in-Rising c =
    rw (c.in-Rising.is, compare_rising (length c.args.a.now) c.in-Rising.place c.args.a.now c.args.b.now) cc

pub returns-in-Falling : goal.returns-in-Falling
returns-in-Falling c =
    rw (c.in-Falling.is, compare_falling (length c.args.a.now) c.in-Falling.place c.args.a.now c.args.b.now) cc
