use Rattle.std.proofs.Common.{arith}
use Rattle.monomials.proofs.Placing.{placed}
use Rattle.monomials.proofs.row.Row.weighted_in.Goals as goal

pub returns-clause-entries : goal.returns-clause-entries
returns-clause-entries c =
    λ n inside few.
    placed n c.args.at c.args.weights.now c.loop-i.places c.loop-i.invariant.whole few inside c.loop-i.invariant.before
    (λ k l. c.loop-i.invariant.done k (omega arith)) (λ k l. c.loop-i.invariant.rest k (omega arith))
