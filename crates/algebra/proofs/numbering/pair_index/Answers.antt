use Rattle.std.proofs.Common.{arith}
use Rattle.algebra.proofs.Pairs.{pair_index-within}
use Rattle.algebra.proofs.numbering.pair_index.Goals as goal

pub returns-clause-within : goal.returns-clause-within
returns-clause-within c =
    pair_index-within c.args.n c.from-i.result c.from-j.result
    (omega (arith, c.from-i.ensures)) (omega (arith, c.from-i.ensures, c.from-j.ensures)) (omega (arith, c.from-j.ensures))
