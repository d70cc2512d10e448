use Rattle.cofactors.proofs.RowLaws.{sub-zero}
use Rattle.cofactors.proofs.multiples.subtract_one.Goals as goal

pub returns-then-is_zero-clause-value : goal.returns-then-is_zero-clause-value
returns-then-is_zero-clause-value g c =
    sub-zero c.args.seat.now.algebra c.args.term.now.coef c.args.term.now.mono c.args.entry.now c.args.other.now c.requires.entry (c.is_zero.ensures.0 c.if-is_zero.true)
