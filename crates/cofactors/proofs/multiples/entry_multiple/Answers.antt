use Rattle.std.proofs.Common.{sym, ◌∙◌}
use Rattle.cofactors.proofs.RowLaws.{multiple-zero}
use Rattle.cofactors.proofs.multiples.entry_multiple.Goals as goal

pub returns-then-is_zero-clause-value : goal.returns-then-is_zero-clause-value
returns-then-is_zero-clause-value g c =
    c.zero.ensures ∙ sym (multiple-zero c.args.seat.now.algebra c.args.term.now.coef c.args.term.now.mono c.args.entry.now (c.is_zero.ensures.0 c.if-is_zero.true))
