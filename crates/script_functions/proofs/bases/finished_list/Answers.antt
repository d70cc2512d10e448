use Rattle.std.proofs.Common.{arith}
use Rattle.word_model.proofs.ShortLists.{short_list}
use Rattle.script_functions.proofs.bases.finished_list.Goals as goal

pub returns-in-Ok-clause-short : goal.returns-in-Ok-clause-short
returns-in-Ok-clause-short g c =
    omega (arith, c.requires.few, short_list c.args.seat.now.algebra c.args.run.now.basis c.in-Ok.list c.in-Ok.ensures.list)
