use Rattle.std.proofs.Common.{arith}
use Rattle.std.proofs.lemmas.Result.{IfOk-weaker}
use Rattle.word_model.proofs.ShortLists.{short_list}
use Rattle.uses.proofs.finished_list.Goals as goal

pub returns-clause-short : goal.returns-clause-short
returns-clause-short g c = IfOk-weaker c.reduced.result _ _ (λ f listed. omega (arith, c.requires.few, short_list _ _ f listed)) c.reduced.ensures.list
