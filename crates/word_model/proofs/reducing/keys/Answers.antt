use Rattle.word_model.proofs.JobOrder.{key_tied}
use Rattle.word_model.proofs.reducing.keys.Goals as goal

pub returns : goal.returns
returns c = key_tied
