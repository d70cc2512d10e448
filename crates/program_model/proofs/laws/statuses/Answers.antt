use Rattle.program_model.proofs.OneReply.{reply-status}
use Rattle.program_model.proofs.laws.statuses.Goals as goal

pub returns : goal.returns
returns c = reply-status
