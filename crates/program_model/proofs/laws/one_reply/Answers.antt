use Rattle.program_model.proofs.OneReply.{one_reply}
use Rattle.program_model.proofs.laws.one_reply.Goals as goal

pub returns : goal.returns
returns c = one_reply
