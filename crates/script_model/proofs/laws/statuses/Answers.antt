use Rattle.script_model.proofs.Statuses.{answer-status}
use Rattle.script_model.proofs.laws.statuses.Goals as goal

pub returns : goal.returns
returns c = answer-status
