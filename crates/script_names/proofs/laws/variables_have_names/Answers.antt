use Rattle.script_names.proofs.Walk.{variables_named}
use Rattle.script_names.proofs.laws.variables_have_names.Goals as goal

pub returns : goal.returns
returns c = variables_named
