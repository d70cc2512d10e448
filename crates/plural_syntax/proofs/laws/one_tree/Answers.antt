use Rattle.plural_syntax.proofs.ScriptRules.{one_script}
use Rattle.plural_syntax.proofs.laws.one_tree.Goals as goal

pub returns : goal.returns
returns c = λ ls s t h k. one_script ls s t h k
