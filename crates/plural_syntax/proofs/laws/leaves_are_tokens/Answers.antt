use Rattle.plural_syntax.proofs.Leaves.{leaves_are_tokens}
use Rattle.plural_syntax.proofs.laws.leaves_are_tokens.Goals as goal

pub returns : goal.returns
returns c = λ d ls s h e. leaves_are_tokens d ls s h e
