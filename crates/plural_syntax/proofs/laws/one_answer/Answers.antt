use Rattle.plural_syntax.proofs.OneOutcome.{one_outcome}
use Rattle.plural_syntax.proofs.laws.one_answer.Goals as goal

pub returns : goal.returns
returns c = λ ls r s m n p q. one_outcome ls r s m n p q
