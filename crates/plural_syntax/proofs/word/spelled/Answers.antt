use Rattle.plural_syntax.specs.Words.{spelled}
use Rattle.plural_syntax.proofs.word.spelled.Goals as goal

pub returns : goal.returns
unfolding spelled
returns c = c.find.ensures
