use Rattle.std.proofs.Common.{[], Ok}
use Rattle.plural_lexer.proofs.Answers.{ends_well}
use Rattle.plural_lexer.proofs.laws.end_stands_last.Goals as goal

pub returns : goal.returns
returns c = λ bytes ts d. ends_well [] bytes (Ok ts) d
