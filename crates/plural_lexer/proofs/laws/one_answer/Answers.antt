use Rattle.std.proofs.Common.{[]}
use Rattle.plural_lexer.proofs.Answers.{once}
use Rattle.plural_lexer.proofs.laws.one_answer.Goals as goal

pub returns : goal.returns
returns c = λ bytes r s d e. once [] bytes r d s e
