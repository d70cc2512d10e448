use Rattle.std.proofs.Common.{arith}
use Rattle.plural_text.proofs.Rests.{spelled_once}
use Rattle.plural_text.proofs.laws.texts_decide.Goals as goal

pub returns : goal.returns
returns c = λ p order names bytes f g above fits are hf hg. spelled_once p order names bytes f g (omega arith) fits are hf hg
