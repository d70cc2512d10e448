use Rattle.word_model.proofs.Confluence.{normal_form-pair}
use Rattle.word_model.proofs.laws.any_pair_first.Goals as goal

pub returns : goal.returns
returns c = λ A u j i v accepted. normal_form-pair A accepted.downward accepted.confluent accepted.field.more u j i v
