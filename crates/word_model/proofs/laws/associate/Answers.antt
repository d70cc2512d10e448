use Rattle.word_model.proofs.Associativity.{product-assoc}
use Rattle.word_model.proofs.laws.associate.Goals as goal

pub returns : goal.returns
returns c = λ A f g h accepted. product-assoc A accepted.downward accepted.confluent accepted.field.more f g h
