use Rattle.word_model.proofs.Associativity.{product-assoc}
use Rattle.algebra.proofs.laws.associate.Goals as goal

pub returns : goal.returns
returns c =
    let accepted = c.n-n.ensures.accepted in
    λ f g h. product-assoc c.args.alg.now accepted.downward accepted.confluent accepted.field.more f g h
