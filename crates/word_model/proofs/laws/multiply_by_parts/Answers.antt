use Rattle.word_model.proofs.TermProducts.{product-append, product-term}
use Rattle.word_model.proofs.laws.multiply_by_parts.Goals as goal

pub returns : goal.returns
returns c = record {
  terms = λ A f g h above_one. product-append A above_one f g h;
  letters = λ A f k m accepted. product-term A accepted.field.more accepted.downward accepted.confluent f k m;
}
