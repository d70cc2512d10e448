use Rattle.word_model.proofs.Distribution.{product-left, product-right}
use Rattle.word_model.proofs.laws.distribute.Goals as goal

pub returns : goal.returns
returns c = record {
  left = λ A f g h positive. product-left A positive f g h;
  right = λ A f g h positive. product-right A positive f g h;
}
