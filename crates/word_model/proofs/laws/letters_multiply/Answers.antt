use Rattle.word_model.proofs.Associativity.{letters_product-normal_form, product-normal_form}
use Rattle.word_model.proofs.laws.letters_multiply.Goals as goal

pub returns : goal.returns
returns c = record {
  letters = λ A w accepted. letters_product-normal_form A accepted.downward accepted.confluent accepted.field.more w;
  words = λ A u w accepted. product-normal_form A accepted.downward accepted.confluent accepted.field.more u w;
}
