use Rattle.word_model.proofs.NormalForms.{normal_form_is_polynomial, word_value_is_polynomial, product_is_polynomial}
use Rattle.word_model.proofs.laws.normal_forms_are_polynomials.Goals as goal

pub returns : goal.returns
returns c = record {
  word = λ A w above_one. normal_form_is_polynomial A above_one w;
  sum = λ A f above_one. word_value_is_polynomial A above_one f;
  product = λ A f g above_one. product_is_polynomial A above_one f g;
}
