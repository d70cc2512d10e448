use Rattle.word_model.proofs.Termination.{normal_form-sorted, normal_form-descent}
use Rattle.word_model.proofs.TwoVariables.{RewritesDown-two_variables}
use Rattle.word_model.proofs.laws.rewriting.Goals as goal

pub returns : goal.returns
returns c = record {
  sorted = normal_form-sorted;
  rewritten = λ A w s downward. normal_form-descent A downward w s;
  two_variables = RewritesDown-two_variables;
}
