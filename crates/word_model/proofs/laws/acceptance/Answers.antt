use Rattle.word_model.proofs.Acceptance.{accepted, IsField-prime}
use Rattle.word_model.proofs.TwoVariables.{relations_fault-two_variables, IsAlgebraData-two_variables, IsGAlgebra-two_variables}
use Rattle.word_model.proofs.laws.acceptance.Goals as goal

pub returns : goal.returns
returns c = record {
  accepted = λ A fault data_of field. accepted A data_of field fault;
  field = IsField-prime;
  two_variables = λ p c e field nonzero. (
    relations_fault-two_variables p c e field.more nonzero,
    IsAlgebraData-two_variables p c e field.more,
    IsGAlgebra-two_variables p c e field nonzero,
  );
}
