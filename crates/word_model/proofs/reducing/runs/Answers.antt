use Rattle.word_model.proofs.Steps.{machine-elements, machine-few}
use Rattle.word_model.proofs.reducing.runs.Goals as goal

pub returns-clause-elements : goal.returns-clause-elements
returns-clause-elements c A gens mode budget ok sorted = machine-elements A ok gens sorted mode budget

pub returns-clause-few : goal.returns-clause-few
returns-clause-few c A gens mode budget ok sorted = machine-few A ok gens sorted mode budget
