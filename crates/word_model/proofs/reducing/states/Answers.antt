use Rattle.word_model.proofs.Steps.{first_state-is, step-keeps}
use Rattle.word_model.proofs.reducing.states.Goals as goal

pub returns-clause-first : goal.returns-clause-first
returns-clause-first c A gens ok sorted = first_state-is A ok gens sorted

pub returns-clause-kept : goal.returns-clause-kept
returns-clause-kept c A gens mode budget s t ok sorted is e = step-keeps A ok gens sorted mode budget s t is e
