use Rattle.word_model.proofs.Reach.{is_within-in_reach, is_within-degrees}
use Rattle.word_model.proofs.laws.steps_in_reach.Goals as goal

pub returns-clause-any_number : goal.returns-clause-any_number
returns-clause-any_number c = is_within-in_reach

pub returns-clause-degrees : goal.returns-clause-degrees
returns-clause-degrees c = is_within-degrees
