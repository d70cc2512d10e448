use Rattle.pair_strategy.proofs.Least.{least_is_first}
use Rattle.pair_strategy.proofs.laws.first_is_least.Goals as goal

pub returns : goal.returns
returns c = least_is_first
