use Rattle.pair_strategy.proofs.Members.{added, taken, witness-same}
use Rattle.pair_strategy.proofs.Placing.{rising-with_item}
use Rattle.pair_strategy.proofs.laws.queues_are_sets.Goals as goal

pub returns-clause-added : goal.returns-clause-added
returns-clause-added c = added

pub returns-clause-rising : goal.returns-clause-rising
returns-clause-rising c = rising-with_item

pub returns-clause-taken : goal.returns-clause-taken
returns-clause-taken c = taken

pub returns-clause-witness : goal.returns-clause-witness
returns-clause-witness c = witness-same
