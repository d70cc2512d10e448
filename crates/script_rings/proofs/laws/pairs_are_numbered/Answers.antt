use Rattle.script_rings.proofs.PairLists.{pairs-count}
use Rattle.script_rings.proofs.PairPlaces.{pair-at}
use Rattle.script_rings.proofs.laws.pairs_are_numbered.Goals as goal

pub returns-clause-place : goal.returns-clause-place
returns-clause-place c = pair-at

pub returns-clause-count : goal.returns-clause-count
returns-clause-count c = pairs-count
