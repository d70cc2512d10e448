use Rattle.std.proofs.Common.{ap}
use Rattle.board.specs.Boards.{closed}
use Rattle.board.proofs.tests.answers_each_call.Goals as goal

pub offer-requires-clause-open : goal.offer-requires-clause-open
unfolding closed
offer-requires-clause-open g c = ap closed c.in_ok-board.ensures.log
