use Rattle.board.specs.Boards.{hand}
use Rattle.board.proofs.Keeping.{keeps_released}
use Rattle.board.proofs.Board.release.Goals as goal

pub invariant_of-self : goal.invariant_of-self
invariant_of-self g c =
    keeps_released _ c.self.inside.core.log c.leave-place.new.self.log c.self.inside.kept.items c.args.seat (hand c.self.inside.core.log c.args.seat) c.leave-place.ensures.log c.self.invariant
