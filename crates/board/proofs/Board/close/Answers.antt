use Rattle.board.specs.Boards.{closed}
use Rattle.board.proofs.Keeping.{keeps_closed}
use Rattle.board.proofs.Board.close.Goals as goal

pub invariant_of-self : goal.invariant_of-self
invariant_of-self g c = keeps_closed _ c.self.inside.core.log c.close.new.self.log c.self.inside.kept.items (closed c.self.inside.core.log) c.close.ensures.log c.self.invariant
