use Rattle.board.specs.Boards.{claimed}
use Rattle.board.proofs.Keeping.{keeps_claim}
use Rattle.board.proofs.Board.claim.Goals as goal

pub invariant_of-self : goal.invariant_of-self
invariant_of-self g c =
    keeps_claim _ c.self.inside.core.log c.claim.new.self.log c.self.inside.kept.items c.args.seat (claimed c.self.inside.core.log) c.claim.ensures.log c.self.invariant
