use Rattle.board.proofs.Keeping.{keeps_nothing}
use Rattle.board.proofs.Board.new.Goals as goal

pub invariant_of-result : goal.invariant_of-result
invariant_of-result g c = keeps_nothing _ c.in_ok-new.field-0.log c.new-2.result.items c.in_ok-new.ensures.log c.new-2.ensures.items
