use Rattle.std.proofs.Common.{arith, vec_capacity}
use Rattle.board.proofs.Boards.{empty_fits, fits_grows}
use Rattle.board.proofs.logged.Logged.new.Goals as goal

pub invariant_of-result : goal.invariant_of-result
invariant_of-result c =
    let e = c.in_ok-log.ensures.exact in
    let f = empty_fits (vec_capacity c.in_ok-log.log) c.loop.hands.items (omega arith) c.loop.invariant.1 c.loop.invariant.2 in
    (rw (c.in_ok-log.ensures.items, c.new.ensures) (fits_grows _ _ _ _ _ _ _ _ f c.in_ok-log.ensures.len (omega arith)), omega (arith, c.loop.invariant.0))
