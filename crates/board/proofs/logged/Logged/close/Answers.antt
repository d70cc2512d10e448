use Rattle.std.proofs.Common.{subst, vec_len, vec_capacity}
use Rattle.board.specs.Logs.{Fits}
use Rattle.board.proofs.Boards.{close_fits, fits_grows}
use Rattle.board.proofs.logged.Logged.close.Goals as goal

pub invariant_of-self : goal.invariant_of-self
invariant_of-self c =
    let open_now = subst (λ b. Fits c.self.inside.log.items (vec_len c.self.inside.log) (vec_capacity c.self.inside.log) c.self.inside.slots c.self.inside.hands.items b) c.if-self.false c.self.invariant.0 in
    rw c.in-Ok.ensures.items (fits_grows _ _ _ _ _ _ _ _ (close_fits _ _ _ _ _ open_now) c.in-Ok.ensures.len c.push.ensures.capacity, c.self.invariant.1)
