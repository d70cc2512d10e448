use Rattle.std.proofs.Common.{◌+◌, ◌≤◌, ◌^◌, [], length, get_or, subst, arith}
use Rattle.gpoly.proofs.buckets.Buckets.first_with_room.Goals as goal

pub returns-then-coming-room-clause-takes : goal.returns-then-coming-room-clause-takes
returns-then-coming-room-clause-takes c =
    let fs = c.args.self.now in
    record {
      first = λ e l.
          subst (λ i. length (get_or fs i []) + c.args.count ≤ 4 ^ (i + 1)) e
          (omega (arith, c.loop-top.invariant.first e, c.count-held.ensures, c.room.ensures, c.if-held-room.true, c.room-then-held-room.ensures, c.if-coming-room.true));
      later = λ j above e l.
          omega (arith, c.loop-top.invariant.later j above e, c.count-held.ensures, c.room.ensures, c.if-held-room.true, c.room-then-held-room.ensures, c.if-coming-room.true);
    }
