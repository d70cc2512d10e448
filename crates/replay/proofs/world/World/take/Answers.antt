use Rattle.std.proofs.Common.{◌≡◌, MatchOption, Some, subst}
use Rattle.replay.specs.Worlds.{CoreWorld, take_first}
use Rattle.replay.specs.Shown.{WorldValue, Shows}
use Rattle.replay.proofs.Showing.{take-first, take-nothing}
use Rattle.replay.proofs.world.World.take.Goals as goal

pub returns-in_default-clause-on : goal.returns-in_default-clause-on
returns-in_default-clause-on c =
    subst (λ (world : WorldValue). (w : CoreWorld) → Shows world w → Shows world (take_first world.lead.algebra world.lead.generators w w.state.queue)) c.self.view_is
    (λ w shows. take-nothing _ w shows c.in_default.ensures.value)

pub returns-clause-on : goal.returns-clause-on
returns-clause-on c =
    let first = c.in-Some.ensures.value in
    let own = c.self.inside in
    subst (λ (world : WorldValue). (w : CoreWorld) → Shows world w
    → Shows (record { lead = own.lead; board = c.take-taken.new.self; hands = own.hands.items; filled = own.filled.items; taken = c.either.result }) (take_first world.lead.algebra world.lead.generators w w.state.queue)) c.self.view_is
    (λ w shows. take-first (record { lead = own.lead; board = own.board; hands = own.hands.items; filled = own.filled.items; taken = own.taken }) c.take-taken.new.self w c.take-taken.result c.either.result c.in-Some.first.now first.0 shows first.1 c.in-Some.ensures.least
    c.take-taken.ensures.log c.take-taken.ensures.seats c.take-taken.ensures.none c.take-taken.ensures.some
    (subst (λ o. MatchOption c.take-taken.result (c.either.result ≡ o) (λ s. c.either.result ≡ Some s)) c.take.ensures.value c.either.ensures))
