use Rattle.std.proofs.Common.{◌≡◌, sym, ◌∙◌, subst}
use Rattle.replay.specs.Worlds.{CoreWorld, offers}
use Rattle.replay.specs.Shown.{WorldValue, Shows}
use Rattle.replay.proofs.Showing.{find-off, offer-shown, offer-still}
use Rattle.replay.proofs.world.World.offer.Goals as goal

pub offer-requires-clause-new : goal.offer-requires-clause-new
offer-requires-clause-new c = (find-off c.self.inside.board.log c.self.inside.lead.jobs c.in-Some.job (sym c.in_ok-waiting.ensures.value ∙ c.in-Some.is), tt)

pub returns-in_ok-offer-in-Some-clause-on : goal.returns-in_ok-offer-in-Some-clause-on
returns-in_ok-offer-in-Some-clause-on c =
    let own = c.self.inside in
    subst (λ (world : WorldValue). (w : CoreWorld) → Shows world w
    → Shows (record { lead = own.lead; board = c.offer.new.self; hands = own.hands.items; filled = own.filled.items; taken = own.taken }) (offers world.lead.algebra world.lead.generators w)) c.self.view_is
    (λ w shows. offer-shown c.first_is_least.ensures (record { lead = own.lead; board = own.board; hands = own.hands.items; filled = own.filled.items; taken = own.taken }) c.offer.new.self w c.in-Some.job c.in_ok-waiting.ensures.facts shows
    (sym c.closed.ensures ∙ c.if-closed.false) (sym c.in_ok-waiting.ensures.value ∙ c.in-Some.is) c.in_ok-offer-in-Some.ensures.log c.in_ok-offer-in-Some.ensures.kept c.offer.ensures.seats)

pub returns-in-None-clause-on : goal.returns-in-None-clause-on
returns-in-None-clause-on c =
    let own = c.self.inside in
    subst (λ (world : WorldValue). (w : CoreWorld) → Shows world w → Shows world (offers world.lead.algebra world.lead.generators w)) c.self.view_is
    (λ w shows. offer-still (record { lead = own.lead; board = own.board; hands = own.hands.items; filled = own.filled.items; taken = own.taken }) w shows (sym c.closed.ensures ∙ c.if-closed.false) (sym c.in_ok-waiting.ensures.value ∙ c.in-None.is))
