use Rattle.std.proofs.Common.{sym, ◌∙◌, subst}
use Rattle.replay.specs.Worlds.{CoreWorld, release_hand, hand_at}
use Rattle.replay.specs.Shown.{WorldValue, Shows, Fits}
use Rattle.replay.proofs.Showing.{release-shown}
use Rattle.replay.proofs.world.World.release.Goals as goal

pub returns-clause-on : goal.returns-clause-on
returns-clause-on c =
    let own = c.self.inside in
    subst (λ (world : WorldValue). (w : CoreWorld) → Shows world w → Fits world w
    → Shows (record { lead = own.lead; board = c.release.new.self; hands = c.in_ok-self-inside.field-0.items; filled = own.filled.items; taken = own.taken }) (release_hand w (hand_at w.hands c.args.hand))) c.self.view_is
    (λ w shows fits. release-shown (record { lead = own.lead; board = own.board; hands = own.hands.items; filled = own.filled.items; taken = own.taken }) c.release.new.self w c.in_ok-self-inside.field-0.items c.args.hand c.in-Some._held shows fits
    (sym c.hand_at.ensures ∙ c.in-Some.is) c.in_ok-self-inside.ensures c.release.ensures.seats c.release.ensures.log c.release.ensures.kept)
