use Rattle.std.proofs.Common.{subst}
use Rattle.word_model.specs.Machine.{step}
use Rattle.replay.specs.Worlds.{CoreWorld, commits}
use Rattle.replay.specs.Shown.{WorldValue, Shows, Fits}
use Rattle.replay.proofs.Showing.{commit-shown}
use Rattle.replay.proofs.world.World.commit.Goals as goal

pub returns-clause-on : goal.returns-clause-on
returns-clause-on g c =
    let own = c.self.inside in
    subst (λ (world : WorldValue). (w : CoreWorld) → Shows world w → Fits world w
    → Shows (record { lead = c.commit.new.self; board = own.board; hands = own.hands.items; filled = own.filled.items; taken = c.take.new.self })
    (commits w (step world.lead.algebra world.lead.generators world.lead.mode world.lead.budget w.state) w.outcome)) c.self.view_is
    (λ w shows fits. commit-shown (record { lead = own.lead; board = own.board; hands = own.hands.items; filled = own.filled.items; taken = own.taken }) w c.commit.new.self c.take.new.self c.in_ok-commit.field-0 shows c.in_ok-commit.ensures.step
    (λ o e. (c.in_ok-commit.ensures.over o e).1) c.take.ensures.after)
