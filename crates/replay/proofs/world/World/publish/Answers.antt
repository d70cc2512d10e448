use Rattle.std.proofs.Common.{◌≡◌, ◌≤◌, length, List, Some, sym, ◌∙◌, subst}
use Rattle.monomials.specs.Polynomials.{Polynomial}
use Rattle.commit_core.specs.Named.{IsNamed}
use Rattle.replay.specs.Worlds.{CoreWorld, publish_hand, hand_at}
use Rattle.replay.specs.Shown.{WorldValue, Shows, Fits}
use Rattle.replay.proofs.Showing.{held-of, publish-none, publish-some}
use Rattle.replay.proofs.world.World.publish.Goals as goal

pub made-requires-clause-named : goal.made-requires-clause-named
made-requires-clause-named g c =
    let own = c.self.inside in
    let fit = subst (λ (world : WorldValue). (w : CoreWorld) × Shows world w × Fits world w) (sym c.self.view_is) c.requires.fit in
    let at = subst (λ hs. hand_at hs c.args.hand ≡ Some c.in-Some.held) fit.1.hands (sym c.hand_at.ensures ∙ c.in-Some.is) in
    subst (λ (G : List Polynomial). IsNamed own.lead.algebra own.lead.generators G c.in-Some.held.job) fit.1.lead.basis
    (held-of own.lead.algebra own.lead.generators own.lead.mode own.lead.budget fit.0 c.args.hand c.in-Some.held fit.2 at).1.2

pub made-requires-clause-within : goal.made-requires-clause-within
made-requires-clause-within g c =
    let own = c.self.inside in
    let fit = subst (λ (world : WorldValue). (w : CoreWorld) × Shows world w × Fits world w) (sym c.self.view_is) c.requires.fit in
    let at = subst (λ hs. hand_at hs c.args.hand ≡ Some c.in-Some.held) fit.1.hands (sym c.hand_at.ensures ∙ c.in-Some.is) in
    subst (λ (G : List Polynomial). c.in-Some.held.prefix ≤ length G) fit.1.lead.basis
    (held-of own.lead.algebra own.lead.generators own.lead.mode own.lead.budget fit.0 c.args.hand c.in-Some.held fit.2 at).1.1

pub returns-in-None-clause-on : goal.returns-in-None-clause-on
returns-in-None-clause-on g c =
    let own = c.self.inside in
    subst (λ (world : WorldValue). (w : CoreWorld) → Shows world w → Fits world w
    → Shows (record { lead = own.lead; board = c.release.new.self; hands = c.in_ok-self-inside.field-0.items; filled = own.filled.items; taken = own.taken })
    (publish_hand world.lead.algebra world.lead.generators w (hand_at w.hands c.args.hand))) c.self.view_is
    (λ w shows fits. publish-none (record { lead = own.lead; board = own.board; hands = own.hands.items; filled = own.filled.items; taken = own.taken }) c.release.new.self w c.in_ok-self-inside.field-0.items c.args.hand c.in-Some.held shows fits
    (sym c.hand_at.ensures ∙ c.in-Some.is) c.in_ok-self-inside.ensures c.release.ensures.seats (sym c.in-None.is ∙ c.in_ok-spec.ensures.value) c.release.ensures.log c.release.ensures.kept)

pub returns-in-Some-spec-clause-on : goal.returns-in-Some-spec-clause-on
returns-in-Some-spec-clause-on g c =
    let own = c.self.inside in
    subst (λ (world : WorldValue). (w : CoreWorld) → Shows world w → Fits world w
    → Shows (record { lead = own.lead; board = c.publish_spec.new.board; hands = c.in_ok-self-inside.field-0.items; filled = own.filled.items; taken = own.taken })
    (publish_hand world.lead.algebra world.lead.generators w (hand_at w.hands c.args.hand))) c.self.view_is
    (λ w shows fits. publish-some (record { lead = own.lead; board = own.board; hands = own.hands.items; filled = own.filled.items; taken = own.taken }) c.publish_spec.new.board w c.in_ok-self-inside.field-0.items c.args.hand c.in-Some.held shows fits
    (sym c.hand_at.ensures ∙ c.in-Some.is) c.in_ok-self-inside.ensures c.publish_spec.ensures.seats c.in-Some-spec.spec c.publish_spec.ensures.kept.0 (sym c.in-Some-spec.is ∙ c.in_ok-spec.ensures.value) c.publish_spec.ensures.log c.publish_spec.ensures.kept.1)
