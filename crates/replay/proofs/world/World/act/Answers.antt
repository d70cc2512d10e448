use Rattle.std.proofs.Common.{OnOk, sym, subst}
use Rattle.word_model.specs.declared.events.Event.{Event}
use Rattle.replay.specs.Worlds.{CoreWorld, after_event}
use Rattle.replay.specs.Shown.{Shows, Fits}
use Rattle.replay.proofs.world.World.act.Goals as goal

pub returns-in-Fill-clause-on : goal.returns-in-Fill-clause-on
returns-in-Fill-clause-on g c =
    let run = c.args.self.now.lead in
    subst (λ (e : Event). OnOk c.fill.result ((w : CoreWorld) → Shows c.args.self.now w → Fits c.args.self.now w → Shows c.fill.new.self (after_event run.algebra run.generators run.mode run.budget w e))) (sym c.in-Fill.is) c.fill.ensures.on
