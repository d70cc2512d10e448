use Rattle.std.proofs.Common.{◌≡◌, ◌+◌, ◌∷◌, drop, sym, ap, ◌∙◌, subst, arith, add-one, drop-cons}
use Rattle.word_model.specs.Conditions.{IsGAlgebra}
use Rattle.commit_core.specs.Leads.{IsLead}
use Rattle.replay.specs.Shown.{WorldValue}
use Rattle.replay.specs.Worlds.{after_events}
use Rattle.commit_core.proofs.Running.{same-run}
use Rattle.replay.proofs.Showing.{act-on, acts-end}
use Rattle.replay.proofs.world.replayed.Goals as goal

pub loop-k-preserved : goal.loop-k-preserved
loop-k-preserved g c =
    let run = c.args.world.lead in
    let events = c.args.events.now in
    let i = c.loop-k.k in
    let e = c.event_at-event.result in
    let is = c.loop-k.invariant in
    let ok = subst IsGAlgebra (c.algebra.ensures ∙ c.requires.algebra) c.n-n.ensures.accepted in
    let lead = subst (λ (v : WorldValue). IsLead v.lead) c.world.view_is c.generators-gens.ensures.facts in
    let rest : drop i events ≡ e ∷ drop (i + 1) events = rw add-one (drop-cons events i e c.loop-k-test.true) ∙ ap (λ x. x ∷ drop (i + 1) events) (sym (c.event_at-event.ensures e)) in
    record {
      seat = c.act.ensures.seat ∙ is.seat ∙ sym c.in_ok-act.ensures.same.algebra;
      same = same-run run c.loop-k.world.lead c.act.new.self.lead is.same c.in_ok-act.ensures.same;
      shown = λ w shows fits. act-on run c.loop-k.world c.act.new.self events i e ok lead.generators is.same c.in_ok-act.ensures.same rest c.in_ok-act.ensures.on
          (after_events run.algebra run.generators run.mode run.budget w events) (is.shown w shows fits);
    }

pub returns : goal.returns
returns g c = λ w shows fits. acts-end c.args.world.lead c.loop-k.world c.args.events.now c.loop-k.k
    (after_events c.args.world.lead.algebra c.args.world.lead.generators c.args.world.lead.mode c.args.world.lead.budget w c.args.events.now)
    (omega (arith, c.loop-k-test.false)) (c.loop-k.invariant.shown w shows fits)
