use Rattle.std.proofs.Common.{sym, ◌∙◌, subst}
use Rattle.std.proofs.lemmas.Result.{IfOk-weaker}
use Rattle.word_model.specs.Bases.{RunLaws}
use Rattle.commit_core.specs.Leads.{Run}
use Rattle.commit_core.proofs.Running.{same-journal}
use Rattle.crew.proofs.engines.crew_basis.Goals as goal

pub returns-clause-value : goal.returns-clause-value
returns-clause-value g c =
    let lead = c.in_ok-lead.lead in
    let is = c.in_ok-lead.ensures in
    let given : Run = record lead { algebra = c.args.alg.now; generators = c.args.gens.now; mode = c.args.mode; budget = c.args.budget } in
    IfOk-weaker c.crowd.result _ _
    (λ j made. made ∙ same-journal given lead (record { algebra = is.algebra; generators = is.generators; mode = is.mode; budget = is.budget })) c.crowd.ensures

pub returns-clause-run : goal.returns-clause-run
returns-clause-run g c =
    let lead = c.in_ok-lead.lead in
    let is = c.in_ok-lead.ensures in
    let given : Run = record lead { algebra = c.args.alg.now; generators = c.args.gens.now; mode = c.args.mode; budget = c.args.budget } in
    IfOk-weaker c.crowd.result _ (RunLaws c.args.alg.now c.args.mode c.args.gens.now)
    (λ j made.
    subst (RunLaws c.args.alg.now c.args.mode c.args.gens.now)
    (sym (made ∙ same-journal given lead (record { algebra = is.algebra; generators = is.generators; mode = is.mode; budget = is.budget })))
    (c.runs_have_laws.ensures c.args.mode c.args.budget))
    c.crowd.ensures
