use Rattle.std.proofs.Common.{◌≡◌, ◌++◌, sym, ap, ◌∙◌, subst}
use Rattle.word_model.specs.Reduction.{Reduced as Reduction, reduce}
use Rattle.left_reduce.specs.Reductions.{GoneOn}
use Rattle.commit_core.specs.Leads.{Run}
use Rattle.commit_core.specs.Begun.{Records}
use Rattle.commit_core.proofs.Continuing.{begun-uses, begun-counted, last-is}
use Rattle.commit_core.proofs.lead.Lead.reduce_job.Goals as goal

pub enter_reduced-requires-clause-uses : goal.enter_reduced-requires-clause-uses
enter_reduced-requires-clause-uses g c =
    begun-uses c.args.self.now c.args.job c.in-Ok.begun.0 c.in-Ok.begun.1 c.begin.new.seat.algebra c.self.inside.progress.basis.items c.in_ok-reduced.reduced c.in-Ok.ensures.value
    (c.begin.ensures.algebra ∙ c.requires.algebra) (ap (λ (run : Run). run.basis) c.self.view_is) c.in_ok-reduced.ensures.value

pub returns-clause-counted : goal.returns-clause-counted
returns-clause-counted g c = λ added entry grown. (
    let is = c.enter_reduced.ensures.entry added in
    let q : Reduction = reduce c.begin.new.seat.algebra c.self.inside.progress.basis.items c.in-Ok.begun.0 in
    let trace : c.in_ok-reduced.reduced.trace ≡ c.in-Ok.begun.1 ++ q.trace = ap (λ (r : GoneOn). r.trace) c.in_ok-reduced.ensures.value in
    begun-counted c.args.spec entry c.args.job c.in-Ok.begun.1 q.trace c.args.steps.now c.begin.new.steps c.reduce_from.new.steps
    (subst (λ e. Records e c.args.job (c.in-Ok.begun.1 ++ q.trace)) (last-is c.args.self.now.entries is.0 entry (sym is.1 ∙ grown)) (subst (Records is.0 c.args.job) trace is.2))
    c.in-Ok.ensures.trace c.in-Ok.ensures.counted c.in_ok-reduced.ensures.counted
    )
