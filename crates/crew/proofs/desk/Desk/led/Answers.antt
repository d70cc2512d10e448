use Rattle.std.proofs.Common.{Ok, ap, ◌∙◌, subst, arith}
use Rattle.commit_core.specs.Leads.{Run, IsCommit, run_journal}
use Rattle.commit_core.specs.declared.lead.Committed.{Committed}
use Rattle.commit_core.specs.declared.lead.Committed.TheVariants.{Added, Over as Ended}
use Rattle.commit_core.proofs.Running.{same-run, same-journal, commit-adds}
use Rattle.crew.proofs.desk.Desk.led.Goals as goal

pub loop-lead-smaller : goal.loop-lead-smaller
loop-lead-smaller g c =
    let added : IsCommit c.loop-lead.lead c.commit.new.self (Ok Added) =
    subst (λ (r : Committed). IsCommit c.loop-lead.lead c.commit.new.self (Ok r)) c.in-Added.is c.in_ok-commit.ensures.step in
    let adds = commit-adds c.loop-lead.lead c.commit.new.self added in
    omega (arith, adds, added.0.budget)

pub loop-lead-preserved : goal.loop-lead-preserved
loop-lead-preserved g c =
    let old : Run = c.loop-lead.lead in
    let added : IsCommit old c.commit.new.self (Ok Added) =
    subst (λ (r : Committed). IsCommit old c.commit.new.self (Ok r)) c.in-Added.is c.in_ok-commit.ensures.step in
    let is = c.loop-lead.invariant in
    record {
      seat = c.commit.ensures.seat_algebra ∙ c.in_ok-spec.ensures.algebra ∙ is.seat;
      algebra = added.0.algebra ∙ is.algebra;
      view = c.in_ok-spec.ensures.elements;
      same = same-run c.args.lead old c.commit.new.self is.same added.0;
    }

pub returns-in-Over : goal.returns-in-Over
returns-in-Over g c =
    let old : Run = c.loop-lead.lead in
    let over : IsCommit old c.commit.new.self (Ok (Ended c.in-Over.field-0)) =
    subst (λ (r : Committed). IsCommit old c.commit.new.self (Ok r)) c.in-Over.is c.in_ok-commit.ensures.step in
    c.into_journal.ensures.machine ∙ ap run_journal over.1 ∙ same-journal c.args.lead old c.loop-lead.invariant.same
