-- A lead that is gone on with, and the run of the machine.
use Rattle.std.proofs.Common.{◌≡◌, suc, ◌-◌, ◌<◌, length, List, Ok, sym, ap, ◌∙◌, refl}
use Rattle.monomials.specs.Polynomials.{Polynomial}
use Rattle.word_model.specs.Words.{Algebra}
use Rattle.word_model.specs.Machine.{State, Over, Journal, step, machine, ends_with}
use Rattle.word_model.specs.declared.records.Mode.{Mode}
use Rattle.word_model.specs.declared.records.Outcome.{Outcome}
use Rattle.commit_core.specs.Leads.{Run, IsAt, IsSameRun, IsCommit, run_step, run_journal}
use Rattle.commit_core.specs.Kept.{Turns, state_of, run_from}
use Rattle.commit_core.specs.declared.lead.Committed.{Committed}
use Rattle.commit_core.specs.declared.lead.Committed.TheVariants.{Added, Over as Ended}
use Rattle.commit_core.proofs.Turning.{step-adds, run-ends}

same-step : (run old : Run) (s : State) → IsSameRun run old → run_step old s ≡ run_step run s
same-step run old s same =
    ap (λ (A : Algebra). step A old.generators old.mode old.budget s) same.algebra
    ∙ ap (λ (gens : List Polynomial). step run.algebra gens old.mode old.budget s) same.generators
    ∙ ap (λ (mode : Mode). step run.algebra run.generators mode old.budget s) same.mode
    ∙ ap (λ budget. step run.algebra run.generators run.mode budget s) same.budget

-- a run of the same machine as one of the same machine is one
pub same-run : (run old new : Run) → IsSameRun run old → IsSameRun old new → IsSameRun run new
same-run run old new first second = record {
  algebra = second.algebra ∙ first.algebra;
  generators = second.generators ∙ first.generators;
  mode = second.mode ∙ first.mode;
  budget = second.budget ∙ first.budget;
}

-- a run that ends makes its journal
pub run-over : (run old : Run) (outcome : Outcome) → IsSameRun run old → Turns old (λ s. Over outcome) → (s : State) → IsAt old s
    → ◌≡◌ {A = Journal} (record { entries = old.entries; basis = old.basis; outcome = outcome }) (run_from run s)
run-over run old outcome same turn s at =
    ap (λ (r : State). ends_with r outcome) (sym parts)
    ∙ sym (run-ends run.algebra run.generators run.mode run.budget (run.budget - length s.entries) s outcome (sym (same-step run old s same) ∙ turn s at))
  where
    parts : ◌≡◌ {A = State} s (record s { entries = old.entries; basis = old.basis })
    parts = λ t. record s { entries = at.entries t; basis = at.basis t }

-- a commit that goes on adds an entry, and there were fewer than the budget
pub commit-adds : (old new : Run) → IsCommit old new (Ok Added) → (length old.entries < old.budget) × (length new.entries ≡ suc (length old.entries))
commit-adds old new commit =
    let next = commit.2 (state_of old) (record { entries = refl; basis = refl; sugars = refl; jobs = λ job. refl }) in
    let adds = step-adds old.algebra old.generators old.mode old.budget (state_of old) next.0 next.1 in
    (adds.0, sym (ap length next.2.entries) ∙ adds.1)

-- runs of the same machine have the same journal
pub same-journal : (run old : Run) → IsSameRun run old → run_journal old ≡ run_journal run
same-journal run old same =
    ap (λ (A : Algebra). machine A old.generators old.mode old.budget) same.algebra
    ∙ ap (λ (gens : List Polynomial). machine run.algebra gens old.mode old.budget) same.generators
    ∙ ap (λ (mode : Mode). machine run.algebra run.generators mode old.budget) same.mode
    ∙ ap (λ budget. machine run.algebra run.generators run.mode budget) same.budget

-- no commit changes the algebra
pub commit-algebra : (old new : Run) (r : Committed) → IsCommit old new (Ok r) → new.algebra ≡ old.algebra
commit-algebra old new Added commit = commit.0.algebra
commit-algebra old new (Ended outcome) commit = ap (λ (run : Run). run.algebra) commit.1
