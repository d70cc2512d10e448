use Rattle.std.proofs.Common.{◌≡◌, ◌+◌, ◌*◌, ◌≤◌, List, [], ◌∷◌, ◌++◌, length, drop, Ok, refl, sym, ap, ◌∙◌, subst, arith, length-append}
use Rattle.monomials.specs.Polynomials.{Polynomial, Each}
use Rattle.word_model.specs.Words.{Algebra}
use Rattle.word_model.specs.Conditions.{IsGAlgebra}
use Rattle.word_model.specs.Machine.{State, On, jobs_of}
use Rattle.pair_strategy.specs.Queues.{jobs_in, HasKey, SameJobs}
use Rattle.commit_core.specs.Named.{IsNamed}
use Rattle.commit_core.specs.Leads.{Run, IsCommit, AreLow}
use Rattle.commit_core.specs.Kept.{Turns, state_of, kept_run}
use Rattle.commit_core.specs.declared.lead.Committed.TheVariants.{Added}
use Rattle.word_model.proofs.Sugars.{AreSugars-length}
use Rattle.commit_core.proofs.Leading.{run_at, admits, admitted, admitted-sugars, low-append, small-each, lead-on}
use Rattle.commit_core.proofs.lead.Lead.admit.Goals as goal

-- the lead's algebra is that of the call, and its turn that of what the lead keeps
pub admit-requires-clause-sugars : goal.admit-requires-clause-sugars
admit-requires-clause-sugars c =
    let lead = c.self.inside in
    let algebra : c.args.alg.now ≡ lead.algebra.value = c.requires.algebra ∙ ap (λ (run : Run). run.algebra) (sym c.self.view_is) in
    let turn = subst (λ (run : Run). Turns run (λ x. On (admits run.mode run.algebra.order.vars c.args.job c.args.entry c.args.element c.args.sugar x))) (sym c.self.view_is) c.requires.turn in
    admitted-sugars lead.algebra.value lead.generators.items lead.mode lead.budget lead.outcome (state_of (kept_run lead)) lead.progress.queue c.args.job c.args.entry c.args.element c.args.sugar
    (subst IsGAlgebra algebra c.n-n.ensures.accepted) c.self.invariant turn

pub admit-requires-clause-small : goal.admit-requires-clause-small
admit-requires-clause-small c =
    let lead = c.self.inside in
    let n = lead.progress.sugars.items in
    let count = AreSugars-length lead.progress.basis.items n c.self.invariant.state.sugars in
    let basis : length lead.progress.basis.items ≡ length c.args.self.now.basis = ap (λ (run : Run). length run.basis) c.self.view_is in
    small-each (n ++ c.args.sugar ∷ []) (low-append 1 n c.args.sugar c.self.invariant.low (omega (arith, count, basis, c.requires.low)))
    (omega (arith, length-append n (c.args.sugar ∷ []), count, basis, c.requires.few))

pub admit-requires-clause-jobs : goal.admit-requires-clause-jobs
admit-requires-clause-jobs c =
    let lead = c.self.inside in
    let algebra : c.args.alg.now ≡ lead.algebra.value = c.requires.algebra ∙ ap (λ (run : Run). run.algebra) (sym c.self.view_is) in
    subst (λ (A : Algebra). Each (IsNamed A c.deref.result.now lead.progress.basis.items) (jobs_in lead.progress.queue.items)) (sym algebra)
    (subst (λ (gens : List Polynomial). Each (IsNamed lead.algebra.value gens lead.progress.basis.items) (jobs_in lead.progress.queue.items)) (sym c.deref.ensures.value)
    c.self.invariant.state.jobs)

-- what the run has after it
abbrev after : goal.In_ok-admit → State
after c = record {
  entries = c.admit.new.self.entries.items;
  basis = c.admit.new.self.basis.items;
  sugars = c.admit.new.self.sugars.items;
  queue = jobs_in c.admit.new.self.queue.items;
}

-- the lead's algebra is that of the call
algebra_is : (c : goal.In_ok-admit) → c.args.alg.now ≡ c.self.inside.algebra.value
algebra_is c = c.requires.algebra ∙ ap (λ (run : Run). run.algebra) (sym c.self.view_is)

committed : (c : goal.In_ok-admit)
    → IsCommit (kept_run c.self.inside)
    (run_at c.self.inside.algebra.value c.self.inside.generators.items c.self.inside.mode c.self.inside.budget c.self.inside.outcome (after c)) (Ok Added)
committed c =
    let lead = c.self.inside in
    let A = lead.algebra.value in
    let q = lead.progress.queue in
    let is = c.in_ok-admit.ensures in
    let first : jobs_in q.items ≡ c.args.job ∷ c.requires.first.0 = ap (λ (run : Run). run.jobs) c.self.view_is ∙ c.requires.first.1 in
    let jobs = subst (λ (B : Algebra). SameJobs (jobs_in (drop 1 q.items) ++ jobs_of lead.mode B.order.vars (length (after c).basis)) (after c).queue) (algebra_is c) is.jobs in
    let turn = subst (λ (run : Run). Turns run (λ x. On (admits run.mode run.algebra.order.vars c.args.job c.args.entry c.args.element c.args.sugar x))) (sym c.self.view_is) c.requires.turn in
    admitted A lead.generators.items lead.mode lead.budget lead.outcome (state_of (kept_run lead)) (after c) q refl is.set c.args.job c.requires.first.0 first
    c.queues_are_sets.ensures.taken c.args.entry is.entries c.args.element c.args.sugar is.basis is.sugars jobs turn

-- the new element's sugar is below its bound
low_sugar : (c : goal.In_ok-admit) → c.args.sugar ≤ 4095 + 8190 * (1 + length c.self.inside.progress.sugars.items)
low_sugar c =
    let lead = c.self.inside in
    omega (
      arith,
      AreSugars-length lead.progress.basis.items lead.progress.sugars.items c.self.invariant.state.sugars,
      c.requires.low,
      ap (λ (run : Run). length run.basis) c.self.view_is,
    )

pub invariant_of-self-2 : goal.invariant_of-self-2
invariant_of-self-2 c =
    let lead = c.self.inside in
    let is = c.in_ok-admit.ensures in
    let going = ap (λ (run : Run). run.outcome) c.self.view_is ∙ c.requires.going in
    let gens = c.deref.ensures.value in
    let keys = subst (λ (B : Algebra). Each (HasKey B lead.generators.items lead.progress.basis.items lead.progress.sugars.items) lead.progress.queue.items
    → Each (HasKey B lead.generators.items (after c).basis (after c).sugars) c.admit.new.self.queue.items) (algebra_is c)
    (subst (λ (fs : List Polynomial). Each (HasKey c.args.alg.now fs lead.progress.basis.items lead.progress.sugars.items) lead.progress.queue.items
    → Each (HasKey c.args.alg.now fs (after c).basis (after c).sugars) c.admit.new.self.queue.items) gens is.keys) in
    let low = subst (AreLow 1) (sym is.sugars) (low-append 1 lead.progress.sugars.items c.args.sugar c.self.invariant.low (low_sugar c)) in
    lead-on lead.algebra.value lead.generators.items lead.mode lead.budget lead.outcome (state_of (kept_run lead)) (after c) lead.progress.queue c.admit.new.self.queue
    (subst IsGAlgebra (algebra_is c) c.n-n.ensures.accepted) going c.self.invariant (committed c) c.admit.ensures.order refl (keys c.self.invariant.keys) low

pub returns-clause-step : goal.returns-clause-step
returns-clause-step c =
    let lead = c.self.inside in
    subst (λ (run : Run). IsCommit run (run_at lead.algebra.value lead.generators.items lead.mode lead.budget lead.outcome (after c)) (Ok Added)) c.self.view_is (committed c)
