use Rattle.std.proofs.Common.{◌≡◌, ℕ, ◌+◌, ◌*◌, ◌≤◌, List, length, sym, ap, ◌∙◌, subst, arith}
use Rattle.monomials.specs.Polynomials.{Polynomial, Each, HasVars}
use Rattle.word_model.specs.Jobs.{element_sugar, IsJob, UsesElements}
use Rattle.word_model.proofs.Sugars.{AreSugars-length, element_sugar-most}
use Rattle.commit_core.specs.Named.{IsNamed}
use Rattle.commit_core.specs.Leads.{Run}
use Rattle.commit_core.proofs.Bringing.{sorted-vars, elements-vars}
use Rattle.commit_core.proofs.Leading.{low-each, small-each}
use Rattle.commit_core.proofs.lead.Lead.sugar_of.Goals as goal

pub job_key-key-requires-clause-in_range : goal.job_key-key-requires-clause-in_range
job_key-key-requires-clause-in_range c =
    let lead = c.self.inside in
    let A = lead.algebra.value in
    let G = lead.progress.basis.items in
    let named : IsNamed A lead.generators.items G c.args.job.now =
    subst (λ (run : Run). IsNamed run.algebra run.generators run.basis c.args.job.now) (sym c.self.view_is) c.requires.named in
    subst (λ (fs : List Polynomial). (x : ℕ) × Each (HasVars x) fs × Each (HasVars x) G × IsJob (length fs) (length G) x c.args.job.now) (sym c.deref-2.ensures.value)
    (A.order.vars, sorted-vars A lead.generators.items c.self.invariant.sorted, elements-vars A G c.self.invariant.state.elements, named.0)

pub job_key-key-requires-clause-small : goal.job_key-key-requires-clause-small
job_key-key-requires-clause-small c =
    let lead = c.self.inside in
    let count = AreSugars-length lead.progress.basis.items lead.progress.sugars.items c.self.invariant.state.sugars in
    subst (Each (λ n. n ≤ 33554432)) (sym c.deref.ensures.value)
    (small-each lead.progress.sugars.items c.self.invariant.low (omega (arith, count, c.self.invariant.state.few)))

pub element_sugar-requires-clause-in_range : goal.element_sugar-requires-clause-in_range
element_sugar-requires-clause-in_range c =
    let lead = c.self.inside in
    let count : length c.args.self.now.basis ≡ length c.deref-3.result.now =
    ap (λ (run : Run). length run.basis) (sym c.self.view_is)
    ∙ sym (AreSugars-length lead.progress.basis.items lead.progress.sugars.items c.self.invariant.state.sugars)
    ∙ ap length (sym c.deref-3.ensures.value) in
    subst (λ m. UsesElements m c.args.trace.now) count c.requires.uses

pub element_sugar-requires-clause-small : goal.element_sugar-requires-clause-small
element_sugar-requires-clause-small c =
    let lead = c.self.inside in
    let count = AreSugars-length lead.progress.basis.items lead.progress.sugars.items c.self.invariant.state.sugars in
    subst (Each (λ n. n ≤ 33554432)) (sym c.deref-3.ensures.value)
    (small-each lead.progress.sugars.items c.self.invariant.low (omega (arith, count, c.self.invariant.state.few)))

pub element_sugar-requires-clause-job_small : goal.element_sugar-requires-clause-job_small
element_sugar-requires-clause-job_small c =
    let lead = c.self.inside in
    let b = 4095 + 8190 * length lead.progress.sugars.items in
    let count = AreSugars-length lead.progress.basis.items lead.progress.sugars.items c.self.invariant.state.sugars in
    let few : Each (λ n. n ≤ b) c.deref.result.now =
    subst (Each (λ n. n ≤ b)) (sym c.deref.ensures.value) (low-each 1 (length lead.progress.sugars.items) lead.progress.sugars.items c.self.invariant.low (omega arith)) in
    omega (arith, c.job_key-key.ensures.most b few, count, c.self.invariant.state.few)

pub returns-clause-low : goal.returns-clause-low
returns-clause-low c =
    let lead = c.self.inside in
    let sugars = lead.progress.sugars.items in
    let b = 4095 + 8190 * length sugars in
    let count = AreSugars-length lead.progress.basis.items sugars c.self.invariant.state.sugars in
    let basis : length lead.progress.basis.items ≡ length c.args.self.now.basis = ap (λ (run : Run). length run.basis) c.self.view_is in
    let few : Each (λ n. n ≤ b) sugars = low-each 1 (length sugars) sugars c.self.invariant.low (omega arith) in
    let first : Each (λ n. n ≤ b) c.deref.result.now = subst (Each (λ n. n ≤ b)) (sym c.deref.ensures.value) few in
    let third : Each (λ n. n ≤ b) c.deref-3.result.now = subst (Each (λ n. n ≤ b)) (sym c.deref-3.ensures.value) few in
    let most : element_sugar c.deref-3.result.now c.job_key-key.result.sugar c.args.trace.now ≤ b + 4095 =
    element_sugar-most b (b + 4095) c.deref-3.result.now (length c.args.self.now.basis) c.job_key-key.result.sugar c.args.trace.now third (omega arith) c.requires.uses
    (c.job_key-key.ensures.most b first) in
    omega (arith, most, c.element_sugar.ensures, count, basis)
