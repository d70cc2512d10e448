use Rattle.std.proofs.Common.{◌≡◌, ◌≤◌, IsTrue, length, sym, ap, ◌∙◌, subst, arith, rules}
use Rattle.monomials.specs.Polynomials.{Each}
use Rattle.monomials.specs.Leading.{leading_monomial}
use Rattle.word_model.specs.Conditions.{IsGAlgebra}
use Rattle.word_model.specs.Reduction.{element}
use Rattle.commit_core.specs.Specs.{IsGood}
use Rattle.crew.specs.Sealing.{SealedSpec, Agrees, IsSealed}
use Rattle.crew.proofs.Agreeing.{agrees-good}
use Rattle.crew.proofs.sealed.Sealed.unseal.Goals as goal
use Rattle.crew.proofs.sealed.Sealed.unseal.Goals.{After-same_undefined, After-same_leads, After-same_steps}

-- what all tests say
agreed : (c : After-same_undefined) → IsTrue c.same.result → IsTrue c.same_start.result → length c.self.inside.used ≤ length c.basis-basis.result.now.items → IsTrue c.same_leads.result → IsTrue c.same_steps.result
    → IsTrue c.same_undefined.result → Agrees c.args.self c.args.lead.now
agreed c same start long leads steps undefined =
    let basis = c.basis-basis.ensures.value in
    let elements : c.self.inside.used ≡ c.args.self.elements = ap (λ (v : SealedSpec). v.elements) c.self.view_is in
    let prefix : c.args.self.spec.prefix ≡ length c.self.inside.used = ap (λ (v : SealedSpec). v.spec.prefix) (sym c.self.view_is) ∙ c.self.invariant.prefix in
    record {
      algebra = ap (λ (v : SealedSpec). v.algebra) (sym c.self.view_is) ∙ c.same.ensures.0 same ∙ c.requires.algebra;
      start = c.same_start.ensures.0 start;
      within = omega (arith, prefix, long, ap length basis);
      leads = λ k low high.
          ap (λ xs. leading_monomial (element xs k)) (sym elements) ∙ c.same_leads.ensures.0 leads k low (omega (arith, high, ap length elements)) ∙ ap (λ xs. leading_monomial (element xs k)) basis;
      steps = subst (λ xs. Each (λ s. element c.args.self.elements s.index ≡ element xs s.index) c.args.self.spec.trace) basis (c.same_steps.ensures.0 steps);
      undefined = λ t e. c.same_undefined.ensures.0 undefined t e ∙ ap (λ xs. element xs t.1) basis;
    }

all : (c : After-same_undefined) → IsTrue c.same_undefined.result → Agrees c.args.self c.args.lead.now
all c undefined =
    agreed c (search (rules, c.if-not-same.false)) (search (rules, c.if-not-same_start.false)) (omega (arith, c.if-len-count.false, c.len.ensures, c.count.ensures))
    (search (rules, c.if-not-same_leads.false)) (search (rules, c.if-not-same_steps.false)) undefined

good : (c : After-same_undefined) → Agrees c.args.self c.args.lead.now → IsGood c.args.lead.now.algebra c.args.lead.now.generators c.args.lead.now.basis c.args.self.spec
good c agrees =
    agrees-good c.args.self c.args.lead.now (subst IsGAlgebra c.requires.algebra c.n-n.ensures.accepted) (subst IsSealed c.self.view_is c.self.invariant) c.basis-basis.ensures.facts agrees

pub returns-clause-agrees : goal.returns-clause-agrees
returns-clause-agrees c = (all (goal.at.returns-clause-agrees c).After-same_undefined (search (rules, c.if-not-same_undefined.false)), ap (λ (v : SealedSpec). v.spec) c.self.view_is)

pub returns-clause-good : goal.returns-clause-good
returns-clause-good c =
    subst (IsGood c.args.lead.now.algebra c.args.lead.now.generators c.args.lead.now.basis) (ap (λ (v : SealedSpec). v.spec) (sym c.self.view_is))
    (good (goal.at.returns-clause-good c).After-same_undefined (all (goal.at.returns-clause-good c).After-same_undefined (search (rules, c.if-not-same_undefined.false))))

-- and each test where they agree
has-leads : (c : After-same_leads) → Agrees c.args.self c.args.lead.now → IsTrue c.same_leads.result
has-leads c agrees =
    let basis = c.basis-basis.ensures.value in
    let elements : c.self.inside.used ≡ c.args.self.elements = ap (λ (v : SealedSpec). v.elements) c.self.view_is in
    c.same_leads.ensures.1 (λ k low high.
    ap (λ xs. leading_monomial (element xs k)) elements ∙ agrees.leads k low (omega (arith, high, ap length elements)) ∙ ap (λ xs. leading_monomial (element xs k)) (sym basis))

has-steps : (c : After-same_steps) → Agrees c.args.self c.args.lead.now → IsTrue c.same_steps.result
has-steps c agrees =
    c.same_steps.ensures.1 (subst (λ xs. Each (λ s. element c.args.self.elements s.index ≡ element xs s.index) c.args.self.spec.trace) (sym c.basis-basis.ensures.value) agrees.steps)

has-undefined : (c : After-same_undefined) → Agrees c.args.self c.args.lead.now → IsTrue c.same_undefined.result
has-undefined c agrees = c.same_undefined.ensures.1 (λ t e. agrees.undefined t e ∙ ap (λ xs. element xs t.1) (sym c.basis-basis.ensures.value))

pub returns-then-not-same_leads-clause-agrees : goal.returns-then-not-same_leads-clause-agrees
returns-then-not-same_leads-clause-agrees c agrees = let there : IsTrue c.same_leads.result = has-leads (goal.at.returns-then-not-same_leads-clause-agrees c).After-same_leads agrees in search (rules, there, c.if-not-same_leads.true)

pub returns-then-not-same_steps-clause-agrees : goal.returns-then-not-same_steps-clause-agrees
returns-then-not-same_steps-clause-agrees c agrees = let there : IsTrue c.same_steps.result = has-steps (goal.at.returns-then-not-same_steps-clause-agrees c).After-same_steps agrees in search (rules, there, c.if-not-same_steps.true)

pub returns-then-not-same_undefined-clause-agrees : goal.returns-then-not-same_undefined-clause-agrees
returns-then-not-same_undefined-clause-agrees c agrees = let there : IsTrue c.same_undefined.result = has-undefined (goal.at.returns-then-not-same_undefined-clause-agrees c).After-same_undefined agrees in search (rules, there, c.if-not-same_undefined.true)
