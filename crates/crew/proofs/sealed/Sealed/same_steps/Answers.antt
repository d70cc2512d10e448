use Rattle.std.proofs.Common.{◌≡◌, ◌+◌, ◌∷◌, IsTrue, true, false, drop, sym, ap, ◌∙◌, subst, rules, add-one, drop-cons}
use Rattle.monomials.specs.Polynomials.{Each}
use Rattle.word_model.specs.Reduction.{element}
use Rattle.word_model.specs.declared.records.TraceStep.{TraceStep}
use Rattle.crew.proofs.sealed.Sealed.same_steps.Goals as goal
use Rattle.crew.proofs.sealed.Sealed.same_steps.Goals.{After-same_used}

-- the steps from this one on
rest : (c : After-same_used) → drop c.loop-step.step-index c.steps-step-items.result.now ≡ c.step-item.result ∷ drop (c.loop-step.step-index + 1) c.steps-step-items.result.now
rest c =
    let steps = c.steps-step-items.result.now in
    let i = c.loop-step.step-index in
    rw add-one (drop-cons steps i c.step-item.result c.loop-step-test.true) ∙ ap (λ s. s ∷ drop (i + 1) steps) (sym c.step-item.is)

abbrev Same : (c : After-same_used) → TraceStep → Type 0
Same c s = element c.args.self.now.elements s.index ≡ element c.args.basis.now.items s.index

pub returns-then-not-same_used : goal.returns-then-not-same_used
returns-then-not-same_used c = (
  (λ t. absurd (let bad : false ≡ true = t in cc)),
  (λ h.
      let p = (goal.at.returns-then-not-same_used c).After-same_used in
      let there : IsTrue c.same_used.result = c.same_used.ensures.same.1 (subst (Each (Same p)) (rest p) (c.loop-step.invariant.on h)).0 in search (rules, there, c.if-not-same_used.true)),
)

pub loop-step-preserved : goal.loop-step-preserved
loop-step-preserved c =
    let p = (goal.at.loop-step-preserved c).After-same_used in
    let there : IsTrue c.same_used.result = search (rules, c.if-not-same_used.false) in
    record {
      back = λ h. c.loop-step.invariant.back (subst (Each (Same p)) (sym (rest p)) (c.same_used.ensures.same.0 there, h));
      on = λ h. (subst (Each (Same p)) (rest p) (c.loop-step.invariant.on h)).1;
      same = c.same_used.ensures.compared;
    }
