use Rattle.std.proofs.Common.{◌≡◌, ◌≤◌, MatchOption, [], IsTrue, true, false, length, sym, ap, ◌∙◌, subst, arith}
use Rattle.word_model.specs.Reduction.{element}
use Rattle.crew.specs.declared.sealed.Sealed.TheInside.{Inside}
use Rattle.crew.specs.Sealing.{SealedSpec, SameStart}
use Rattle.crew.proofs.sealed.Sealed.same_start.Goals as goal

pub returns-then-s-gens : goal.returns-then-s-gens
returns-then-s-gens c =
    let run = c.args.lead.now in
    let own = c.self.inside in
    let s = c.in-Seed.s in
    let m = c.same.ensures (element own.gens.now s) (element c.generators-gens.result.now s) (subst (λ (v : Inside). MatchOption c.at.result (element v.gens.now s ≡ []) (λ p. p.now ≡ element v.gens.now s)) c.self-inside.view_is c.at.ensures) c.at-then-s-gens.ensures in
    let there = ap (λ fs. element fs s) c.generators-gens.ensures.value in
    let low : s ≤ length run.generators = omega (arith, c.if-s-gens.true, ap length c.generators-gens.ensures.value) in
    subst (λ (v : SealedSpec). (IsTrue c.same.result → SameStart v.generators v.elements run.generators run.basis v.spec.job) × (SameStart v.generators v.elements run.generators run.basis v.spec.job → IsTrue c.same.result)) c.self.view_is
    (subst (λ j. (IsTrue c.same.result → SameStart own.gens.now own.used run.generators run.basis j) × (SameStart own.gens.now own.used run.generators run.basis j → IsTrue c.same.result)) (sym (ap (λ (v : Inside). v.spec.job) (sym c.self-inside.view_is) ∙ c.in-Seed.is))
    ((λ t. (low, m.0 t ∙ there)), (λ h. m.1 (h.1 ∙ sym there))))

pub returns-then-same : goal.returns-then-same
returns-then-same c =
    let run = c.args.lead.now in
    let own = c.self.inside in
    let i = c.in-Pair.i in
    let j = c.in-Pair.j in
    let first = c.same-in-Pair.ensures (element own.used i) (element c.deref.result.now i) (subst (λ (v : Inside). MatchOption c.get.result (element v.used i ≡ []) (λ p. p.now ≡ element v.used i)) c.self-inside.view_is c.get.ensures) c.at-in-Pair.ensures in
    let second = c.same-then-same.ensures (element own.used j) (element c.deref-then-same.result.now j) (subst (λ (v : Inside). MatchOption c.get-then-same.result (element v.used j ≡ []) (λ p. p.now ≡ element v.used j)) c.self-inside.view_is c.get-then-same.ensures) c.at-then-same.ensures in
    let at_i = ap (λ fs. element fs i) (c.deref.ensures.value ∙ c.basis-basis.ensures.value) in
    let at_j = ap (λ fs. element fs j) (c.deref-then-same.ensures.value ∙ c.basis-basis.ensures.value) in
    subst (λ (v : SealedSpec). (IsTrue c.same-then-same.result → SameStart v.generators v.elements run.generators run.basis v.spec.job) × (SameStart v.generators v.elements run.generators run.basis v.spec.job → IsTrue c.same-then-same.result)) c.self.view_is
    (subst (λ k. (IsTrue c.same-then-same.result → SameStart own.gens.now own.used run.generators run.basis k) × (SameStart own.gens.now own.used run.generators run.basis k → IsTrue c.same-then-same.result)) (sym (ap (λ (v : Inside). v.spec.job) (sym c.self-inside.view_is) ∙ c.in-Pair.is))
    ((λ t. (first.0 c.if-same.true ∙ at_i, second.0 t ∙ at_j)), (λ h. second.1 (h.1 ∙ sym at_j))))

pub returns-else-same : goal.returns-else-same
returns-else-same c =
    let run = c.args.lead.now in
    let own = c.self.inside in
    let i = c.in-Pair.i in
    let first = c.same-in-Pair.ensures (element own.used i) (element c.deref.result.now i) (subst (λ (v : Inside). MatchOption c.get.result (element v.used i ≡ []) (λ p. p.now ≡ element v.used i)) c.self-inside.view_is c.get.ensures) c.at-in-Pair.ensures in
    let at_i = ap (λ fs. element fs i) (c.deref.ensures.value ∙ c.basis-basis.ensures.value) in
    subst (λ (v : SealedSpec). (IsTrue c.same-in-Pair.result → SameStart v.generators v.elements run.generators run.basis v.spec.job) × (SameStart v.generators v.elements run.generators run.basis v.spec.job → IsTrue c.same-in-Pair.result)) c.self.view_is
    (subst (λ k. (IsTrue c.same-in-Pair.result → SameStart own.gens.now own.used run.generators run.basis k) × (SameStart own.gens.now own.used run.generators run.basis k → IsTrue c.same-in-Pair.result)) (sym (ap (λ (v : Inside). v.spec.job) (sym c.self-inside.view_is) ∙ c.in-Pair.is))
    ((λ t. absurd (let no : true ≡ false = sym t ∙ c.if-same.false in cc)), (λ h. first.1 (h.0 ∙ sym at_i))))

pub returns-in-Right : goal.returns-in-Right
returns-in-Right c =
    let run = c.args.lead.now in
    let own = c.self.inside in
    let i = c.in-Right.i in
    let m = c.same-in-Right.ensures (element own.used i) (element c.deref-in-Right.result.now i) (subst (λ (v : Inside). MatchOption c.get-in-Right.result (element v.used i ≡ []) (λ p. p.now ≡ element v.used i)) c.self-inside.view_is c.get-in-Right.ensures) c.at-in-Right.ensures in
    let at_i = ap (λ fs. element fs i) (c.deref-in-Right.ensures.value ∙ c.basis-basis.ensures.value) in
    subst (λ (v : SealedSpec). (IsTrue c.same-in-Right.result → SameStart v.generators v.elements run.generators run.basis v.spec.job) × (SameStart v.generators v.elements run.generators run.basis v.spec.job → IsTrue c.same-in-Right.result)) c.self.view_is
    (subst (λ k. (IsTrue c.same-in-Right.result → SameStart own.gens.now own.used run.generators run.basis k) × (SameStart own.gens.now own.used run.generators run.basis k → IsTrue c.same-in-Right.result)) (sym (ap (λ (v : Inside). v.spec.job) (sym c.self-inside.view_is) ∙ c.in-Right.is))
    ((λ t. m.0 t ∙ at_i), (λ h. m.1 (h ∙ sym at_i))))
