use Rattle.std.proofs.Common.{◌≡◌, IsTrue, true, false, inl, inr, refl, sym, ap, ◌∙◌, subst, rules}
use Rattle.std.proofs.lemmas.Bool.{cases_eq}
use Rattle.word_model.specs.Reduction.{element}
use Rattle.crew.specs.Sealing.{SealedSpec}
use Rattle.crew.proofs.sealed.Sealed.same_used.Goals as goal
use Rattle.crew.proofs.sealed.Sealed.same_used.Goals.{After-same}

abbrev Same : (c : After-same) → Type 0
Same c = element c.args.self.now.elements c.args.i ≡ element c.args.basis.now.items c.args.i

forth : (c : After-same) → IsTrue c.same.result → Same c
forth c there =
    let own = c.self.inside in
    let k = c.args.i in
    let m = c.same.ensures (element own.used k) (element c.deref.result.now k) c.get.ensures c.at.ensures in
    ap (λ (v : SealedSpec). element v.elements k) (sym c.self.view_is) ∙ m.0 there ∙ ap (λ fs. element fs k) c.deref.ensures.value

back : (c : After-same) → Same c → IsTrue c.same.result
back c is =
    let own = c.self.inside in
    let k = c.args.i in
    let m = c.same.ensures (element own.used k) (element c.deref.result.now k) c.get.ensures c.at.ensures in
    m.1 (ap (λ (v : SealedSpec). element v.elements k) c.self.view_is ∙ is ∙ ap (λ fs. element fs k) (sym c.deref.ensures.value))

pub returns-then-not-same-clause-same : goal.returns-then-not-same-clause-same
returns-then-not-same-clause-same c = (
  (λ t. absurd (let bad : false ≡ true = t in cc)),
  (λ h. let there : IsTrue c.same.result = back (goal.at.returns-then-not-same-clause-same c).After-same h in search (rules, there, c.if-not-same.true)),
)

pub returns-clause-same : goal.returns-clause-same
returns-clause-same c = ((λ _. forth (goal.at.returns-clause-same c).After-same (search (rules, c.if-not-same.false))), (λ _. refl))

pub returns-clause-compared : goal.returns-clause-compared
returns-clause-compared c = λ k marked. elim (cases_eq k c.args.i) [
  | inl is ↦ subst (λ x. element c.args.self.now.elements x ≡ element c.args.basis.now.items x) (sym is) (forth (goal.at.returns-clause-compared c).After-same (search (rules, c.if-not-same.false)))
  | inr other ↦ c.requires.compared k (c.note.ensures k marked other)
]
