use Rattle.std.proofs.Common.{◌≡◌, ℕ, Option, Some, None, MatchOption, [], IsTrue, sym, ap, ◌∙◌, subst}
use Rattle.monomials.specs.Polynomials.{Each, HasVars}
use Rattle.word_model.specs.Conditions.{IsGAlgebra}
use Rattle.word_model.specs.Reduction.{element, Target, leading_target}
use Rattle.crew.specs.declared.sealed.Sealed.TheInside.{Inside}
use Rattle.crew.specs.Sealing.{SealedSpec}
use Rattle.crew.proofs.Agreeing.{sealed-vars}
use Rattle.crew.proofs.sealed.Sealed.same_undefined.Goals as goal

pub next_index-requires-clause-vars : goal.next_index-requires-clause-vars
next_index-requires-clause-vars c =
    let own = c.self.inside in
    let accepted : IsGAlgebra own.algebra.now = subst (λ (v : Inside). IsGAlgebra v.algebra.now) c.self-inside.view_is c.n-n.ensures.accepted in
    let is = sealed-vars (record { algebra = own.algebra.now; generators = own.gens.now; elements = own.used; spec = own.spec }) accepted c.self.invariant in
    subst (λ (v : Inside). (n : ℕ) × HasVars n v.spec.rest × Each (HasVars n) v.used) (sym c.self-inside.view_is) (own.algebra.now.order.vars, is.0, is.1)

abbrev index_of : Option Target → ℕ
index_of None = 0
index_of (Some t) = t.1

pub returns-in-Some : goal.returns-in-Some
returns-in-Some c =
    let own = c.self.inside in
    let i = c.in-Some.i in
    let m = c.same.ensures (element own.used i) (element c.deref.result.now i) (subst (λ (v : Inside). MatchOption c.get.result (element v.used i ≡ []) (λ p. p.now ≡ element v.used i)) c.self-inside.view_is c.get.ensures) c.at.ensures in
    let there = ap (λ fs. element fs i) c.deref.ensures.value in
    let found = subst (λ (v : Inside). (t : Target) × (leading_target v.used v.spec.rest ≡ Some t) × (t.1 ≡ i)) c.self-inside.view_is c.in-Some.ensures in
    subst (λ (v : SealedSpec). (IsTrue c.same.result → (t : Target) → leading_target v.elements v.spec.rest ≡ Some t → element v.elements t.1 ≡ element c.args.basis.now.items t.1)
    × (((t : Target) → leading_target v.elements v.spec.rest ≡ Some t → element v.elements t.1 ≡ element c.args.basis.now.items t.1) → IsTrue c.same.result)) c.self.view_is (
      (λ yes t e. subst (λ x. element own.used x ≡ element c.args.basis.now.items x) (sym found.2 ∙ ap index_of (sym found.1 ∙ e)) (m.0 yes ∙ there)),
      (λ h. m.1 (subst (λ x. element own.used x ≡ element c.args.basis.now.items x) found.2 (h found.0 found.1) ∙ sym there)),
    )
