use Rattle.std.proofs.Common.{◌≡◌, IfSome, sym, ◌∙◌, subst}
use Rattle.monomials.specs.Polynomials.{IsPolynomial}
use Rattle.word_model.specs.Words.{Algebra}
use Rattle.word_model.specs.Conditions.{IsGAlgebra}
use Rattle.monomials.proofs.Keys.{Each-weaker}
use Rattle.run_records.specs.Ahead.{ReducedStart}
use Rattle.commit_core.specs.Leads.{IsLead}
use Rattle.commit_core.specs.Specs.{IsGood}
use Rattle.commit_core.specs.Begun.{IsBegun}
use Rattle.commit_core.proofs.Continuing.{good-rest, good-begun}
use Rattle.commit_core.proofs.lead.Lead.begin.Goals as goal

pub returns-in-Some-clause-value : goal.returns-in-Some-clause-value
returns-in-Some-clause-value g c =
    let run = c.args.self.now in
    let A : Algebra = run.algebra in
    let ok : IsGAlgebra A = subst IsGAlgebra (c.algebra.ensures ∙ c.requires.algebra) c.n-n.ensures.accepted in
    let is : IsLead run = c.facts.ensures in
    let good = subst (λ o. IfSome o (λ (s : ReducedStart). (s.job ≡ c.args.job) × IsGood A run.generators run.basis s)) c.in-Some.is c.requires.spec in
    subst (λ (s : ReducedStart). IsBegun A run.generators run.basis c.args.job s.rest s.trace) (sym c.spec.view_is)
    (subst (λ j. IsBegun A run.generators run.basis j c.in-Some.spec.rest c.in-Some.spec.trace) good.0
    (good-begun A ok run.generators run.basis is.generators (Each-weaker _ _ (λ g h. h.0) run.basis is.elements) c.in-Some.spec good.1))

pub returns-in-Some-clause-sorted : goal.returns-in-Some-clause-sorted
returns-in-Some-clause-sorted g c =
    let run = c.args.self.now in
    let A : Algebra = run.algebra in
    let ok : IsGAlgebra A = subst IsGAlgebra (c.algebra.ensures ∙ c.requires.algebra) c.n-n.ensures.accepted in
    let is : IsLead run = c.facts.ensures in
    let good = subst (λ o. IfSome o (λ (s : ReducedStart). (s.job ≡ c.args.job) × IsGood A run.generators run.basis s)) c.in-Some.is c.requires.spec in
    subst (λ (s : ReducedStart). IsPolynomial A.p A.order s.rest) (sym c.spec.view_is)
    (good-rest A ok run.generators run.basis is.generators (Each-weaker _ _ (λ g h. h.0) run.basis is.elements) c.in-Some.spec good.1)
