use Rattle.std.proofs.Common.{◌≡◌, List, sym, ◌∙◌, ap, subst}
use Rattle.monomials.specs.Polynomials.{Polynomial}
use Rattle.monomials.specs.WellFounded.{IsWellFounded}
use Rattle.word_model.specs.Words.{Algebra}
use Rattle.word_model.specs.Conditions.{IsGAlgebra}
use Rattle.word_model.specs.Finished.{FinishedList, finished}
use Rattle.word_model.specs.Machine.{Journal, machine}
use Rattle.word_model.specs.Ideals.{InLeftIdeal, IsReducedBasis}
use Rattle.word_model.specs.declared.records.Mode.TheVariants.{Left}
use Rattle.uses.specs.Ideals.{Ideal}
use Rattle.uses.specs.declared.LeftIdeal.TheInside.{Inside}
use Rattle.uses.specs.Inside.Solved.{IsSolved}
use Rattle.uses.proofs.LeftIdeal.basis.Goals as goal

pub returns-clause-reduced : goal.returns-clause-reduced
returns-clause-reduced c =
    let A : Algebra = c.self.inside.algebra in
    let gens : List Polynomial = c.self.inside.generators.items in
    let J : Journal = c.self.inside.run in
    let F : FinishedList = c.self.inside.finished in
    let kept : IsSolved A gens J F = c.self.invariant in
    let ok : IsGAlgebra A = subst (λ (i : Inside). IsGAlgebra i.algebra) c.self-inside.view_is c.n-n.ensures.accepted in
    let well : IsWellFounded A.order =
    subst (λ (i : Inside). IsWellFounded i.algebra.order) c.self-inside.view_is (subst IsWellFounded c.order.ensures c.order_is_well_founded.ensures.reached) in
    let run : J ≡ machine A gens Left kept.run.0 = kept.run.1 in
    let list : c.deref.result.now ≡ F.list =
    subst (λ (i : Inside). c.deref.result.now ≡ i.finished.list) c.self-inside.view_is c.deref.ensures.value in
    let reduced : IsReducedBasis A (InLeftIdeal A gens) F.list =
    c.finished_lists.ensures.reduced A gens Left kept.run.0 F ok well kept.sorted
    (ap (λ (J : Journal). J.outcome) (sym run) ∙ kept.over) (ap (λ (J : Journal). finished A J.basis) (sym run) ∙ kept.list) in
    subst (λ (i : Ideal). IsReducedBasis i.algebra (InLeftIdeal i.algebra i.generators) c.deref.result.now) c.self.view_is
    (subst (IsReducedBasis A (InLeftIdeal A gens)) (sym list) reduced)
