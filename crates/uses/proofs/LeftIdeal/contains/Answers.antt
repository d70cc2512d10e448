use Rattle.std.proofs.Common.{◌≡◌, ◌↔◌, IsTrue, false, List, [], sym, ◌∙◌, ap, subst}
use Rattle.monomials.specs.Polynomials.{Polynomial, IsPolynomial}
use Rattle.monomials.specs.WellFounded.{IsWellFounded}
use Rattle.word_model.specs.Words.{Algebra}
use Rattle.word_model.specs.Conditions.{IsGAlgebra}
use Rattle.word_model.specs.Reduction.{normal_form_by}
use Rattle.word_model.specs.Finished.{FinishedList, finished}
use Rattle.word_model.specs.Machine.{Journal, machine}
use Rattle.word_model.specs.Ideals.{InLeftIdeal}
use Rattle.word_model.specs.declared.records.Mode.TheVariants.{Left}
use Rattle.uses.specs.Ideals.{Ideal}
use Rattle.uses.specs.declared.LeftIdeal.TheInside.{Inside}
use Rattle.uses.specs.Inside.Solved.{IsSolved}
use Rattle.uses.proofs.LeftIdeal.contains.Goals as goal

pub returns : goal.returns
returns g c =
    let A : Algebra = c.self.inside.algebra in
    let gens : List Polynomial = c.self.inside.generators.items in
    let J : Journal = c.self.inside.run in
    let F : FinishedList = c.self.inside.finished in
    let f : Polynomial = c.args.operator.now in
    let kept : IsSolved A gens J F = c.self.invariant in
    let ok : IsGAlgebra A = subst (λ (i : Inside). IsGAlgebra i.algebra) c.self-inside.view_is c.n-n.ensures.accepted in
    let well : IsWellFounded A.order =
    subst (λ (i : Inside). IsWellFounded i.algebra.order) c.self-inside.view_is (subst IsWellFounded c.order.ensures c.order_is_well_founded.ensures.reached) in
    let run : J ≡ machine A gens Left kept.run.0 = kept.run.1 in
    let sorted : IsPolynomial A.p A.order f = subst (λ (i : Ideal). IsPolynomial i.algebra.p i.algebra.order f) (sym c.self.view_is) c.requires.sorted in
    let defined : (normal_form_by A F.list f).over ≡ false =
    subst (λ (i : Inside). (normal_form_by i.algebra i.finished.list f).over ≡ false) c.self-inside.view_is c.in_ok-rest.ensures.defined in
    let rest : (normal_form_by A F.list f).rest ≡ c.in_ok-rest.rest =
    subst (λ (i : Inside). (normal_form_by i.algebra i.finished.list f).rest ≡ c.in_ok-rest.rest) c.self-inside.view_is c.in_ok-rest.ensures.rest in
    let decides : InLeftIdeal A gens f ↔ ((normal_form_by A F.list f).rest ≡ []) =
    c.members_have_normal_form_zero.ensures A gens Left kept.run.0 F f ok well kept.sorted
    (ap (λ (J : Journal). J.outcome) (sym run) ∙ kept.over) (ap (λ (J : Journal). finished A J.basis) (sym run) ∙ kept.list) sorted defined in
    record {
      member = subst (λ (i : Ideal). IsTrue c.is_zero.result ↔ InLeftIdeal i.algebra i.generators f) c.self.view_is
          ((λ zero. decides.1 (rest ∙ c.is_zero.ensures.0 zero)), (λ member. c.is_zero.ensures.1 (sym rest ∙ decides.0 member)));
    }
