use Rattle.std.proofs.Common.{◌≡◌, ◌<◌, length, sym, ap, ◌∙◌, subst, arith}
use Rattle.prime_field.specs.Modular.{IsPrime, inverse}
use Rattle.monomials.specs.Polynomials.{Polynomial, IsPolynomial, poly_scale}
use Rattle.monomials.specs.Leading.{leading_coefficient}
use Rattle.monomials.proofs.Operations.{HasNumbers-polynomial}
use Rattle.word_model.specs.Words.{Algebra}
use Rattle.word_model.specs.Jobs.{job_sugar, element_sugar}
use Rattle.word_model.specs.Machine.{On}
use Rattle.word_model.specs.declared.records.Entry.TheVariants.{New}
use Rattle.left_reduce.specs.Reductions.{GoneOn}
use Rattle.commit_core.specs.Leads.{Run}
use Rattle.commit_core.specs.Kept.{Turns, reduction_of}
use Rattle.commit_core.proofs.Turning.{scale-is}
use Rattle.commit_core.proofs.Leading.{admits, turn-element}
use Rattle.commit_core.proofs.lead.Lead.enter_element.Goals as goal

pub monic-requires-clause-numbers : goal.monic-requires-clause-numbers
monic-requires-clause-numbers c =
    let rest : c.args.reduced.rest ≡ c.reduced.inside.rest = ap (λ (r : GoneOn). r.rest) (sym c.reduced.view_is) in
    rw (c.field.ensures, ← rest) (HasNumbers-polynomial c.args.alg.now.p c.args.alg.now.order c.args.reduced.rest c.requires.sorted)

pub admit-requires-clause-element : goal.admit-requires-clause-element
admit-requires-clause-element c =
    let rest : c.args.reduced.rest ≡ c.reduced.inside.rest = ap (λ (r : GoneOn). r.rest) (sym c.reduced.view_is) in
    let element = c.in_ok-element.element in
    let sorted = subst (λ (f : Polynomial). IsPolynomial c.args.alg.now.p c.args.alg.now.order f) rest c.requires.sorted in
    let here : IsPolynomial c.field.result c.args.alg.now.order c.reduced.inside.rest = rw c.field.ensures sorted in
    let is : IsPolynomial c.field.result c.args.alg.now.order element = c.in_ok-element.ensures.sorted c.args.alg.now.order here in
    let made : IsPolynomial c.args.alg.now.p c.args.alg.now.order element = rw (← c.field.ensures) is in (
      subst (λ (A : Algebra). IsPolynomial A.p A.order element) c.requires.algebra made,
      λ none. (let no : 1 ≡ 0 = sym c.in_ok-element.ensures.monic ∙ ap leading_coefficient none in cc),
    )

pub admit-requires-clause-turn : goal.admit-requires-clause-turn
admit-requires-clause-turn c =
    let run = c.args.self.now in
    let A : Algebra = run.algebra in
    let r = c.args.reduced in
    let scale = c.in_ok-element.scale in
    let element = c.in_ok-element.element in
    let trace : c.reduced.inside.trace ≡ r.trace = ap (λ (g : GoneOn). g.trace) c.reduced.view_is in
    let rest : c.reduced.inside.rest ≡ r.rest = ap (λ (g : GoneOn). g.rest) c.reduced.view_is in
    let field : c.field.result ≡ A.p = c.field.ensures ∙ ap (λ (B : Algebra). B.p) c.requires.algebra in
    let prime = subst (λ (B : Algebra). IsPrime B.p) c.requires.algebra c.n-n.ensures.prime in
    let count : length run.basis ≡ c.len.result =
    ap (λ (run : Run). length run.basis) (sym c.self.view_is) ∙ omega (arith, c.len.ensures, c.self.inside.progress.basis.ok.0) in
    let room : length run.basis < 2048 = omega (arith, count, c.if-len-ge-MOST_ELEMENTS.false) in
    let is : scale ≡ inverse A.p (leading_coefficient r.rest) =
    scale-is A.p c.field.result (leading_coefficient c.reduced.inside.rest) (leading_coefficient r.rest) scale prime field
    (ap leading_coefficient rest) c.in_ok-element.ensures.scale c.in_ok-element.ensures.in_range in
    let monic : element ≡ poly_scale A.p scale r.rest =
    c.in_ok-element.ensures.value ∙ ap (λ p. poly_scale p scale c.reduced.inside.rest) field ∙ ap (poly_scale A.p scale) rest in
    let sweet = c.sugar_of-sugar.ensures.value ∙ ap (element_sugar run.sugars (job_sugar run.generators run.basis run.sugars c.args.job)) trace in
    subst (λ t. Turns run (λ s. On (admits run.mode A.order.vars c.args.job (New c.args.job t scale) element c.sugar_of-sugar.result s))) (sym trace)
    (turn-element run c.args.job (reduction_of r) c.requires.turn scale element c.sugar_of-sugar.result room is monic sweet)
