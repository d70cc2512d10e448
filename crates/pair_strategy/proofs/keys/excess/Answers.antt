use Rattle.std.proofs.Common.{◌≡◌, ap, ◌∙◌, arith}
use Rattle.monomials.specs.Monomials.{degree}
use Rattle.monomials.specs.Leading.{leading_monomial}
use Rattle.word_model.specs.Reduction.{element}
use Rattle.word_model.proofs.Sugars.{AreSugars-length, AreSugars-element, lead_degree}
use Rattle.pair_strategy.proofs.keys.excess.Goals as goal

pub bounds-sugars-i : goal.bounds-sugars-i
bounds-sugars-i g c =
    omega (arith, AreSugars-length (g.B.Elements.elements c.args.basis.now) c.args.sugars.now c.requires.sugars, c.requires.first, c.requires.last)

pub overflow_sub-result-2 : goal.overflow_sub-result-2
overflow_sub-result-2 g c =
    let f = element (g.B.Elements.elements c.args.basis.now) c.args.i in
    let lead : degree c.lead.result.now.mono ≡ degree (leading_monomial f) = ap degree (c.lead.ensures.mono ∙ ap leading_monomial c.at.ensures) in
    omega (arith, c.degree.ensures.value, lead, lead_degree f, AreSugars-element (g.B.Elements.elements c.args.basis.now) c.args.sugars.now c.args.i c.requires.sugars)

pub returns-clause-sum : goal.returns-clause-sum
returns-clause-sum g c =
    let f = element (g.B.Elements.elements c.args.basis.now) c.args.i in
    let lead : degree c.lead.result.now.mono ≡ degree (leading_monomial f) = ap degree (c.lead.ensures.mono ∙ ap leading_monomial c.at.ensures) in
    omega (arith, c.degree.ensures.value, lead, lead_degree f, AreSugars-element (g.B.Elements.elements c.args.basis.now) c.args.sugars.now c.args.i c.requires.sugars)
