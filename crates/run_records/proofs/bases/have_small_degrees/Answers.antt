use Rattle.std.proofs.Common.{◌≤◌, ◌+◌, ◌∷◌, ◌∙◌, sym, ap, subst, drop}
use Rattle.std.proofs.lemmas.List.{drop_more, drop_all}
use Rattle.monomials.specs.Polynomials.{Each, poly_degree}
use Rattle.gpoly.proofs.TermLists.{poly_degree_small}
use Rattle.word_model.specs.Products.{degree_limit}
use Rattle.run_records.proofs.bases.have_small_degrees.Goals as goal

pub loop-poly-init : goal.loop-poly-init
loop-poly-init c = λ all. all

pub loop-poly-preserved : goal.loop-poly-preserved
loop-poly-preserved c =
    let fs = c.args.polys.now in
    let i = c.loop-poly.poly-index in
    let f = c.poly-item.result in
    λ rest. c.loop-poly.invariant
    (subst (Each (λ f. poly_degree f ≤ degree_limit)) (sym (drop_more fs i f c.loop-poly-test.true ∙ ap (λ g. g ∷ drop (i + 1) fs) (sym c.poly-item.is)))
    (poly_degree_small 4095 f c.terms-terms.ensures.facts.small, rest))

pub returns : goal.returns
returns c = c.loop-poly.invariant (subst (Each (λ f. poly_degree f ≤ degree_limit)) (sym (drop_all c.loop-poly.poly-index c.args.polys.now c.loop-poly-test.false)) tt)
