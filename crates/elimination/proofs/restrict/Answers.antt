use Rattle.std.proofs.Common.{◌≡◌, ◌∙◌, ◌++◌, ℕ, List, sym, ap, subst}
use Rattle.std.proofs.lemmas.List.{drop_all, append-nil}
use Rattle.monomials.specs.Polynomials.{Polynomial, Each, HasVars, IsPolynomial}
use Rattle.word_model.specs.Elimination.{restricted, InIdealFreeOf}
use Rattle.elimination.proofs.Restricted.{restricted-sorted, polynomials-vars, basis-vars}
use Rattle.elimination.proofs.restrict.Goals as goal

kept : (c : goal.After-loop-poly) (n : ℕ) → Each (HasVars n) c.args.list.now → restricted n c.args.vars.now c.args.list.now ≡ c.loop-poly.kept.items
kept c n vars =
    c.loop-poly.invariant.list n vars
    ∙ ap (λ (F : List Polynomial). c.loop-poly.kept.items ++ restricted n c.args.vars.now F) (drop_all c.loop-poly.poly-index c.args.list.now c.loop-poly-test.false)
    ∙ append-nil c.loop-poly.kept.items

pub returns-clause-sorted : goal.returns-clause-sorted
returns-clause-sorted c =
    λ p old sorted.
    subst (Each (IsPolynomial p old)) (kept c old.vars (polynomials-vars p _ c.args.list.now sorted)) (restricted-sorted p c.args.vars.now old c.args.list.now sorted)

pub returns-clause-ideal : goal.returns-clause-ideal
returns-clause-ideal c =
    λ A old gens f ok well is sorted r.
    let both = c.eliminations.ensures.ideal A c.args.vars.now old gens c.args.list.now f ok well is sorted r in
    let same : restricted A.order.vars c.args.vars.now c.args.list.now ≡ c.loop-poly.kept.items = kept c A.order.vars (basis-vars A ok gens c.args.list.now r) in (
      λ h. subst (λ (F : List Polynomial). InIdealFreeOf A c.args.vars.now F f) same (both.0 h.0 h.1),
      λ h. both.1 (subst (λ (F : List Polynomial). InIdealFreeOf A c.args.vars.now F f) (sym same) h),
    )
