use Rattle.std.proofs.Common.{◌≤◌, ◌∙◌, Bool, get_or, sym, subst}
use Rattle.elimination.proofs.FreeTerms.{term_vars, term_decides}
use Rattle.elimination.proofs.free.is_free.Goals as goal

pub avoids-requires : goal.avoids-requires
avoids-requires c =
    λ k d inside.
    let range = c.requires.2 k d inside in
    let same = term_vars c.terms-term-items.result.now c.args.poly.now c.terms-term-items.ensures.value c.loop-term.term-index c.term-item.result c.loop-term-test.true c.term-item.is c.requires.0 c.requires.1 in
    (range.0, subst (λ n. get_or c.args.vars.now k d ≤ n) (sym same) range.1)

pub returns-then-not-avoids : goal.returns-then-not-avoids
returns-then-not-avoids c =
    λ n vars.
    sym (c.loop-term.invariant n vars
    ∙ term_decides c.terms-term-items.result.now c.args.poly.now c.terms-term-items.ensures.value c.loop-term.term-index c.term-item.result c.loop-term-test.true c.term-item.is n vars
    c.args.vars.now Bool.false (sym c.avoids.ensures ∙ c.if-not-avoids.true))

pub loop-term-preserved : goal.loop-term-preserved
loop-term-preserved c =
    λ n vars.
    c.loop-term.invariant n vars
    ∙ term_decides c.terms-term-items.result.now c.args.poly.now c.terms-term-items.ensures.value c.loop-term.term-index c.term-item.result c.loop-term-test.true c.term-item.is n vars
    c.args.vars.now Bool.true (sym c.avoids.ensures ∙ c.if-not-avoids.false)
