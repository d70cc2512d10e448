use Rattle.std.proofs.Common.{◌<◌, sym, subst}
use Rattle.monomials.specs.Polynomials.{HasNumbers}
use Rattle.gpoly.proofs.TermLists.{numbers_at}
use Rattle.algebra.proofs.rewriting.push_between.Goals as goal

pub mul-coef-requires-clause-b_in_range : goal.mul-coef-requires-clause-b_in_range
mul-coef-requires-clause-b_in_range c =
    subst (λ t. t.coef < c.args.field) (sym c.term-item.is)
    (numbers_at c.args.field c.terms-term-items.result.now c.loop-term.term-index _ c.loop-term-test.true
    (subst (HasNumbers c.args.field) (sym c.terms-term-items.ensures.value) c.requires.numbers))
