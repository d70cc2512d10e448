use Rattle.std.proofs.Common.{◌<◌, sym, subst}
use Rattle.gpoly.proofs.TermLists.{numbers_at}
use Rattle.gproduct.proofs.multiplying.push_each.Goals as goal

pub mul-coef-requires-clause-b_in_range : goal.mul-coef-requires-clause-b_in_range
mul-coef-requires-clause-b_in_range c =
    subst (λ t. t.coef < c.args.field) (sym c.term-item.is)
    (numbers_at c.args.field c.args.terms.now c.loop-term.term-index _ c.loop-term-test.true c.requires.numbers)
