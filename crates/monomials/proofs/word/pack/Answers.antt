use Rattle.std.proofs.Common.{arith}
use Rattle.monomials.proofs.Lanes.{packed, words_below}
use Rattle.monomials.proofs.word.pack.Goals as goal

pub returns-clause-whole : goal.returns-clause-whole
returns-clause-whole c =
    words_below c.word.result c.word-2.result c.word-3.result c.word-4.result
    c.word.ensures.below c.word-2.ensures.below c.word-3.ensures.below c.word-4.ensures.below

pub returns-clause-value : goal.returns-clause-value
returns-clause-value c =
    packed c.args.places.now c.word.result c.word-2.result c.word-3.result c.word-4.result c.told-places
    (λ k. omega (arith, c.fits-places k)) c.word.ensures.value c.word-2.ensures.value c.word-3.ensures.value c.word-4.ensures.value
