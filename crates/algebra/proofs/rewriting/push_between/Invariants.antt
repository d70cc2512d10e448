use Rattle.std.proofs.Common.{◌≡◌, ◌++◌, drop}
use Rattle.gpoly.specs.Terms.{pairs_of}
use Rattle.algebra.specs.Inside.WordSums.{words_of, reduced, between}
use Rattle.algebra.proofs.rewriting.push_between.Given as goal

abbrev pub invariant-loop-term : goal.invariant-loop-term
invariant-loop-term l =
    words_of l.words.items ++ reduced l.field (between l.coef l.front (pairs_of (drop l.term-index l.term-items)) l.back)
    ≡ words_of l.initial.words.items ++ reduced l.field (between l.coef l.front l.poly l.back)
