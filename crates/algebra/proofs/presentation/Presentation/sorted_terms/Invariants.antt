use Rattle.gpoly.specs.Terms.{pairs_of}
use Rattle.algebra.specs.Inside.WordSums.{words_of}
use Rattle.algebra.proofs.Replacing.{IsRewriting, sum_measure}
use Rattle.algebra.proofs.presentation.Presentation.sorted_terms.Given as goal

abbrev pub invariant-loop-term : goal.invariant-loop-term
invariant-loop-term l = IsRewriting l.self (words_of l.fn.pending.items) (words_of l.pending.items) (pairs_of l.sorted.items)

abbrev pub decreases-loop-term : goal.decreases-loop-term
decreases-loop-term l = sum_measure l.self (words_of l.pending.items)
