use Rattle.std.proofs.Common.{◌≡◌, ◌++◌, length}
use Rattle.word_model.specs.Words.{sorted_word}
use Rattle.gproduct.specs.Inside.Factors.{HaveVars, stacked_word}
use Rattle.gproduct.proofs.front.join_front.Given as goal

abbrev pub invariant-loop-right : goal.invariant-loop-right
invariant-loop-right l = record {
  left_vars : length l.left ≡ l.n;
  vars : HaveVars l.n l.factors.items;
  word : sorted_word l.left ++ stacked_word l.factors.items ≡ stacked_word l.fn.factors.items;
}

abbrev pub decreases-loop-right : goal.decreases-loop-right
decreases-loop-right l = length l.factors.items
