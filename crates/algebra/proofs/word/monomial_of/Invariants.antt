use Rattle.std.proofs.Common.{◌≡◌, ℕ, suc, ◌<◌, ◌≤◌, length, take, get_or}
use Rattle.word_model.specs.Words.{count_of}
use Rattle.algebra.proofs.word.monomial_of.Given as goal

abbrev pub invariant-loop-letter : goal.invariant-loop-letter
invariant-loop-letter l = record {
  places : length l.exponents ≡ 16;
  counts : (v : ℕ) → v < length l.exponents → get_or l.exponents v 0 ≡ count_of (suc v) (take l.letter-index l.word);
  small : (v : ℕ) → get_or l.exponents v 0 ≤ l.letter-index;
}
