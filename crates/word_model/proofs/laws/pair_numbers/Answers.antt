use Rattle.word_model.proofs.PairNumbers.{pair_index-first, pair_index-next, pair_index-next_row, pair_index-last}
use Rattle.word_model.proofs.laws.pair_numbers.Goals as goal

pub returns : goal.returns
returns c = record { first = pair_index-first; next = pair_index-next; next_row = pair_index-next_row; last = pair_index-last }
