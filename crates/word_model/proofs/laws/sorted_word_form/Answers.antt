use Rattle.word_model.proofs.Letters.{sorted_word-variable, monomial_of-sorted_word, length-word_from, degree-monomial_of}
use Rattle.word_model.proofs.Descents.{leftmost_descent-sorted_word}
use Rattle.word_model.proofs.Sorted.{sorted_word-monomial_of}
use Rattle.word_model.proofs.PairMonomials.{pair_monomial_is}
use Rattle.word_model.proofs.laws.sorted_word_form.Goals as goal

pub returns : goal.returns
returns c = record {
  variable = sorted_word-variable;
  monomial = monomial_of-sorted_word;
  no_descent = leftmost_descent-sorted_word;
  no_other = sorted_word-monomial_of;
  sorted_length = length-word_from 1;
  word_degree = degree-monomial_of;
  pair = pair_monomial_is;
}
