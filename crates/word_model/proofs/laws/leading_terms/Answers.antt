use Rattle.word_model.proofs.LeadingMonomials.{leading_monomial-product}
use Rattle.word_model.proofs.laws.leading_terms.Goals as goal

pub returns : goal.returns
returns c = record {
  nonzero = λ A f g field downward nonzero_numbers hf hg fs gs. (leading_monomial-product A field downward nonzero_numbers f g fs gs hf hg).0;
  leading = λ A f g field downward nonzero_numbers hf hg fs gs. (leading_monomial-product A field downward nonzero_numbers f g fs gs hf hg).1;
}
