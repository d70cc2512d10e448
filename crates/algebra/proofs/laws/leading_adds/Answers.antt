use Rattle.word_model.proofs.LeadingMonomials.{leading_monomial-product}
use Rattle.algebra.proofs.ProductLaws.{leading_coefficient-product}
use Rattle.algebra.proofs.laws.leading_adds.Goals as goal

pub returns : goal.returns
returns c =
    let a = c.args.alg.now in
    let accepted = c.n-n.ensures.accepted in
    record {
      nonzero = λ f g hf hg fs gs. (leading_monomial-product a accepted.field accepted.downward accepted.nonzero f g fs gs hf hg).0;
      monomial = λ f g hf hg fs gs. (leading_monomial-product a accepted.field accepted.downward accepted.nonzero f g fs gs hf hg).1;
      number = λ f g hf hg fs gs. leading_coefficient-product a accepted f g hf hg fs gs;
    }
