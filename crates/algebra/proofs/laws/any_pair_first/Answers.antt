use Rattle.word_model.proofs.Confluence.{normal_form-pair}
use Rattle.algebra.proofs.ProductLaws.{word_value-pair}
use Rattle.algebra.proofs.laws.any_pair_first.Goals as goal

pub returns : goal.returns
returns c =
    let a = c.args.alg.now in
    let accepted = c.n-n.ensures.accepted in
    record {
      word = normal_form-pair a accepted.downward accepted.confluent accepted.field.more;
      sum = word_value-pair a accepted;
    }
