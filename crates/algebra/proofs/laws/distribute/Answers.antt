use Rattle.std.proofs.Common.{◌<◌, arith}
use Rattle.word_model.proofs.Distribution.{product-left, product-right}
use Rattle.algebra.proofs.ProductLaws.{product-scale_left, product-scale_right, product-one_left, product-one_right}
use Rattle.algebra.proofs.laws.distribute.Goals as goal

pub returns : goal.returns
returns c =
    let a = c.args.alg.now in
    let above_one = c.n-n.ensures.accepted.field.more in
    let positive : 0 < a.p = omega (arith, above_one) in
    record {
      sum_left = product-left a positive;
      sum_right = product-right a positive;
      multiple_left = product-scale_left a above_one;
      multiple_right = product-scale_right a above_one;
      one_left = product-one_left a above_one;
      one_right = product-one_right a above_one;
    }
