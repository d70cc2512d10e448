use Rattle.word_model.proofs.Degrees.{poly_degree-product}
use Rattle.algebra.proofs.laws.degree_bound.Goals as goal

pub returns : goal.returns
returns c = λ f g. poly_degree-product c.args.alg.now c.n-n.ensures.accepted.downward f g
