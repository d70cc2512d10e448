use Rattle.word_model.proofs.Degrees.{poly_degree-product}
use Rattle.word_model.proofs.laws.degree_bound.Goals as goal

pub returns : goal.returns
returns c = λ A f g downward. poly_degree-product A downward f g
