use Rattle.monomials.proofs.Coefficients.{coefficients_decide}
use Rattle.monomials.proofs.laws.coefficients_decide.Goals as goal

pub returns : goal.returns
returns c = coefficients_decide
