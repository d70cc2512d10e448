use Rattle.monomials.proofs.Masks.{mask-divides}
use Rattle.monomials.proofs.laws.masks_divide.Goals as goal

pub returns : goal.returns
returns c = mask-divides
