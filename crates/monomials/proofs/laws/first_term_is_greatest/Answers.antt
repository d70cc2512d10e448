use Rattle.monomials.proofs.Operations.{above_each}
use Rattle.monomials.proofs.laws.first_term_is_greatest.Goals as goal

pub returns : goal.returns
returns c p order t f h = above_each p order t.1 f h.canonical.3 h.canonical.2
