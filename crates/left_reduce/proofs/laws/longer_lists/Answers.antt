use Rattle.monomials.proofs.Keys.{Each-append}
use Rattle.word_model.proofs.Longer.{longer}
use Rattle.left_reduce.proofs.laws.longer_lists.Goals as goal

pub returns : goal.returns
returns c = λ G H h first second h_is. longer c.args.alg.now c.n-n.ensures.accepted G H first (Each-append _ G H first second) h h_is
