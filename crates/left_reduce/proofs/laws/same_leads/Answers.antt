use Rattle.left_reduce.proofs.Agreeing.{same_reduction}
use Rattle.left_reduce.proofs.laws.same_leads.Goals as goal

pub returns : goal.returns
returns c = λ G H h G_are H_are h_is same used. same_reduction G H same c.args.alg.now c.n-n.ensures.accepted G_are H_are h h_is used
