use Rattle.std.proofs.Common.{subst}
use Rattle.monomials.specs.WellFounded.{IsWellFounded}
use Rattle.word_model.proofs.RunIdeals.{run_laws}
use Rattle.run_records.proofs.bases.runs_have_laws.Goals as goal

pub returns : goal.returns
returns c = λ mode budget.
    run_laws c.args.alg.now c.n-n.ensures.accepted (subst IsWellFounded c.order.ensures c.order_is_well_founded.ensures.reached) c.args.gens.now c.requires.sorted
    c.have_small_degrees.ensures mode budget
