use Rattle.monomials.proofs.WellFoundedness.{no_descent}
use Rattle.monomials.proofs.laws.order_is_well_founded.Goals as goal

pub returns-clause-no_descent : goal.returns-clause-no_descent
returns-clause-no_descent c = no_descent c.args.order.now c.vars-n.ensures.well_founded
