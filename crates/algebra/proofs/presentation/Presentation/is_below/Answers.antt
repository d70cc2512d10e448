use Rattle.std.proofs.Common.{◌∙◌, ◌∷◌, [], sym, ap, length}
use Rattle.word_model.proofs.Letters.{length-counts_from}
use Rattle.algebra.proofs.presentation.Presentation.is_below.Goals as goal

pub compare-requires-clause-b_fits : goal.compare-requires-clause-b_fits
compare-requires-clause-b_fits c =
    ap length c.monomial_of-pair.ensures
    ∙ length-counts_from 1 c.n.result (c.args.i ∷ c.args.j ∷ [])
    ∙ c.n.ensures.value
    ∙ sym (ap (λ o. o.vars) c.order.ensures)
