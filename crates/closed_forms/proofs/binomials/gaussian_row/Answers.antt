use Rattle.std.proofs.Common.{◌∙◌}
use Rattle.closed_forms.proofs.Digits.{found_base}
use Rattle.closed_forms.proofs.binomials.gaussian_row.Goals as goal

pub next_row-requires-clause-base : goal.next_row-requires-clause-base
next_row-requires-clause-base c =
    found_base c.args.field c.args.q c.args.n c.base_of-base.result c.deref.result.now (c.deref.ensures.value ∙ c.in_ok-q_numbers.ensures)
    c.base_of-base.ensures.positive c.base_of-base.ensures.within c.base_of-base.ensures.least c.base_of-base.ensures.zero_there
