use Rattle.gproduct.proofs.KeptFactors.{all_still_kept}
use Rattle.gproduct.proofs.kept.KeptProducts.set_factor.Goals as goal

pub returns-in_err-add_factor-clause-kept : goal.returns-in_err-add_factor-clause-kept
returns-in_err-add_factor-clause-kept c A are =
    all_still_kept A c.free.new.self.factors.items c.add_factor.new.factors.items c.add_factor.ensures.others c.free.new.self.slots.items (c.free.ensures.kept A are)

pub returns-clause-kept : goal.returns-clause-kept
returns-clause-kept c A are =
    all_still_kept A c.free.new.self.factors.items c.add_factor.new.factors.items c.add_factor.ensures.others c.free.new.self.slots.items (c.free.ensures.kept A are)
