use Rattle.std.proofs.Common.{◌≡◌, true, false, sym, ◌∙◌, subst, rules}
use Rattle.word_model.specs.Products.{in_reach}
use Rattle.algebra.specs.Limited.{FailsWithin}
use Rattle.gproduct.proofs.Sums.{within_reach}
use Rattle.gproduct.proofs.swap.product_within.Goals as goal

pub unreachable-requires : goal.unreachable-requires
unreachable-requires c =
    let over : in_reach c.args.f.now c.args.g.now ≡ false =
    subst (FailsWithin (in_reach c.args.f.now c.args.g.now)) c.in-Err-DegreeOver.field-0-is c.in-Err-DegreeOver.ensures.reach in
    let both : true ≡ false = sym (within_reach c.args.f.now c.args.g.now c.requires.within) ∙ over in
    search rules
