use Rattle.std.proofs.Common.{Err, ap}
use Rattle.script_rings.specs.Walks.{ordered}
use Rattle.script_rings.proofs.Walking.{checked-some, checked-none}
use Rattle.script_rings.proofs.blocks.checked_order.Goals as goal

pub returns-in-Ok-clause-checked : goal.returns-in-Ok-clause-checked
returns-in-Ok-clause-checked c = checked-some c.args.n c.args.blocks.now c.in-Ok.ensures.covered c.in-Ok.ensures.weighted

pub returns-in-Err-Cover-clause-refused : goal.returns-in-Err-Cover-clause-refused
returns-in-Err-Cover-clause-refused c =
    ap ordered (checked-none c.args.n c.args.blocks.now (λ covers w. c.in-Err-Cover.ensures.cover (ap Err c.in-Err-Cover.field-0-is) covers))

pub returns-in-Err-Weight-clause-refused : goal.returns-in-Err-Weight-clause-refused
returns-in-Err-Weight-clause-refused c =
    ap ordered (checked-none c.args.n c.args.blocks.now (λ covers w. c.in-Err-Weight.ensures.weight (ap Err c.in-Err-Weight.field-0-is) w))
