use Rattle.std.proofs.Common.{◌∙◌, ◌*◌, ◌%◌, ap}
use Rattle.prime_field.proofs.Inverses.{quotient_times}
use Rattle.prime_field.proofs.Field.div.Goals as goal

pub returns-clause-product : goal.returns-clause-product
returns-clause-product c =
    ap (λ x. (c.args.b * x) % c.args.self) c.mul.ensures.value
    ∙ quotient_times c.args.self c.args.a c.args.b c.inv.result c.inv.ensures.product c.requires.a_in_range
