use Rattle.std.proofs.Common.{rules}
use Rattle.prime_field.proofs.Table.{prime_from_table}
use Rattle.prime_field.proofs.Field.of.Goals as goal

pub invariant_of-result : goal.invariant_of-result
invariant_of-result c = prime_from_table c.args.p (search rules)
