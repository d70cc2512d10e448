use Rattle.std.proofs.Common.{◌<◌, arith, subst, sym}
use Rattle.prime_field.proofs.Inverses.{no_zero_divisors}
use Rattle.prime_field.proofs.Field.mul.Goals as goal

pub returns-clause-not_zero : goal.returns-clause-not_zero
returns-clause-not_zero c = λ a_positive b_positive.
    subst (λ r. 0 < r) (sym c.remainder.ensures) (no_zero_divisors c.self.inside.p c.args.a c.args.b c.self.invariant a_positive (omega arith) b_positive (omega arith))
