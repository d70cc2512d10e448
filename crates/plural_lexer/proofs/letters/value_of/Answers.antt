use Rattle.std.proofs.Common.{arith, sym}
use Rattle.plural_lexer.proofs.Digits.{digit_at, below_most_digits, below_power, digits_value_more}
use Rattle.plural_lexer.proofs.letters.value_of.Goals as goal

pub overflow_mul-value : goal.overflow_mul-value
overflow_mul-value c =
    omega (arith, below_most_digits c.loop-digit.digit-index c.loop-digit.value (omega arith) c.loop-digit.invariant.small)

pub overflow_add-value : goal.overflow_add-value
overflow_add-value c =
    let small = below_most_digits c.loop-digit.digit-index c.loop-digit.value (omega arith) c.loop-digit.invariant.small in
    omega (arith, digit_at c.args.digits.now c.loop-digit.digit-index c.requires.digits c.loop-digit-test.true)

pub loop-digit-preserved : goal.loop-digit-preserved
loop-digit-preserved c =
    let digit = digit_at c.args.digits.now c.loop-digit.digit-index c.requires.digits c.loop-digit-test.true in
    record {
      value = rw (c.loop-digit.invariant.value, c.from.ensures) (sym (digits_value_more c.args.digits.now c.loop-digit.digit-index c.loop-digit-test.true));
      small = below_power c.loop-digit.digit-index c.loop-digit.value c.from.result c.loop-digit.invariant.small (omega (arith, c.from.ensures, digit));
    }
