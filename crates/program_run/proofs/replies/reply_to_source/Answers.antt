use Rattle.std.proofs.Common.{Err, sym, subst, ap, arith}
use Rattle.script_model.specs.Scripts.{IsAnswer, too_long}
use Rattle.program_run.proofs.replies.reply_to_source.Goals as goal

pub returns-in_ok-too_long-in-Err-TooLong-clause-reply : goal.returns-in_ok-too_long-in-Err-TooLong-clause-reply
returns-in_ok-too_long-in-Err-TooLong-clause-reply g c =
    let read = c.in-Err-TooLong.ensures.too_long (ap Err c.in-Err-TooLong.field-0-is) in (
      read.0,
      record { left = read.2; end = λ short. absurd (omega (arith, short, read.1)) },
      subst (IsAnswer c.args.pairs read.0) (sym c.in_ok-too_long-in-Err-TooLong.ensures) (too_long read.1),
    )
