use Rattle.std.proofs.lemmas.Result.{IfOk-weaker}
use Rattle.program_model.proofs.Replied.{made_replied, source_replied}
use Rattle.program_run.proofs.replies.reply_to_script.Goals as goal

pub returns-in_ok-reply_to_made-in-Some-clause-reply : goal.returns-in_ok-reply_to_made-in-Some-clause-reply
returns-in_ok-reply_to_made-in-Some-clause-reply g c program words told = made_replied program words _ c.args.settings c.in-Some.number _ told c.in-Some.is c.in_ok-reply_to_made-in-Some.ensures.value

pub returns-in-None-clause-reply : goal.returns-in-None-clause-reply
returns-in-None-clause-reply g c program words told =
    IfOk-weaker c.reply_to_source.result _ _ (λ reply is. source_replied program words _ _ c.args.settings is.0 reply told c.in-None.is is.1 is.2) c.reply_to_source.ensures.reply
