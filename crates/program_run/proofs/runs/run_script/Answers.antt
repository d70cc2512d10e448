use Rattle.std.proofs.Common.{Err, ap}
use Rattle.program_run.proofs.Stopping.{run_stopped}
use Rattle.program_run.proofs.runs.run_script.Goals as goal

pub returns-in-Ok-clause-run : goal.returns-in-Ok-clause-run
returns-in-Ok-clause-run g c program words told = c.write_reply.ensures program words _ _ (c.in-Ok.ensures.reply program words told)

pub returns-in-Err-clause-run : goal.returns-in-Err-clause-run
returns-in-Err-clause-run g c program words told =
    run_stopped program words _ _ _ c.args.settings told c.in-Err.stopped _ c.status.ensures.read c.status.ensures.memory (λ e. c.in-Err.ensures.read (ap Err e))
