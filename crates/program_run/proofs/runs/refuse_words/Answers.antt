use Rattle.std.proofs.Common.{refl, sym, subst}
use Rattle.program_model.specs.Runs.{IsReplied}
use Rattle.program_model.proofs.Replied.{words_replied}
use Rattle.program_run.proofs.Stopping.{memory_wanting}
use Rattle.program_run.proofs.runs.refuse_words.Goals as goal

pub returns-in-Ok : goal.returns-in-Ok
returns-in-Ok g c words source refused =
    let program = c.args.program in
    c.write_reply.ensures program words source source (subst (IsReplied program words source source) (sym c.in-Ok.ensures) (words_replied program words source refused))

pub returns-in-Err : goal.returns-in-Err
returns-in-Err g c words source refused = memory_wanting c.args.program words source source _ 7 refl
