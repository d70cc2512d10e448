use Rattle.std.proofs.Common.{take, ap, ◌∙◌}
use Rattle.plural_io.specs.Reads.{behind_all}
use Rattle.word_model.specs.Answers.{Answer}
use Rattle.program_model.specs.Runs.{undisturbed}
use Rattle.program_model.proofs.Replied.{text_written, text_cut}
use Rattle.program_run.proofs.runs.write_reply.Goals as goal

pub returns-in-Ok : goal.returns-in-Ok
returns-in-Ok g c program words source source' replied =
    let held = c.in-Ok.ensures.ok ∙ ap (behind_all (g.K.Sink.held c.args.sink.now)) (c.deref.ensures.value ∙ ap (λ (a : Answer). a.text) c.reply.view_is) in
    undisturbed _ (text_written program words source source' c.args.reply.now replied _ _ _ (ap (λ (a : Answer). a.status) c.reply.view_is) held)

pub returns-in-Err : goal.returns-in-Err
returns-in-Err g c program words source source' replied =
    let cut = c.in-Err.ensures.prefix in
    let held = cut.2 ∙ ap (λ z. behind_all (g.K.Sink.held c.args.sink.now) (take cut.0 z)) (c.deref.ensures.value ∙ ap (λ (a : Answer). a.text) c.reply.view_is) in
    text_cut program words source source' c.args.reply.now replied _ _ cut.0 c.in-Err.ensures.failed held
