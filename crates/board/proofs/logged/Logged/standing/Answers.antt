use Rattle.std.proofs.Common.{◌≡◌, true, sym, ap, ◌∙◌, subst, vec_len, vec_capacity}
use Rattle.word_model.specs.Jobs.{same_job}
use Rattle.word_model.proofs.JobLists.{same_job-is}
use Rattle.board.specs.declared.slots.Slot.{Slot}
use Rattle.board.specs.Boards.{standing}
use Rattle.board.specs.Logs.{LogValue}
use Rattle.board.proofs.Boards.{stands_at}
use Rattle.board.proofs.logged.Logged.standing.Goals as goal

pub returns-in-Some : goal.returns-in-Some
returns-in-Some c =
    let slot : Slot = c.at.result in
    let log = c.self.inside.log.items in
    let same : slot.job ≡ c.args.job.now = same_job-is slot.job c.args.job.now (subst (λ (z : Slot). same_job z.job c.args.job.now ≡ true) (c.at.ensures slot) (c.in-Some.ensures.1 slot)) in
    let at = stands_at log (vec_len c.self.inside.log) (vec_capacity c.self.inside.log) c.self.inside.slots c.self.inside.hands.items c.self.inside.shut c.in-Some.k slot c.self.invariant.0 c.in-Some.ensures.0 c.at.ensures in
    sym at.0 ∙ (ap (standing log) same ∙ ap (λ (v : LogValue). standing v.log c.args.job.now) c.self.view_is)
