use Rattle.std.proofs.Common.{◌≡◌, List, None, sym, ◌∙◌, subst, arith}
use Rattle.std.specs.List.{find}
use Rattle.board.specs.Boards.{standing}
use Rattle.word_model.specs.declared.records.Job.{Job}
use Rattle.replay.specs.Worlds.{is_off}
use Rattle.replay.proofs.Showing.{find-ahead, all_jobs}
use Rattle.replay.proofs.world.first_waiting.Goals as goal

pub returns-in-Some-clause-value : goal.returns-in-Some-clause-value
returns-in-Some-clause-value c =
    sym (find-ahead c.args.board.now.log c.args.lead.now.jobs c.in_ok-jobs.jobs.items c.loop-round.count c.in-Some.job c.in_ok-jobs.ensures.value (sym c.first_off.ensures ∙ c.in-Some.is))

pub returns-then-len-count-clause-value : goal.returns-then-len-count-clause-value
returns-then-len-count-clause-value c =
    let all = all_jobs c.in_ok-jobs.jobs.items c.args.lead.now.jobs c.loop-round.count c.in_ok-jobs.ensures.value (omega (arith, c.len.ensures, c.if-len-count.true)) in
    sym (subst (λ (js : List Job). find (λ j. is_off (standing c.args.board.now.log j)) js ≡ None) all (sym c.first_off.ensures ∙ c.in_default.is))
