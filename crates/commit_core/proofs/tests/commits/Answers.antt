use Rattle.std.proofs.Common.{sym, ◌∙◌}
use Rattle.commit_core.proofs.Running.{commit-algebra}
use Rattle.commit_core.proofs.tests.commits.Goals as goal

pub loop-turn-preserved : goal.loop-turn-preserved
loop-turn-preserved g c =
    c.commit.ensures.seat_algebra
    ∙ c.loop-turn.invariant
    ∙ sym (commit-algebra c.loop-turn.lead c.commit.new.self c.in_ok-committed.committed c.in_ok-committed.ensures.step)
