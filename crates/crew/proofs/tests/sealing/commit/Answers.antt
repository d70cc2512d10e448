use Rattle.commit_core.proofs.Running.{commit-algebra}
use Rattle.crew.proofs.tests.sealing.commit.Goals as goal

pub returns-clause-lead : goal.returns-clause-lead
returns-clause-lead g c = commit-algebra c.args.lead.now c.commit.new.self c.in_ok-_committed._committed c.in_ok-_committed.ensures.step
