use Rattle.replay.proofs.world.publish_spec.Goals as goal

pub returns-clause-kept : goal.returns-clause-kept
returns-clause-kept c = (c.publish-late.result, c.publish-late.ensures.kept)
