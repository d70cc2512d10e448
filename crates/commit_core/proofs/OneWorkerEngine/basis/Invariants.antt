use Rattle.commit_core.proofs.OneWorkerEngine.basis.Given as goal

abbrev pub ghosts-led : goal.ghosts-led
ghosts-led a = record { name = a.blank.name; parts = a.blank.parts }
