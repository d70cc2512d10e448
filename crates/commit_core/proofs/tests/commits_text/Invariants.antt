use Rattle.commit_core.proofs.tests.commits_text.Given as goal

abbrev pub ghosts-commits : goal.ghosts-commits
ghosts-commits a = record { name = a.blank.name; parts = a.blank.parts }
