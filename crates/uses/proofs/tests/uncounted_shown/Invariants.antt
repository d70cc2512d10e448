use Rattle.uses.proofs.tests.uncounted_shown.Given as goal

-- the ledger of the blank
abbrev pub ghosts-shown : goal.ghosts-shown
ghosts-shown a = record { name = a.blank.name; parts = a.blank.parts }
