use Rattle.two_sided.proofs.tests.verdict.Given as goal

-- the ledger of the blank
abbrev pub ghosts-counted : goal.ghosts-counted
ghosts-counted a = record { name = a.blank.name; parts = a.blank.parts }
