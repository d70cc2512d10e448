use Rattle.left_reduce.proofs.tests.start.Given as goal

-- the ledger of the blank
abbrev pub ghosts-counted_start : goal.ghosts-counted_start
ghosts-counted_start a = record { name = a.blank.name; parts = a.blank.parts }
